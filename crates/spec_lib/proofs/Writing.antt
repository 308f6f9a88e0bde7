-- A list that is read one element at a time and written as a text.
use Rattle.std.proofs.Common.{◌≡◌, ℕ, ◌+◌, ◌≤◌, List, [], ◌∷◌, ◌++◌, length, take, Option, Some, None, sym, ap, ◌∙◌, subst, arith, append-nil, append_assoc}
use Prim.Native.Nat.{zero, suc}
use Rattle.std.specs.Prelude.{slice_get, Result, Ok, Err, OnOk}
use Rattle.std.specs.List.{flat_map, enumerate_from}
use Rattle.std.specs.Io.KnownBytes.{Appends}
use Rattle.std.proofs.KnownBytes.{Appends-trans}
use Rattle.std.proofs.lemmas.List.{take_all}
use Rattle.std.proofs.lemmas.List.Concat.{flat_map-cons}

module _ {X : Type 0} (f : X → List ℕ) where
  taken_suc : (xs : List X) (i : ℕ) (x : X) → slice_get xs i ≡ Some x → flat_map f (take (suc i) xs) ≡ flat_map f (take i xs) ++ f x
  taken_suc [] i x at = cc
  taken_suc (y ∷ xs) zero x at = let same : y ≡ x = cc in flat_map-cons f y [] ∙ append-nil (f y) ∙ ap f same
  taken_suc (y ∷ xs) (suc i) x at =
      flat_map-cons f y (take (suc i) xs) ∙ ap (λ t. f y ++ t) (taken_suc xs i x at) ∙ sym (append_assoc (f y) (flat_map f (take i xs)) (f x))
      ∙ ap (λ t. t ++ f x) (sym (flat_map-cons f y (take i xs)))

  -- the text of the first elements and one more
  pub taken_next : (xs : List X) (i : ℕ) (x : X) → slice_get xs i ≡ Some x → flat_map f (take (i + 1) xs) ≡ flat_map f (take i xs) ++ f x
  taken_next xs i x at = let next : i + 1 ≡ suc i = omega arith in ap (λ n. flat_map f (take n xs)) next ∙ taken_suc xs i x at

  past : (xs : List X) (i : ℕ) → slice_get xs i ≡ None → length xs ≤ i
  past [] i at = omega arith
  past (y ∷ xs) zero at = cc
  past (y ∷ xs) (suc i) at = let rest = past xs i at in omega arith

  -- the text of the first elements, if there are no more
  pub taken_all : (xs : List X) (i : ℕ) → slice_get xs i ≡ None → flat_map f (take i xs) ≡ flat_map f xs
  taken_all xs i at = ap (flat_map f) (take_all i xs (past xs i at))

  -- the written text grows by one element
  pub Appends-next : (a b c : Option (List ℕ)) (xs : List X) (i : ℕ) (x : X) → Appends a b (flat_map f (take i xs)) → Appends b c (f x) → slice_get xs i ≡ Some x → Appends a c (flat_map f (take (i + 1) xs))
  Appends-next a b c xs i x before now at = subst (λ (t : List ℕ). Appends a c t) (sym (taken_next xs i x at)) (Appends-trans a b c (flat_map f (take i xs)) (f x) before now)

  -- the written text is complete at the end
  pub Appends-all : (a b : Option (List ℕ)) (xs : List X) (i : ℕ) → Appends a b (flat_map f (take i xs)) → slice_get xs i ≡ None → Appends a b (flat_map f xs)
  Appends-all a b xs i before at = subst (λ (t : List ℕ). Appends a b t) (taken_all xs i at) before

-- an element is written, and then those after it
pub Appends-step : {X : Type 0} (f : X → List ℕ) (a b whole : Option (List ℕ)) (x : X) (xs all : List X) → all ≡ x ∷ xs → Appends a b (f x) → Appends b whole (flat_map f xs) → Appends a whole (flat_map f all)
Appends-step f a b whole x xs all is now rest =
    subst (λ (t : List ℕ). Appends a whole t) (sym (flat_map-cons f x xs) ∙ ap (flat_map f) (sym is)) (Appends-trans a b whole (f x) (flat_map f xs) now rest)

-- the element at an index, with its number
pub at_number : {X : Type 0} (xs : List X) (from i : ℕ) (x : X) → slice_get xs i ≡ Some x → slice_get (enumerate_from from xs) i ≡ Some (from + i, x)
at_number [] from i x at = cc
at_number (y ∷ xs) from zero x at =
    let same : y ≡ x = cc in
    let zero_more : from ≡ from + 0 = omega arith in
    λ j. Some (zero_more j, same j)
at_number (y ∷ xs) from (suc i) x at =
    let more : (from + 1) + i ≡ from + suc i = omega arith in
    at_number xs (from + 1) i x at ∙ (λ j. Some (more j, x))

-- a step that may fail appends to the written text
pub Appends-then : {A E : Type 0} (r : Result A E) (a b c : Option (List ℕ)) (bs cs : List ℕ) → Appends a b bs → OnOk r (Appends b c cs) → OnOk r (Appends a c (bs ++ cs))
Appends-then (Ok x) a b c bs cs before now = Appends-trans a b c bs cs before now
Appends-then (Err e) a b c bs cs before now = tt

-- the written text grows by one element, after a text in front
pub Appends-after : {X : Type 0} (f : X → List ℕ) (a b c : Option (List ℕ)) (head : List ℕ) (xs : List X) (i : ℕ) (x : X) → Appends a b (head ++ flat_map f (take i xs)) → Appends b c (f x) → slice_get xs i ≡ Some x →
    Appends a c (head ++ flat_map f (take (i + 1) xs))
Appends-after f a b c head xs i x before now at =
    let text : (head ++ flat_map f (take i xs)) ++ f x ≡ head ++ flat_map f (take (i + 1) xs) = append_assoc head (flat_map f (take i xs)) (f x) ∙ ap (λ t. head ++ t) (sym (taken_next f xs i x at)) in
    subst (λ (t : List ℕ). Appends a c t) text (Appends-trans a b c (head ++ flat_map f (take i xs)) (f x) before now)
