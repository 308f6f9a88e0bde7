-- The first and the n-th item of an iterator over a list.
use Rattle.std.proofs.Common.{◌≡◌, ℕ, ◌≤◌, Bool, true, false, cond, List, [], ◌∷◌, length, map, filter, Option, Some, None, is_some, refl, sym, ap, ◌∙◌, arith}
use Prim.Native.Nat.{zero, suc}
use Rattle.std.specs.Prelude.{slice_get}
use Rattle.std.specs.Option.{option_map}
use Rattle.std.specs.List.{list_any}
use Rattle.std.specs.Iterator.{Yields, YieldsFirstBy, SkipsThenYields}

module _ {S A B : Type 0} (view : A → B) (rest : S → List B) where
  abbrev gives : S → Option A → S → Type 0
  gives = YieldsFirstBy view rest

  past : (xs : List A) (s t : S) (n : ℕ) → Yields gives s xs t → rest t ≡ [] → length xs ≤ n → None ≡ slice_get (rest s) n
  past [] s t n is none few = sym (ap (λ l. slice_get l n) (ap rest is ∙ none))
  past (x ∷ xs) s t zero is none few = absurd (omega (arith, few))
  past (x ∷ xs) s t (suc n) is none few = past xs is.0 t n is.2 none (omega (arith, few)) ∙ sym (ap (λ l. slice_get l (suc n)) is.1)

  within : (xs : List A) (s t u : S) (n : ℕ) (y : A) → Yields gives s xs t → rest t ≡ view y ∷ rest u → length xs ≡ n → Some (view y) ≡ slice_get (rest s) n
  within [] s t u zero y is next many = sym (ap (λ l. slice_get l 0) (ap rest is ∙ next))
  within [] s t u (suc n) y is next many = absurd (omega (arith, many))
  within (x ∷ xs) s t u zero y is next many = absurd (omega (arith, many))
  within (x ∷ xs) s t u (suc n) y is next many = within xs is.0 t u n y is.2 next (omega (arith, many)) ∙ sym (ap (λ l. slice_get l (suc n)) is.1)

  -- `nth` returns the n-th of the remaining items
  pub nth_is : (s : S) (n : ℕ) (r : Option A) (u : S) → SkipsThenYields gives s n r u → option_map view r ≡ slice_get (rest s) n
  nth_is s n None u ran = past ran.0 s ran.1.0 n ran.1.1 ran.1.2.0 ran.2
  nth_is s n (Some y) u ran = within ran.0 s ran.1.0 u n y ran.1.1 ran.1.2 ran.2

  -- whether something is left
  abbrev some_left : List B → Bool
  some_left [] = false
  some_left (x ∷ xs) = true

  next_left : (s : S) (r : Option A) (t : S) → gives s r t → is_some r ≡ some_left (rest s)
  next_left s None t is = sym (ap some_left is.0)
  next_left s (Some x) t is = sym (ap some_left is)

  filtered_left : {E : Type 0} (p : E → Bool) (f : E → B) (es : List E) → some_left (map f (filter p es)) ≡ list_any p es
  filtered_left p f [] = refl
  filtered_left p f (e ∷ es) = elim (p e) as (λ b. p e ≡ b → some_left (map f (cond b (e ∷ filter p es) (filter p es))) ≡ list_any p (e ∷ es)) [
    | true ↦ λ is. sym (rw is refl)
    | false ↦ λ is. filtered_left p f es ∙ sym (rw is refl)
  ] refl

  -- `next` returns something if and only if an entry of the list passes the test that the items passed
  pub next_is_some : {E : Type 0} (p : E → Bool) (f : E → B) (es : List E) (s : S) (r : Option A) (t : S) → gives s r t → rest s ≡ map f (filter p es) → is_some r ≡ list_any p es
  next_is_some p f es s r t ran is = next_left s r t ran ∙ ap some_left is ∙ filtered_left p f es
