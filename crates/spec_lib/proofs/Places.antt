-- The first element of a list that passes a test, the elements from a position on, and counts over the two.
use Rattle.std.proofs.Common.{◌≡◌, ℕ, ◌+◌, ◌<◌, Bool, true, false, cond, List, [], ◌∷◌, length, drop, Some, None, refl, sym, ap, ◌∙◌, arith}
use Prim.Native.Nat.{zero, suc}
use Rattle.std.specs.Prelude.{slice_get}
use Rattle.std.specs.List.{count_by, position, position_from}
use Rattle.std.proofs.lemmas.Iterator.Adapters.{position_from-zero}
use Rattle.std.proofs.lemmas.List.Sums.{sum_by-cons}
use Rattle.spec_lib.proofs.Options.{some_same}

-- the element at a position of the list from `n` on
pub get-drop : {A : Type 0} (n : ℕ) (xs : List A) (i : ℕ) → slice_get (drop n xs) i ≡ slice_get xs (n + i)
get-drop zero xs i = ap (slice_get xs) (omega arith)
get-drop (suc n) [] i = refl
get-drop (suc n) (x ∷ xs) i = get-drop n xs i ∙ ap (slice_get (x ∷ xs)) (let e : suc (n + i) ≡ suc n + i = omega arith in e)

module _ {A : Type 0} (p : A → Bool) where
  -- the position `i` is the first that passes, and a count over some that pass counts its element and those after it
  pub record IsFirst (xs : List A) (i : ℕ) : Type 0 where
    pub found : A
    pub there : slice_get xs i ≡ Some found
    pub passes : p found ≡ true
    pub before : (j : ℕ) (x : A) → j < i → slice_get xs j ≡ Some x → p x ≡ false
    pub counts : (f : A → Bool) → ((x : A) → p x ≡ false → f x ≡ false) → count_by f xs ≡ cond (f found) 1 0 + count_by f (drop (suc i) xs)

  first-more : (x : A) (xs : List A) (i : ℕ) → p x ≡ false → IsFirst xs i → IsFirst (x ∷ xs) (suc i)
  first-more x xs i fails is = record {
    found = is.found;
    there = is.there;
    passes = is.passes;
    before = before;
    counts = λ f weaker. sum_by-cons (λ y. cond {A = ℕ} (f y) 1 0) x xs ∙ ap (λ b. cond {A = ℕ} b 1 0 + count_by f xs) (weaker x fails) ∙ (let rest = is.counts f weaker in omega arith);
  }
    where
      before : (j : ℕ) (y : A) → j < suc i → slice_get (x ∷ xs) j ≡ Some y → p y ≡ false
      before zero y lt at = ap p (sym (some_same at)) ∙ fails
      before (suc j) y lt at = is.before j y (omega arith) at

  from_place : (n : ℕ) (xs : List A) (k : ℕ) → position_from p n xs ≡ Some k → (i : ℕ) × (k ≡ n + i) × IsFirst xs i
  from_place n [] k e = absurd cc
  from_place n (x ∷ xs) k e = by (p x) refl (from_place (n + 1) xs k) e
    where
      by : (b : Bool) → p x ≡ b → (position_from p (n + 1) xs ≡ Some k → (i : ℕ) × (k ≡ n + 1 + i) × IsFirst xs i) → cond b (Some n) (position_from p (n + 1) xs) ≡ Some k → (i : ℕ) × (k ≡ n + i) × IsFirst (x ∷ xs) i
      by true passes later f = (
        0,
        (let e : n ≡ k = some_same f in omega arith),
        record {
          found = x;
          there = refl;
          passes = passes;
          before = λ j y lt at. absurd (omega arith);
          counts = λ f weaker. sum_by-cons (λ y. cond {A = ℕ} (f y) 1 0) x xs;
        },
      )
      by false fails later f = let r = later f in (suc r.0, (let e = r.1 in omega arith), first-more x xs r.0 fails r.2)

  none_from : (n : ℕ) (xs : List A) → position_from p n xs ≡ None → (j : ℕ) (x : A) → slice_get xs j ≡ Some x → p x ≡ false
  none_from n [] e j x at = absurd cc
  none_from n (y ∷ xs) e j x at = by (p y) refl (λ f i here. none_from (n + 1) xs f i x here) e j at
    where
      by : (b : Bool) → p y ≡ b → (position_from p (n + 1) xs ≡ None → (i : ℕ) → slice_get xs i ≡ Some x → p x ≡ false) → cond b (Some n) (position_from p (n + 1) xs) ≡ None → (j : ℕ) → slice_get (y ∷ xs) j ≡ Some x → p x ≡ false
      by true passes later f j at = absurd cc
      by false fails later f zero at = ap p (sym (some_same at)) ∙ fails
      by false fails later f (suc j) at = later f j at

  pub first : (xs : List A) (i : ℕ) → position p xs ≡ Some i → IsFirst xs i
  first xs i e =
      let r = from_place 0 xs i (sym (position_from-zero p xs) ∙ e) in
      let same : r.0 ≡ i = (let e = r.1 in omega arith) in
      subst_place same r.2
    where
      subst_place : {a b : ℕ} → a ≡ b → IsFirst xs a → IsFirst xs b
      subst_place same h = rw (← same) h

  -- no element passes
  pub nowhere : (xs : List A) → position p xs ≡ None → (j : ℕ) (x : A) → slice_get xs j ≡ Some x → p x ≡ false
  nowhere xs e = none_from 0 xs (sym (position_from-zero p xs) ∙ e)

-- if no element passes, none is counted
pub count_by-nowhere : {A : Type 0} (f : A → Bool) (xs : List A) → ((j : ℕ) (x : A) → slice_get xs j ≡ Some x → f x ≡ false) → count_by f xs ≡ 0
count_by-nowhere f [] none = refl
count_by-nowhere f (x ∷ xs) none = sum_by-cons (λ y. cond {A = ℕ} (f y) 1 0) x xs ∙ ap (λ b. cond {A = ℕ} b 1 0 + count_by f xs) (none 0 x refl) ∙ (let rest = count_by-nowhere f xs (λ j y at. none (suc j) y at) in omega arith)

-- if the counts of three tests add up at each element, they add up over the lists
pub count_by-parts : {A B : Type 0} (u w : A → Bool) (v : B → Bool) (xs : List A) (ys : List B) → length ys ≡ length xs →
    ((k : ℕ) (x : A) (y : B) → slice_get xs k ≡ Some x → slice_get ys k ≡ Some y → cond {A = ℕ} (u x) 1 0 ≡ cond {A = ℕ} (v y) 1 0 + cond {A = ℕ} (w x) 1 0) → count_by u xs ≡ count_by v ys + count_by w xs
count_by-parts u w v [] [] long each = omega arith
count_by-parts u w v [] (y ∷ ys) long each = absurd (omega arith)
count_by-parts u w v (x ∷ xs) [] long each = absurd (omega arith)
count_by-parts u w v (x ∷ xs) (y ∷ ys) long each =
    let head = each 0 x y refl refl in
    let rest = count_by-parts u w v xs ys (omega arith) (λ k a b at_a at_b. each (suc k) a b at_a at_b) in
    let us : count_by u (x ∷ xs) ≡ cond (u x) 1 0 + count_by u xs = sum_by-cons (λ z. cond {A = ℕ} (u z) 1 0) x xs in
    let vs : count_by v (y ∷ ys) ≡ cond (v y) 1 0 + count_by v ys = sum_by-cons (λ z. cond {A = ℕ} (v z) 1 0) y ys in
    let ws : count_by w (x ∷ xs) ≡ cond (w x) 1 0 + count_by w xs = sum_by-cons (λ z. cond {A = ℕ} (w z) 1 0) x xs in
    omega arith

-- tests that agree count the same
pub count_by-alike : {A : Type 0} (f g : A → Bool) (xs : List A) → ((k : ℕ) (x : A) → slice_get xs k ≡ Some x → f x ≡ g x) → count_by f xs ≡ count_by g xs
count_by-alike f g [] same = refl
count_by-alike f g (x ∷ xs) same =
    sum_by-cons (λ y. cond {A = ℕ} (f y) 1 0) x xs
    ∙ ap (λ b. cond {A = ℕ} b 1 0 + count_by f xs) (same 0 x refl)
    ∙ ap (λ n. cond {A = ℕ} (g x) 1 0 + n) (count_by-alike f g xs (λ k y at. same (suc k) y at))
    ∙ sym (sum_by-cons (λ y. cond {A = ℕ} (g y) 1 0) x xs)
