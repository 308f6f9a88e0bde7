-- Counts and places between two others.
use Rattle.std.proofs.Common.{◌≡◌, ℕ, ◌+◌, ◌<◌, ◌≤◌, Bool, true, false, cond, List, [], ◌∷◌, length, drop, Some, refl, sym, ap, ◌∙◌, arith}
use Prim.Native.Nat.{zero, suc}
use Rattle.std.specs.Prelude.{nat_le, nat_lt, slice_get, ◌&&◌}
use Rattle.std.specs.List.{count_by}
use Rattle.std.proofs.lemmas.Bool.{and_from, and_left, and_right, le-leb, le-ltb, lt-leb, lt-ltb}
use Rattle.std.proofs.lemmas.List.Sums.{sum_by-cons}
use Rattle.spec_lib.proofs.Places.{count_by-nowhere}
use Rattle.store_book.specs.SweepParts.{is_between}

pub is_below : (from to k : ℕ) → k < from → is_between from to k ≡ false
is_below from to k lt = and_left (nat_le from k) (nat_lt k to) (lt-leb from k lt)

pub is_inside : (from to k : ℕ) → from ≤ k → k < to → is_between from to k ≡ true
is_inside from to k le lt = and_from (nat_le from k) (nat_lt k to) (le-leb from k le) (lt-ltb k to lt)

pub is_beyond : (from to k : ℕ) → to ≤ k → is_between from to k ≡ false
is_beyond from to k le = and_right (nat_le from k) (nat_lt k to) (le-ltb k to le)

module _ {A : Type 0} (f g : A → Bool) where
  -- a test that fails outside two places, and agrees with another between them
  pub record AgreesBetween (from to : ℕ) (xs : List A) : Type 0 where
    pub below : (k : ℕ) (x : A) → k < from → slice_get xs k ≡ Some x → g x ≡ false
    pub inside : (k : ℕ) (x : A) → from ≤ k → k < to → slice_get xs k ≡ Some x → g x ≡ f x
    pub beyond : (k : ℕ) (x : A) → to ≤ k → slice_get xs k ≡ Some x → g x ≡ false

  later : (from to : ℕ) (x : A) (xs : List A) → AgreesBetween (suc from) (suc to) (x ∷ xs) → AgreesBetween from to xs
  later from to x xs a = record {
    below = λ k y lt at. a.below (suc k) y (omega arith) at;
    inside = λ k y le lt at. a.inside (suc k) y (omega arith) (omega arith) at;
    beyond = λ k y le at. a.beyond (suc k) y (omega arith) at;
  }

  counted : (from to : ℕ) (xs : List A) → from ≤ to → AgreesBetween from to xs → count_by g xs + count_by f (drop to xs) ≡ count_by f (drop from xs)
  counted zero zero xs le a = let none : count_by g xs ≡ 0 = count_by-nowhere g xs (λ k x at. a.beyond k x (omega arith) at) in omega arith
  counted (suc from) zero xs le a = absurd (omega arith)
  counted zero (suc to) [] le a = omega arith
  counted (suc from) (suc to) [] le a = omega arith
  counted zero (suc to) (x ∷ xs) le a =
      let rest = counted zero to xs (omega arith) (record { below = λ k y lt at. absurd (omega arith); inside = λ k y le lt at. a.inside (suc k) y (omega arith) (omega arith) at; beyond = λ k y le at. a.beyond (suc k) y (omega arith) at }) in
      let gs : count_by g (x ∷ xs) ≡ cond (g x) 1 0 + count_by g xs = sum_by-cons (λ y. cond {A = ℕ} (g y) 1 0) x xs in
      let fs : count_by f (x ∷ xs) ≡ cond (f x) 1 0 + count_by f xs = sum_by-cons (λ y. cond {A = ℕ} (f y) 1 0) x xs in
      let same : cond {A = ℕ} (g x) 1 0 ≡ cond (f x) 1 0 = ap (λ b. cond {A = ℕ} b 1 0) (a.inside 0 x (omega arith) (omega arith) refl) in
      omega arith
  counted (suc from) (suc to) (x ∷ xs) le a =
      let rest = counted from to xs (omega arith) (later from to x xs a) in
      let gs : count_by g (x ∷ xs) ≡ cond (g x) 1 0 + count_by g xs = sum_by-cons (λ y. cond {A = ℕ} (g y) 1 0) x xs in
      let none : cond {A = ℕ} (g x) 1 0 ≡ 0 = ap (λ b. cond {A = ℕ} b 1 0) (a.below 0 x (omega arith) refl) in
      omega arith

  -- a count between two places is the difference of the counts from each of them on
  pub count_by-between : (from to : ℕ) (xs : List A) → from ≤ to → ((k : ℕ) (x : A) → slice_get xs k ≡ Some x → g x ≡ is_between from to k && f x) → count_by g xs + count_by f (drop to xs) ≡ count_by f (drop from xs)
  count_by-between from to xs le agree = counted from to xs le (record {
    below = λ k x lt at. agree k x at ∙ ap (λ b. b && f x) (is_below from to k lt);
    inside = λ k x le lt at. agree k x at ∙ ap (λ b. b && f x) (is_inside from to k le lt);
    beyond = λ k x le at. agree k x at ∙ ap (λ b. b && f x) (is_beyond from to k le);
  })
