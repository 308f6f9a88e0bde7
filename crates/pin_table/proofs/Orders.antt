-- Lists of pins in another order: they are those over which every sum is the same.
use Rattle.std.proofs.Common.{◌≡◌, ◌≢◌, ℕ, ◌+◌, ◌<◌, List, [], ◌∷◌, ◌++◌, sum_by, refl, sym, ap, subst, ◌⊎◌, inl, inr, arith}
use Rattle.std.specs.Prelude.{IsPermutation}
use Rattle.std.proofs.lemmas.List.Sums.{sum_by-cons, sum_by-append}
use Rattle.std.proofs.lemmas.List.Sorted.{IsPermutation-refl, IsPermutation-sym, IsPermutation-trans, IsPermutation-cons, IsPermutation-middle}
use mathlib.Core.Logic.{dite}
use mathlib.Core.List.{List-discrete}
use native.Mathlib.Decide.{ℕ_discrete}
use Rattle.pin_core.specs.declared.world.PinRecord.{PinRecord}

-- whether two pins hold the same
pub is_same : (h g : PinRecord) → Dec (h ≡ g)
is_same h g = dite (ℕ_discrete h.slot g.slot)
    (λ a. dite (ℕ_discrete h.generation g.generation)
    (λ b. dite (List-discrete ℕ_discrete h.digest g.digest)
    (λ c. dite (ℕ_discrete h.weight g.weight)
    (λ d. yes (λ i. record { slot = a i; generation = b i; digest = c i; weight = d i }))
    (λ n. no (λ e. n (ap (λ (x : PinRecord). x.weight) e))))
    (λ n. no (λ e. n (ap (λ (x : PinRecord). x.digest) e))))
    (λ n. no (λ e. n (ap (λ (x : PinRecord). x.generation) e))))
    (λ n. no (λ e. n (ap (λ (x : PinRecord). x.slot) e)))

-- 1 for the pin h, 0 for any other
pub one : PinRecord → PinRecord → ℕ
one h g = dite {C = ℕ} (is_same h g) (λ _. 1) (λ _. 0)

pub one_self : (h : PinRecord) → one h h ≡ 1
unfolding one
one_self h = by_test (is_same h h)
  where
    by_test : (d : Dec (h ≡ h)) → dite {C = ℕ} d (λ _. 1) (λ _. 0) ≡ 1
    by_test (yes e) = refl
    by_test (no n) = absurd (n refl)

pub one_other : (h g : PinRecord) → h ≢ g → one h g ≡ 0
unfolding one
one_other h g ne = by_test (is_same h g)
  where
    by_test : (d : Dec (h ≡ g)) → dite {C = ℕ} d (λ _. 1) (λ _. 0) ≡ 0
    by_test (yes e) = absurd (ne e)
    by_test (no n) = refl

-- the pin h is in the list, or the list has no pin equal to it
pub record Parted (h : PinRecord) (xs : List PinRecord) : Type 0 where
  pub front : List PinRecord
  pub back : List PinRecord
  pub is : xs ≡ front ++ h ∷ back

pub parted : (h : PinRecord) (xs : List PinRecord) → Parted h xs ⊎ (sum_by (one h) xs ≡ 0)
parted h [] = inr refl
parted h (x ∷ xs) = dite (is_same h x)
    (λ e. inl (record { front = []; back = xs; is = ap (λ y. y ∷ xs) (sym e) }))
    (λ n. rest (parted h xs) (one_other h x n))
  where
    rest : Parted h xs ⊎ (sum_by (one h) xs ≡ 0) → one h x ≡ 0 → Parted h (x ∷ xs) ⊎ (sum_by (one h) (x ∷ xs) ≡ 0)
    rest (inl p) z = inl (record { front = x ∷ p.front; back = p.back; is = ap (λ l. x ∷ l) p.is })
    rest (inr e) z = inr (omega (arith, sum_by-cons (one h) x xs))

-- the sum over a list with a pin in it
pub sum_parted : (f : PinRecord → ℕ) (h : PinRecord) (xs : List PinRecord) (p : Parted h xs) → sum_by f xs ≡ f h + sum_by f (p.front ++ p.back)
sum_parted f h xs p = omega (arith, ap (sum_by f) p.is, sum_by-append f p.front (h ∷ p.back), sum_by-append f p.front p.back, sum_by-cons f h p.back)

-- the first pin of a list counts
pub counts : (h : PinRecord) (xs : List PinRecord) → 0 < sum_by (one h) (h ∷ xs)
counts h xs = omega (arith, sum_by-cons (one h) h xs, one_self h)

-- lists with the same sums
pub permutes : (xs ys : List PinRecord) → ((f : PinRecord → ℕ) → sum_by f xs ≡ sum_by f ys) → IsPermutation xs ys
permutes [] [] e = IsPermutation-refl []
permutes [] (y ∷ ys) e = absurd (omega (arith, e (λ _. 1), sum_by-cons (λ (_ : PinRecord). 1) y ys))
permutes (x ∷ xs) ys e = by_part (permutes xs) (parted x ys)
  where
    by_part : ((zs : List PinRecord) → ((f : PinRecord → ℕ) → sum_by f xs ≡ sum_by f zs) → IsPermutation xs zs) → Parted x ys ⊎ (sum_by (one x) ys ≡ 0) → IsPermutation (x ∷ xs) ys
    by_part rest (inr z) = absurd (omega (arith, e (one x), counts x xs))
    by_part rest (inl p) =
        let moved = IsPermutation-trans (x ∷ xs) (x ∷ (p.front ++ p.back)) (p.front ++ x ∷ p.back)
        (IsPermutation-cons x xs (p.front ++ p.back) (rest (p.front ++ p.back) (λ f. omega (arith, e f, sum_by-cons f x xs, sum_parted f x ys p))))
        (IsPermutation-sym (p.front ++ x ∷ p.back) (x ∷ (p.front ++ p.back)) (IsPermutation-middle p.front x p.back)) in
        subst (λ l. IsPermutation (x ∷ xs) l) (sym p.is) moved
