-- Claims on each place of a list that grows or shrinks at its end.
use Rattle.std.proofs.Common.{◌≡◌, ℕ, zero, suc, List, [], ◌∷◌, ◌++◌, length, arith}
use Rattle.blob_store.specs.Workers.{AllAt}

pub at_pushed : {X : Type 0} (P : ℕ → X → Type 0) (xs : List X) (x : X) → AllAt P xs → P (length xs) x → AllAt P (xs ++ x ∷ [])
at_pushed P [] x all p zero d below = p
at_pushed P [] x all p (suc k) d below = absurd (omega (arith, below))
at_pushed P (y ∷ xs) x all p zero d below = all zero d (omega arith)
at_pushed P (y ∷ xs) x all p (suc k) d below = at_pushed (λ j. P (suc j)) xs x (λ j e lt. all (suc j) e (omega (arith, lt))) p k d (omega (arith, below))

pub at_last : {X : Type 0} (P : ℕ → X → Type 0) (xs : List X) (x : X) → AllAt P (xs ++ x ∷ []) → P (length xs) x
at_last P [] x all = all 0 x (omega arith)
at_last P (y ∷ xs) x all = at_last (λ j. P (suc j)) xs x (λ j e lt. all (suc j) e (omega (arith, lt)))

pub at_first : {X : Type 0} (P : ℕ → X → Type 0) (xs : List X) (x : X) → AllAt P (xs ++ x ∷ []) → AllAt P xs
at_first P [] x all k d below = absurd (omega (arith, below))
at_first P (y ∷ xs) x all zero d below = all zero d (omega arith)
at_first P (y ∷ xs) x all (suc k) d below = at_first (λ j. P (suc j)) xs x (λ j e lt. all (suc j) e (omega (arith, lt))) k d (omega (arith, below))

pub at_none : {X : Type 0} (P : ℕ → X → Type 0) (xs : List X) → length xs ≡ 0 → AllAt P xs
at_none P xs none k d below = absurd (omega (arith, none, below))
