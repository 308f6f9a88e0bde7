-- Properties of all elements of a list.
use Rattle.std.proofs.Common.{List, [], ◌∷◌, ◌++◌, refl, subst, arith}
use Prim.Native.Nat.{zero, suc}
use Rattle.std.specs.List.{AllByRecursion, Contains}

-- a property of all elements is one of each element that the list contains
pub all_contain : {A : Type 0} (P : A → Type 0) (xs : List A) → AllByRecursion P xs → (x : A) → Contains xs x → P x
all_contain P [] all x (k, lt, is) = absurd (omega arith)
all_contain P (y ∷ ys) all x (zero, lt, is) = subst P is all.0
all_contain P (y ∷ ys) all x (suc k, lt, is) = all_contain P ys all.1 x (k, omega arith, is)

pub both_all : {A : Type 0} (P : A → Type 0) (xs ys : List A) → AllByRecursion P xs → AllByRecursion P ys → AllByRecursion P (xs ++ ys)
both_all P [] ys p q = q
both_all P (x ∷ xs) ys p q = (p.0, both_all P xs ys p.1 q)

-- a property of each element that the list contains is one of all elements
pub contain_all : {A : Type 0} (P : A → Type 0) (xs : List A) → ((x : A) → Contains xs x → P x) → AllByRecursion P xs
contain_all P [] each = tt
contain_all P (x ∷ xs) each = (each x (zero, omega arith, refl), contain_all P xs (λ y there. let lt = there.1 in each y (suc there.0, omega arith, there.2)))
