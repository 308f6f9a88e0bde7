-- Lists that change at a place.
use Rattle.std.proofs.Common.{◌≡◌, ℕ, ◌<◌, ◌≤◌, List, [], ◌∷◌, ◌++◌, length, map, take, drop, set, get_or, refl, ap, arith}
use Prim.Native.Nat.{zero, suc}

-- f was written over the elements before the place i, and is written over the one there
pub map_more : {X : Type 0} (f : X → X) (xs : List X) (i : ℕ) (x : X) → i < length xs → x ≡ get_or (map f (take i xs) ++ drop i xs) i x → set (map f (take i xs) ++ drop i xs) i (f x) ≡ map f (take (suc i) xs) ++ drop (suc i) xs
map_more f [] i x lt is = absurd (omega arith)
map_more f (y ∷ ys) zero x lt is = ap (λ z. f z ∷ ys) is
map_more f (y ∷ ys) (suc i) x lt is = ap (λ zs. f y ∷ zs) (map_more f ys i x (omega arith) is)

-- f was written over all
pub map_whole : {X : Type 0} (f : X → X) (xs : List X) (i : ℕ) → length xs ≤ i → map f (take i xs) ++ drop i xs ≡ map f xs
map_whole f [] i le = nothing i
  where
    nothing : (i : ℕ) → map f (take i []) ++ drop i [] ≡ []
    nothing zero = refl
    nothing (suc i) = refl
map_whole f (y ∷ ys) zero le = absurd (omega arith)
map_whole f (y ∷ ys) (suc i) le = ap (λ zs. f y ∷ zs) (map_whole f ys i (omega arith))
