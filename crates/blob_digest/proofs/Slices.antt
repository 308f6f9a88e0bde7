-- The front of a list and the slice after it.
use Rattle.std.proofs.Common.{◌≡◌, ◌-◌, ◌++◌, ◌∙◌, ℕ, List, ap, drop, length, length-drop, sym, take}
use Rattle.std.proofs.lemmas.List.{take-append-drop}
use Rattle.std.proofs.Math.Seq.{take-length}

pub slices_join : {A : Type 0} (n : ℕ) (xs : List A) → take n xs ++ take (length xs - n) (drop n xs) ≡ xs
slices_join n xs = ap (λ rest. take n xs ++ rest) (ap (λ k. take k (drop n xs)) (sym (length-drop n xs)) ∙ take-length (drop n xs)) ∙ take-append-drop n xs
