-- A text that lies in pieces. No public contract cites this.
use Rattle.std.specs.Prelude.{ℕ, ◌≡◌, ◌<◌, List, [], ◌∷◌, length, map, Vec}
use Rattle.std.specs.List.{AllByRecursion, concat}
use Rattle.std.specs.declared.alloc.Global.{Global}
use Rattle.spec_lib.specs.Texts.{Text}

-- the bytes of pieces, one after another
abbrev pub bytes_in : List (Vec ℕ Global) → Text
bytes_in pieces = concat (map (λ piece. piece.items) pieces)

-- the place is before the end of the first piece, and none is empty
abbrev pub IsPlaceInPieces : ℕ → List (Vec ℕ Global) → Type 0
IsPlaceInPieces place [] = place ≡ 0
IsPlaceInPieces place (first ∷ rest) = (place < length first.items) × AllByRecursion (λ piece. 0 < length piece.items) rest
