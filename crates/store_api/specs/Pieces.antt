-- The bytes of a piece, by where they are.
use Rattle.std.specs.Prelude.{◌≤◌, ◌-◌, ℕ, List, ⊤, drop, length, take}
use Rattle.std.specs.Arc.{arc_value}
use Rattle.store_api.specs.declared.piece.PieceBytes.{PieceBytes}
use Rattle.store_api.specs.declared.piece.PieceBytes.TheVariants as piece

-- the bytes
abbrev pub piece_shown : PieceBytes → List ℕ
piece_shown (piece.Shared blob start end) = take (end - start) (drop start (arc_value blob).1)
piece_shown (piece.Owned bytes) = bytes.items

-- the blob has bytes up to the end
abbrev pub HasBytes : PieceBytes → Type 0
HasBytes (piece.Shared blob start end) = (start ≤ end) × (end ≤ length (arc_value blob).1)
HasBytes (piece.Owned bytes) = ⊤
