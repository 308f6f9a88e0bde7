-- The pieces of a content in its file, with its name and the offset at which they begin.
use Rattle.std.specs.Prelude.{◌≡◌, ◌≤◌, ◌+◌, ◌-◌, ℕ, List, ◌∷◌, [], ◌++◌, length, take}
use Rattle.content_files.specs.Notes.{joined}
use Rattle.content_files.specs.Placed.{Placed}
use Rattle.content_files.specs.declared.name.ContentName.{ContentName}

-- the name of a content, the offset in its file at which its pieces begin, and the pieces
pub record Pieces : Type 0 where
  pub name : ContentName
  pub base : ℕ
  pub each : List (List ℕ)

abbrev pub pieces_of : ContentName → ℕ → List (List ℕ) → Pieces
pieces_of name base each = record { name = name; base = base; each = each }

-- the pieces and one more
abbrev pub with_piece : Pieces → List ℕ → Pieces
with_piece p piece = pieces_of p.name p.base (p.each ++ piece ∷ [])

-- the pieces but the last one
abbrev pub without_last_piece : Pieces → Pieces
without_last_piece p = pieces_of p.name p.base (take (length p.each - 1) p.each)

-- the bytes of all pieces
abbrev pub bytes_of : Pieces → List ℕ
bytes_of p = joined p.each

-- with these bytes in addition, the pieces end at an offset of 64 bits
abbrev pub HasRoomFor : Pieces → List ℕ → Type 0
HasRoomFor p bytes = p.base + length (bytes_of p) + length bytes ≤ 18446744073709551615

-- the pieces lie in the same file, from the same offset on
abbrev pub LieAs : Pieces → Pieces → Type 0
LieAs old new = (new.name ≡ old.name) × (new.base ≡ old.base)

-- the bytes of the new pieces begin with those of the old ones
abbrev pub BeginsAs : Pieces → Pieces → Type 0
BeginsAs old new = take (length (bytes_of old)) (bytes_of new) ≡ bytes_of old

-- the bytes lie in the content's file, where its pieces end
pub record IsAtEndOf (w : Placed) (p : Pieces) : Type 0 where
  pub name : w.name ≡ p.name
  pub place : w.offset ≡ p.base + length (joined p.each)
