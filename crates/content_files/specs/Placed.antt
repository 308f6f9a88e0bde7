-- Bytes at a place in the file of a content.
use Rattle.std.specs.Prelude.{◌≡◌, ℕ, ◌+◌, List, drop, take}
use Rattle.content_files.specs.declared.name.ContentName.{ContentName}

-- the content's name, the offset in its file, and the bytes there
pub record Placed : Type 0 where
  pub name : ContentName
  pub offset : ℕ
  pub bytes : List ℕ

abbrev pub placed : ContentName → ℕ → List ℕ → Placed
placed name offset bytes = record { name = name; offset = offset; bytes = bytes }

-- the first bytes, up to a length
abbrev pub first_part : ℕ → Placed → Placed
first_part mid w = placed w.name w.offset (take mid w.bytes)

-- the bytes after them
abbrev pub second_part : ℕ → Placed → Placed
second_part mid w = placed w.name (w.offset + mid) (drop mid w.bytes)

-- the bytes lie in the file of this name, at this offset
pub record IsPlacedAt (w : Placed) (name : ContentName) (offset : ℕ) : Type 0 where
  pub name_is : w.name ≡ name
  pub offset_is : w.offset ≡ offset
