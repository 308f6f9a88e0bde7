-- The content that memory and a file hold together.
use Rattle.std.specs.Prelude.{◌≡◌, ◌≤◌, ◌<◌, ◌+◌, ◌++◌, ℕ, List, Option, Some, None, get_or, if◌then◌else◌, length, nat_lt, take, true}
use Rattle.content_files.specs.Notes.{is_read, joined}
use Rattle.content_files.specs.Pieces.{Pieces}

-- the first bytes, which are in memory, and the pieces, up to a length
abbrev pub held : List ℕ → ℕ → Pieces → List ℕ
held front len p = take len (front ++ joined p.each)

-- an offset, if it is before an end
abbrev pub first_within : Option ℕ → ℕ → Option ℕ
first_within None end = None
first_within (Some at) end = if nat_lt at end then Some at else None

-- the offset of the first unread byte after a chunk that was not read: a content of an old length has a new one
abbrev pub first_noted : Option ℕ → ℕ → ℕ → Option ℕ
first_noted None old new = if nat_lt old new then Some old else None
first_noted (Some at) old new = Some at

-- the offset of the first number that is no byte, if there is one
abbrev pub IsFirstUnread : Option ℕ → List ℕ → Type 0
IsFirstUnread None content = is_read content ≡ true
IsFirstUnread (Some at) content = (at < length content) × (256 ≤ get_or content at 0) × (is_read (take at content) ≡ true)

-- the pieces begin in the file where the first bytes end, they have the rest of the content, and this is its first unread byte
pub record IsHeld (front : List ℕ) (len : ℕ) (p : Pieces) (first_unread : Option ℕ) : Type 0 where
  pub base : p.base ≡ length front
  pub within : len ≤ length front + length (joined p.each)
  pub first : IsFirstUnread first_unread (held front len p)
