-- The notes that a list of notes in memory shows.
use Rattle.std.specs.Prelude.{◌≡◌, ℕ, List, length, map}
use Rattle.content_files.specs.Notes.{PieceNote, joined, note_of}
use Rattle.content_files.specs.declared.note.Note.{Note}

-- the note that is kept in memory
abbrev pub note_shown : Note → PieceNote
note_shown n = record { len = n.len; sum = n.sum }

-- the notes in memory are those of these pieces, and the length is theirs
pub record AreNotesOf (notes : List Note) (len : ℕ) (pieces : List (List ℕ)) : Type 0 where
  pub each : map note_shown notes ≡ map note_of pieces
  pub total : len ≡ length (joined pieces)
