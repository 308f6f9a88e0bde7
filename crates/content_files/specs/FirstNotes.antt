-- The first of some notes.
use Rattle.std.specs.Prelude.{◌≡◌, ◌<◌, ◌++◌, ℕ, List, length}
use Rattle.content_files.specs.Chunks.{chunk_notes, read_notes}
use Rattle.content_files.specs.Notes.{unread}
use Rattle.content_files.specs.declared.note.Note.{Note}

-- the notes are those of a chunk
abbrev pub AreOfChunk : List ℕ → Type 0
AreOfChunk notes = chunk_notes (read_notes notes) ≡ notes

-- The notes begin with this note and go on with the rest. If the rest has the notes of a chunk, all of them are those of one.
pub record IsFirstNote (notes : List ℕ) (note : Note) (rest : List ℕ) : Type 0 where
  pub shorter : length rest < length notes
  pub some : 0 < note.len
  pub reads : read_notes notes ≡ unread note.len note.sum ++ read_notes rest
  pub noted : AreOfChunk rest → AreOfChunk notes
