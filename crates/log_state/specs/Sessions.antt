-- Open sessions, and the notes of the contents that they become.
use Rattle.std.specs.Prelude.{◌≡◌, ℕ, nat_lt, Bool, true, false, List, [], ◌∷◌, ◌++◌, length, if◌then◌else◌}
use Rattle.content_files.specs.Chunks.{chunk_notes}
use Rattle.log_state.specs.declared.chunk.Chunk.{Chunk}
use Rattle.log_state.specs.declared.chunk.Chunk.TheVariants.{Bytes, Notes}
use Rattle.spec_lib.specs.Texts.{Text}

-- an open session: its repository, and the chunks that it received
pub record OpenSession : Type 0 where
  pub repo : Text
  pub chunks : List Chunk

-- whether a chunk has any bytes or notes
abbrev pub has_some : Chunk → Bool
has_some (Bytes b) = nat_lt 0 (length b)
has_some (Notes n) = nat_lt 0 (length n)

-- whether a record has the notes of a chunk
abbrev pub is_noted : Chunk → Bool
is_noted (Bytes b) = false
is_noted (Notes n) = true

-- the chunks with one more, unless it is empty
abbrev pub with_logged : List Chunk → Chunk → List Chunk
with_logged chunks c = if has_some c then chunks ++ c ∷ [] else chunks

-- The notes of a content after some bytes: those of its pieces. Bytes that follow each other are noted as one chunk, however they were cut.
abbrev pub notes_after : List ℕ → List Chunk → List ℕ
notes_after bytes [] = chunk_notes bytes
notes_after bytes (Bytes b ∷ chunks) = notes_after (bytes ++ b) chunks
notes_after bytes (Notes n ∷ chunks) = chunk_notes bytes ++ n ++ notes_after [] chunks

-- A chunk was noted. The notes before it, and those of the bytes before it and of what follows it, are the notes that there are now,
-- and those of the bytes now and of what follows.
abbrev pub NotesNext : List ℕ → List ℕ → Chunk → List ℕ → List ℕ → Type 0
NotesNext notes bytes c new_notes new_bytes =
    (chunks : List Chunk) → new_notes ++ notes_after new_bytes chunks ≡ notes ++ notes_after bytes (c ∷ chunks)
