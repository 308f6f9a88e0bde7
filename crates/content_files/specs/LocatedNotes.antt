-- Where bytes of a content lie in its file, and the notes of the pieces that have them.
use Rattle.std.specs.Prelude.{◌≡◌, ◌≤◌, ◌<◌, ◌+◌, ◌-◌, ◌^◌, ◌++◌, ◌∷◌, [], ℕ, List, length, true}
use Rattle.std.specs.List.{flat_map}
use Rattle.content_files.specs.Chunks.{note_bytes}
use Rattle.content_files.specs.Notes.{joined, piece_sum}
use Rattle.content_files.specs.Parts.{IsPart, between}

-- the length and the sum of each piece have at most 64 bits
abbrev pub FitWords : List (List ℕ) → Type 0
FitWords [] = Unit {0}
FitWords (piece ∷ pieces) = (length piece < 2 ^ 64) × (piece_sum piece < 2 ^ 64) × FitWords pieces

-- the notes of pieces of the content that follow each other: the first one begins at `begin`, and they have the bytes from `start` to before `end`
pub record AreNotesBetween (content : List ℕ) (start end begin : ℕ) (notes : List ℕ) : Type 0 where
  pub front : List ℕ
  pub pieces : List (List ℕ)
  pub back : List ℕ
  pub whole : content ≡ front ++ (joined pieces ++ back)
  pub noted : notes ≡ flat_map note_bytes pieces
  pub fit : FitWords pieces
  pub at : begin ≡ length front
  pub from : begin ≤ start
  pub to : end ≤ begin + length (joined pieces)

-- pieces that have these notes, whoever read them, have a part of the content
abbrev pub NotedPiecesArePart : Type 0
NotedPiecesArePart =
    (content : List ℕ) (start end begin : ℕ) (notes : List ℕ) (given : List (List ℕ)) → start ≤ end → AreNotesBetween content start end begin notes → FitWords given → notes ≡ flat_map note_bytes given →
    IsPart true content start end (between (joined given) (start - begin) (end - begin))
