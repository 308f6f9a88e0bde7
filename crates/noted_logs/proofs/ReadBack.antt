-- The notes of a chunk, read back.
use Rattle.std.proofs.Common.{◌≡◌, ◌∙◌, ◌≤◌, ◌<◌, ◌+◌, ◌^◌, ◌%◌, ℕ, List, [], ◌∷◌, ◌++◌, ap, arith, length, length-append, refl, sym}
use Rattle.std.specs.Prelude.{drop, map, take}
use Rattle.std.specs.Int.{w64, from_le_bytes, to_le_bytes}
use Rattle.std.specs.List.{AllByRecursion, concat, flat_map}
use Rattle.std.proofs.Math.Seq.{drop-append_seam, take-append_seam}
use Rattle.std.proofs.lemmas.Grind.{flat_map-append}
use Rattle.std.proofs.lemmas.List.{length-take}
use Rattle.std.proofs.lemmas.Nat.{from_le_bytes-to_le_bytes_8}
use Prim.Native.Nat.{zero, suc}
use Rattle.content_files.specs.Notes.{piece_sum, unread}
use Rattle.content_files.specs.Chunks.{chunk_notes, cut_in, note_bytes, noted, noted_piece, pieces_in, read_in, read_note, read_notes}
use Rattle.noted_logs.specs.Noted.{NotesAreReadBack}

-- a note is read as its piece, unread
note_is_read : (piece : List ℕ) → length piece < 2 ^ 64 → read_note (note_bytes piece) ≡ noted_piece piece
note_is_read piece short =
    let sum = piece_sum piece % 2 ^ 64 in
    let front : take 8 (note_bytes piece) ≡ to_le_bytes w64 (length piece) = take-append_seam (to_le_bytes w64 (length piece)) (to_le_bytes w64 sum) in
    let back : drop 8 (note_bytes piece) ≡ to_le_bytes w64 sum = drop-append_seam (to_le_bytes w64 (length piece)) (to_le_bytes w64 sum) in
    (λ i. unread (from_le_bytes w64 (front i)) (from_le_bytes w64 (back i)))
    ∙ (λ i. unread (from_le_bytes-to_le_bytes_8 (length piece) short i) (from_le_bytes-to_le_bytes_8 sum (omega arith) i))

none_read : (n : ℕ) → read_in n [] ≡ []
none_read zero = refl
none_read (suc n) = refl

-- a note, and what follows it
one_read : (n : ℕ) (piece rest : List ℕ) → length piece < 2 ^ 64 → read_in (suc n) (note_bytes piece ++ rest) ≡ noted_piece piece ++ read_in n rest
one_read n piece rest short =
    let front : take 16 (note_bytes piece ++ rest) ≡ note_bytes piece = take-append_seam (note_bytes piece) rest in
    let back : drop 16 (note_bytes piece ++ rest) ≡ rest = drop-append_seam (note_bytes piece) rest in
    (λ i. read_note (front i) ++ read_in n (back i)) ∙ ap (λ p. p ++ read_in n rest) (note_is_read piece short)

within_itself : (n : ℕ) → n ≤ n
within_itself n = omega arith

-- sixteen bytes and more are not none
positive : (note rest : List ℕ) → length note ≡ 16 → length (note ++ rest) ≤ 0 → ⊥
positive note rest size none = omega (arith, size, none, length-append note rest)

-- pieces whose lengths fit into a note
abbrev AreShort : List (List ℕ) → Type 0
AreShort pieces = AllByRecursion (λ p. length p < 2 ^ 64) pieces

piece_short : (xs : List ℕ) → length (take 1048576 xs) < 2 ^ 64
piece_short xs = omega (arith, length-take 1048576 xs)

-- the pieces of a chunk are short
cut_short : (n : ℕ) (bytes : List ℕ) → AreShort (cut_in n bytes)
cut_short zero bytes = tt
cut_short (suc n) [] = tt
cut_short (suc n) (b ∷ bytes) = (piece_short (b ∷ bytes), cut_short n (drop 1048576 (b ∷ bytes)))

short_both : (pieces others : List (List ℕ)) → AreShort pieces → AreShort others → AreShort (pieces ++ others)
short_both [] others all more = more
short_both (p ∷ pieces) others all more = (all.0, short_both pieces others all.1 more)

-- and so are those of several chunks
pieces_short : (chunks : List (List ℕ)) → AreShort (flat_map pieces_in chunks)
pieces_short [] = tt
pieces_short (c ∷ chunks) = short_both (pieces_in c) (flat_map pieces_in chunks) (cut_short (length c) c) (pieces_short chunks)

-- the notes of pieces are read as the pieces, unread
pieces_read : (n : ℕ) (pieces : List (List ℕ)) → AreShort pieces → length (flat_map note_bytes pieces) ≤ n → read_in n (flat_map note_bytes pieces) ≡ flat_map noted_piece pieces
pieces_read n [] short within = none_read n
pieces_read zero (p ∷ pieces) short within = absurd (positive (note_bytes p) (flat_map note_bytes pieces) refl within)
pieces_read (suc n) (p ∷ pieces) short within =
    let size : length (note_bytes p ++ flat_map note_bytes pieces) ≡ 16 + length (flat_map note_bytes pieces) = length-append (note_bytes p) (flat_map note_bytes pieces) in
    one_read n p (flat_map note_bytes pieces) short.0 ∙ ap (λ l. noted_piece p ++ l) (pieces_read n pieces short.1 (omega (arith, size, within)))

all_read : (pieces : List (List ℕ)) → AreShort pieces → read_notes (flat_map note_bytes pieces) ≡ flat_map noted_piece pieces
all_read pieces short = pieces_read (length (flat_map note_bytes pieces)) pieces short (within_itself (length (flat_map note_bytes pieces)))

pub notes_are_read_back : NotesAreReadBack
notes_are_read_back bytes = all_read (pieces_in bytes) (cut_short (length bytes) bytes)

notes_of_chunks : (chunks : List (List ℕ)) → flat_map chunk_notes chunks ≡ flat_map note_bytes (flat_map pieces_in chunks)
notes_of_chunks [] = refl
notes_of_chunks (c ∷ chunks) = ap (λ l. chunk_notes c ++ l) (notes_of_chunks chunks) ∙ sym (flat_map-append note_bytes (pieces_in c) (flat_map pieces_in chunks))

chunks_noted : (chunks : List (List ℕ)) → concat (map noted chunks) ≡ flat_map noted_piece (flat_map pieces_in chunks)
chunks_noted [] = refl
chunks_noted (c ∷ chunks) = ap (λ l. noted c ++ l) (chunks_noted chunks) ∙ sym (flat_map-append noted_piece (pieces_in c) (flat_map pieces_in chunks))

-- the notes of several chunks are read as these chunks, unread
pub chunks_are_read_back : (chunks : List (List ℕ)) → read_notes (flat_map chunk_notes chunks) ≡ concat (map noted chunks)
chunks_are_read_back chunks =
    ap read_notes (notes_of_chunks chunks) ∙ all_read (flat_map pieces_in chunks) (pieces_short chunks) ∙ sym (chunks_noted chunks)
