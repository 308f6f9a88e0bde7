-- The first of some notes, and the others.
use Rattle.std.proofs.Common.{◌≡◌, ◌≤◌, ◌<◌, ◌+◌, ◌^◌, ◌%◌, ◌∙◌, ℕ, List, [], ◌∷◌, ◌++◌, ap, arith, length, length-append, refl, sym}
use Rattle.std.specs.Prelude.{drop, get_or, take}
use Rattle.std.specs.Int.{w64, from_le_bytes, to_le_bytes}
use Rattle.std.specs.List.{flat_map}
use Rattle.std.proofs.Math.Seq.{drop-append_seam, take-append_seam, take-length}
use Rattle.std.proofs.lemmas.Bool.{le-ltb}
use Rattle.std.proofs.lemmas.List.{append-nil, append_assoc, length-drop, length-replicate, take-append-le}
use Prim.Native.Nat.{zero, suc}
use Rattle.content_files.proofs.Chunks.{cut-last}
use Rattle.content_files.proofs.Joined.{joined-snoc}
use Rattle.content_files.specs.Chunks.{chunk_notes, cut_in, note_bytes, read_in, read_note, read_notes}
use Rattle.content_files.specs.FirstNotes.{AreOfChunk, IsFirstNote}
use Rattle.content_files.specs.Notes.{joined, piece_sum, unread}
use Rattle.content_files.specs.Pieces.{LieAs, Pieces, with_piece}
use Rattle.content_files.specs.declared.note.Note.{Note}

-- more steps read no more notes
read_more : (n m : ℕ) (xs : List ℕ) → length xs ≤ n → length xs ≤ m → read_in n xs ≡ read_in m xs
read_more zero zero xs a b = refl
read_more zero (suc m) [] a b = refl
read_more zero (suc m) (x ∷ xs) a b = absurd (omega (arith, a))
read_more (suc n) zero [] a b = refl
read_more (suc n) zero (x ∷ xs) a b = absurd (omega (arith, b))
read_more (suc n) (suc m) [] a b = refl
read_more (suc n) (suc m) (x ∷ xs) a b =
    let size = length-drop 16 (x ∷ xs) in
    ap (λ l. read_note (take 16 (x ∷ xs)) ++ l) (read_more n m (drop 16 (x ∷ xs)) (omega (arith, a, size)) (omega (arith, b, size)))

-- a note of sixteen bytes, and those after it
read_first : (note rest : List ℕ) → length note ≡ 16 → read_notes (note ++ rest) ≡ read_note note ++ read_notes rest
read_first [] rest size = absurd (omega (arith, size))
read_first (x ∷ note) rest size =
    let front : take 16 ((x ∷ note) ++ rest) ≡ x ∷ note = ap (λ k. take k ((x ∷ note) ++ rest)) (sym size) ∙ take-append_seam (x ∷ note) rest in
    let back : drop 16 ((x ∷ note) ++ rest) ≡ rest = ap (λ k. drop k ((x ∷ note) ++ rest)) (sym size) ∙ drop-append_seam (x ∷ note) rest in
    (λ i. read_note (front i) ++ read_in (length (note ++ rest)) (back i))
    ∙ ap (λ l. read_note (x ∷ note) ++ l) (read_more (length (note ++ rest)) (length rest) rest (omega (arith, length-append note rest)) (omega arith))

-- more steps cut no more pieces
cut_more : (n m : ℕ) (xs : List ℕ) → length xs ≤ n → length xs ≤ m → cut_in n xs ≡ cut_in m xs
cut_more zero zero xs a b = refl
cut_more zero (suc m) [] a b = refl
cut_more zero (suc m) (x ∷ xs) a b = absurd (omega (arith, a))
cut_more (suc n) zero [] a b = refl
cut_more (suc n) zero (x ∷ xs) a b = absurd (omega (arith, b))
cut_more (suc n) (suc m) [] a b = refl
cut_more (suc n) (suc m) (x ∷ xs) a b =
    let size = length-drop 1048576 (x ∷ xs) in
    ap (λ l. take 1048576 (x ∷ xs) ∷ l) (cut_more n m (drop 1048576 (x ∷ xs)) (omega (arith, a, size)) (omega (arith, b, size)))

-- a whole piece, and those after it
cut_first : (piece rest : List ℕ) → length piece ≡ 1048576 → chunk_notes (piece ++ rest) ≡ note_bytes piece ++ chunk_notes rest
cut_first [] rest size = absurd (omega (arith, size))
cut_first (x ∷ piece) rest size =
    let front : take 1048576 ((x ∷ piece) ++ rest) ≡ x ∷ piece = ap (λ k. take k ((x ∷ piece) ++ rest)) (sym size) ∙ take-append_seam (x ∷ piece) rest in
    let back : drop 1048576 ((x ∷ piece) ++ rest) ≡ rest = ap (λ k. drop k ((x ∷ piece) ++ rest)) (sym size) ∙ drop-append_seam (x ∷ piece) rest in
    (λ i. note_bytes (front i) ++ flat_map note_bytes (cut_in (length (piece ++ rest)) (back i)))
    ∙ ap (λ l. note_bytes (x ∷ piece) ++ flat_map note_bytes l) (cut_more (length (piece ++ rest)) (length rest) rest (omega (arith, length-append piece rest)) (omega arith))

-- one piece
cut_one : (piece : List ℕ) → 0 < length piece → length piece ≤ 1048576 → chunk_notes piece ≡ note_bytes piece
cut_one piece some short = ap (flat_map note_bytes) (cut-last (length piece) piece some short (omega arith)) ∙ append-nil (note_bytes piece)

-- the sum of a piece that was not read
sum_unread : (len sum : ℕ) → 0 < len → piece_sum (unread len sum) ≡ sum
sum_unread zero sum some = absurd (omega (arith, some))
sum_unread (suc n) sum some = rw (le-ltb (256 + sum) 256 (omega arith)) (omega arith)

small_mod : (n : ℕ) → n < 2 ^ 64 → n % 2 ^ 64 ≡ n
small_mod n small = omega (arith, small)

-- the note of a piece that was not read is the one that it was added by
note_again : (len sum : ℕ) (bytes : List ℕ) → 0 < len → sum < 2 ^ 64 → to_le_bytes w64 len ++ to_le_bytes w64 sum ≡ bytes → note_bytes (unread len sum) ≡ bytes
note_again len sum bytes some small is =
    let size : length (unread len sum) ≡ len = length-replicate len (256 + sum) in
    let same : piece_sum (unread len sum) % 2 ^ 64 ≡ sum = ap (λ k. k % 2 ^ 64) (sum_unread len sum some) ∙ small_mod sum small in
    (λ i. to_le_bytes w64 (size i) ++ to_le_bytes w64 (same i)) ∙ is

-- the bytes are those of the note
pub record IsNoteIn (bytes : List ℕ) (note : Note) : Type 0 where
  pub size : length bytes ≡ 16
  pub len : note.len ≡ from_le_bytes w64 (take 8 bytes)
  pub sum : note.sum ≡ from_le_bytes w64 (drop 8 bytes)
  pub written : to_le_bytes w64 note.len ++ to_le_bytes w64 note.sum ≡ bytes
  pub small : note.sum < 2 ^ 64

-- the chunk that a note and the others describe
reads_first : (notes bytes rest : List ℕ) (note : Note) → IsNoteIn bytes note → notes ≡ bytes ++ rest → read_notes notes ≡ unread note.len note.sum ++ read_notes rest
reads_first notes bytes rest note is whole =
    ap read_notes whole ∙ read_first bytes rest is.size ∙ (λ i. unread (sym is.len i) (sym is.sum i) ++ read_notes rest)

longer : (notes bytes rest : List ℕ) → length bytes ≡ 16 → notes ≡ bytes ++ rest → length rest < length notes
longer notes bytes rest size whole = omega (arith, size, ap length whole, length-append bytes rest)

-- the note of a whole piece may be followed by others
pub first_of : (notes bytes rest : List ℕ) (note : Note) → IsNoteIn bytes note → notes ≡ bytes ++ rest → note.len ≡ 1048576 → IsFirstNote notes note rest
first_of notes bytes rest note is whole full =
    let some : 0 < note.len = omega (arith, full) in
    let reads = reads_first notes bytes rest note is whole in
    let size : length (unread note.len note.sum) ≡ 1048576 = length-replicate note.len (256 + note.sum) ∙ full in
    record {
      shorter = longer notes bytes rest is.size whole;
      some = some;
      reads = reads;
      noted = λ others.
          ap chunk_notes reads ∙ cut_first (unread note.len note.sum) (read_notes rest) size
          ∙ (λ i. note_again note.len note.sum bytes some is.small is.written i ++ others i) ∙ sym whole;
    }

-- the note of a shorter piece is the last one
pub last_of : (notes bytes rest : List ℕ) (note : Note) → IsNoteIn bytes note → notes ≡ bytes ++ rest → 0 < note.len → note.len ≤ 1048576 → rest ≡ [] → IsFirstNote notes note rest
last_of notes bytes rest note is whole some short none =
    let reads = reads_first notes bytes rest note is whole in
    let size : length (unread note.len note.sum) ≡ note.len = length-replicate note.len (256 + note.sum) in
    let alone : read_notes notes ≡ unread note.len note.sum = reads ∙ ap (λ l. unread note.len note.sum ++ read_notes l) none ∙ append-nil (unread note.len note.sum) in
    let only : notes ≡ bytes = whole ∙ ap (λ l. bytes ++ l) none ∙ append-nil bytes in
    record {
      shorter = longer notes bytes rest is.size whole;
      some = some;
      reads = reads;
      noted = λ others.
          ap chunk_notes alone ∙ cut_one (unread note.len note.sum) (omega (arith, size, some)) (omega (arith, size, short))
          ∙ note_again note.len note.sum bytes some is.small is.written ∙ sym only;
    }

-- the first number of a piece that was not read, or else of what follows it, is no byte
head_unread : (len sum : ℕ) (rest : List ℕ) → (0 < length rest → 256 ≤ get_or rest 0 0) → 0 < length (unread len sum ++ rest) → 256 ≤ get_or (unread len sum ++ rest) 0 0
head_unread zero sum rest again some = again some
head_unread (suc n) sum rest again some = omega arith

in_unread : (n : ℕ) (notes : List ℕ) → 0 < length (read_in n notes) → 256 ≤ get_or (read_in n notes) 0 0
in_unread zero notes some = absurd (omega (arith, some))
in_unread (suc n) [] some = absurd (omega (arith, some))
in_unread (suc n) (x ∷ notes) some =
    head_unread (from_le_bytes w64 (take 8 (take 16 (x ∷ notes)))) (from_le_bytes w64 (drop 8 (take 16 (x ∷ notes)))) (read_in n (drop 16 (x ∷ notes))) (in_unread n (drop 16 (x ∷ notes))) some

-- the first number of a chunk that notes describe is no byte
pub notes_unread : (notes : List ℕ) → 0 < length (read_notes notes) → 256 ≤ get_or (read_notes notes) 0 0
notes_unread notes some = in_unread (length notes) notes some

-- pieces to which the pieces of some notes were added, and the other notes
pub record IsAddingNotes (start : Pieces) (notes : List ℕ) (p : Pieces) (rest : List ℕ) : Type 0 where
  pub lies : LieAs start p
  pub whole : joined p.each ++ read_notes rest ≡ joined start.each ++ read_notes notes
  pub begin : take (length (joined start.each)) (joined p.each) ≡ joined start.each
  pub long : length (joined start.each) ≤ length (joined p.each)
  pub noted : AreOfChunk rest → AreOfChunk notes

-- nothing was added yet
pub adding_none : (start : Pieces) (notes : List ℕ) → IsAddingNotes start notes start notes
adding_none start notes = record { lies = (refl, refl); whole = refl; begin = take-length (joined start.each); long = omega arith; noted = λ are. are }

-- the same after one piece more
pub adding_one : (start : Pieces) (notes : List ℕ) (p q : Pieces) (rest others : List ℕ) (note : Note) →
    IsFirstNote rest note others → q ≡ with_piece p (unread note.len note.sum) → IsAddingNotes start notes p rest → IsAddingNotes start notes q others
adding_one start notes p q rest others note first is adding =
    let piece = unread note.len note.sum in
    let each : joined q.each ≡ joined p.each ++ piece = ap (λ (x : Pieces). joined x.each) is ∙ joined-snoc p.each piece in
    record {
      lies = (ap (λ (x : Pieces). x.name) is ∙ adding.lies.0, ap (λ (x : Pieces). x.base) is ∙ adding.lies.1);
      whole = ap (λ l. l ++ read_notes others) each ∙ append_assoc (joined p.each) piece (read_notes others) ∙ ap (λ l. joined p.each ++ l) (sym first.reads) ∙ adding.whole;
      begin = ap (take (length (joined start.each))) each ∙ take-append-le (length (joined start.each)) (joined p.each) piece adding.long ∙ adding.begin;
      long = omega (arith, ap length each, length-append (joined p.each) piece, adding.long);
      noted = λ are. adding.noted (first.noted are);
    }
