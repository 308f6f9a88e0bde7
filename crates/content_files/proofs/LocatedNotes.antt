-- Where bytes of a content lie in its file, and the notes of the pieces that have them.
use Rattle.std.proofs.Common.{◌≡◌, ◌≤◌, ◌<◌, ◌+◌, ◌-◌, ◌^◌, ◌%◌, ◌∙◌, ◌++◌, ◌∷◌, [], ℕ, List, ap, arith, drop, get_or, length, length-append, refl, subst, sym, take}
use Rattle.std.specs.Int.{w64, from_le_bytes, to_le_bytes}
use Rattle.std.proofs.lemmas.Nat.{from_le_bytes-to_le_bytes_8}
use Rattle.std.specs.List.{flat_map}
use Rattle.std.proofs.lemmas.Grind.{flat_map-append}
use Rattle.std.proofs.lemmas.List.{append-nil, append_assoc, drop-take, get_or-drop, length-drop, length-map, take-append-drop, take-take, take_more}
use Rattle.content_files.proofs.Chunks.{note_written}
use Rattle.content_files.proofs.Joined.{joined-snoc, note_at}
use Rattle.content_files.proofs.Parts.{as_long, between_middle, cut_between, joined_parts, not_read, read_both}
use Rattle.content_files.specs.Chunks.{note_bytes}
use Rattle.content_files.specs.LocatedNotes.{AreNotesBetween, FitWords, NotedPiecesArePart}
use Rattle.content_files.specs.Notes.{PieceNote, joined, note_of, piece_sum}
use Rattle.content_files.specs.Parts.{AreReadOf, IsCountIn}
use Rattle.content_files.specs.Shown.{AreNotesOf, note_shown}
use Rattle.content_files.specs.declared.note.Note.{Note}

-- the pieces from the first one on, to before an index
abbrev pub pieces_from : List (List ℕ) → ℕ → ℕ → List (List ℕ)
pieces_from pieces first index = take (index - first) (drop first pieces)

-- these are their notes, and they end here
abbrev pub AreNotedFrom : List (List ℕ) → ℕ → ℕ → ℕ → ℕ → List ℕ → Type 0
AreNotedFrom pieces first index begin end notes =
    (first ≤ index) × (end ≡ begin + length (joined (pieces_from pieces first index))) × (notes ≡ flat_map note_bytes (pieces_from pieces first index)) × FitWords (pieces_from pieces first index)

-- pieces that fit, and one more that does
fit_more : (pieces : List (List ℕ)) (piece : List ℕ) → FitWords pieces → length piece < 2 ^ 64 → piece_sum piece < 2 ^ 64 → FitWords (pieces ++ piece ∷ [])
fit_more [] piece fit len sum = (len, sum, tt)
fit_more (p ∷ ps) piece fit len sum = (fit.0, fit.1, fit_more ps piece fit.2 len sum)

-- one piece more is noted
pub one_noted_more : (notes : List Note) (total : ℕ) (pieces : List (List ℕ)) (first index begin end : ℕ) (note : Note) (old new : List ℕ) → AreNotesOf notes total pieces → index < length notes →
    note ≡ get_or notes index note → note.len < 2 ^ 64 → note.sum < 2 ^ 64 → AreNotedFrom pieces first index begin end old → new ≡ old ++ (to_le_bytes w64 note.len ++ to_le_bytes w64 note.sum) →
    AreNotedFrom pieces first (index + 1) begin (end + note.len) new
one_noted_more notes total pieces first index begin end note old new are within at short small noted added =
    let count : index < length pieces = omega (arith, within, ap length are.each, length-map notes note_shown, length-map pieces note_of) in
    let k : ℕ = index - first in
    let there : k < length (drop first pieces) = omega (arith, count, noted.0, length-drop first pieces) in
    let is : first + k ≡ index = omega (arith, noted.0) in
    let next : index + 1 - first ≡ k + 1 = omega (arith, noted.0) in
    let piece : List ℕ = get_or pieces index [] in
    let same : get_or (drop first pieces) k [] ≡ piece = get_or-drop first pieces k [] ∙ ap (λ i. get_or pieces i []) is in
    let more : pieces_from pieces first (index + 1) ≡ pieces_from pieces first index ++ piece ∷ [] =
    ap (λ n. take n (drop first pieces)) next ∙ take_more (drop first pieces) k [] there ∙ ap (λ p. take k (drop first pieces) ++ p ∷ []) same in
    let of_piece : note_shown note ≡ note_of piece = note_at notes pieces index note are.each count at in
    let size : length (joined (pieces_from pieces first (index + 1))) ≡ length (joined (pieces_from pieces first index)) + note.len =
    omega (arith, ap (λ ps. length (joined ps)) more, ap length (joined-snoc (pieces_from pieces first index) piece), length-append (joined (pieces_from pieces first index)) piece, ap (λ (x : PieceNote). x.len) of_piece) in (
      omega (arith, noted.0),
      omega (arith, noted.1, size),
      added ∙ (λ i. noted.2 i ++ note_written note piece small of_piece i)
          ∙ sym (ap (flat_map note_bytes) more ∙ flat_map-append note_bytes (pieces_from pieces first index) (piece ∷ []) ∙ ap (λ l. flat_map note_bytes (pieces_from pieces first index) ++ l) (append-nil (note_bytes piece))),
      subst FitWords (sym more) (fit_more (pieces_from pieces first index) piece noted.3 (omega (arith, short, ap (λ (x : PieceNote). x.len) of_piece)) (omega (arith, small, ap (λ (x : PieceNote). x.sum) of_piece))),
    )

-- the same of the first pieces
pub noted_within : (pieces : List (List ℕ)) (first index count begin end : ℕ) (notes : List ℕ) → index ≤ count → AreNotedFrom pieces first index begin end notes → AreNotedFrom (take count pieces) first index begin end notes
noted_within pieces first index count begin end notes within noted =
    let parts : count ≡ first + (count - first) = omega (arith, noted.0) in
    let same : pieces_from (take count pieces) first index ≡ pieces_from pieces first index =
    ap (λ k. take (index - first) (drop first (take k pieces))) parts ∙ ap (take (index - first)) (drop-take first (count - first) pieces) ∙ take-take (index - first) (count - first) (drop first pieces) (omega (arith, noted.0)) in (
      noted.0,
      noted.1 ∙ ap (λ ps. begin + length (joined ps)) (sym same),
      noted.2 ∙ ap (flat_map note_bytes) (sym same),
      subst FitWords (sym same) noted.3,
    )

-- the notes of pieces that have the bytes of a content
pub located_in : (pieces : List (List ℕ)) (first index count len begin start end next : ℕ) (notes : List ℕ) → IsCountIn pieces len count → index ≤ count → AreNotedFrom pieces first index begin next notes →
    begin ≡ length (joined (take first (take count pieces))) → begin ≤ start → end ≤ next → AreNotesBetween (take len (joined pieces)) start end begin notes
located_in pieces first index count len begin start end next notes counted within all place from to =
    let noted = noted_within pieces first index count begin next notes within all in
    let few : List (List ℕ) = take count pieces in
    let k : ℕ = index - first in record {
      front = joined (take first few);
      pieces = pieces_from few first index;
      back = joined (drop k (drop first few));
      whole = cut_between pieces len count counted.1
          ∙ ap joined (sym (take-append-drop first few) ∙ ap (λ l. take first few ++ l) (sym (take-append-drop k (drop first few))))
          ∙ joined_parts (take first few) (take k (drop first few)) (drop k (drop first few));
      noted = noted.2;
      fit = noted.3;
      at = place;
      from = from;
      to = omega (arith, to, noted.1);
    }

-- the notes of pieces that have the bytes of a content behind its first ones
pub located_after : (front content : List ℕ) (base start end begin : ℕ) (notes : List ℕ) → base ≡ length front → base ≤ start → base ≤ end → AreNotesBetween content (start - base) (end - base) begin notes →
    AreNotesBetween (front ++ content) start end (base + begin) notes
located_after front content base start end begin notes is from to located = record {
  front = front ++ located.front;
  pieces = located.pieces;
  back = located.back;
  whole = ap (λ l. front ++ l) located.whole ∙ sym (append_assoc front located.front (joined located.pieces ++ located.back));
  noted = located.noted;
  fit = located.fit;
  at = omega (arith, is, located.at, length-append front located.front);
  from = omega (arith, from, located.from);
  to = omega (arith, to, located.to);
}

none_before : (front : List ℕ) (content : List ℕ) → length front ≡ 0 → front ++ content ≡ content
none_before [] content is = refl
none_before (b ∷ front) content is = absurd (omega (arith, is))

-- the note of the first bytes and those of the pieces behind them
pub located_across : (front content : List ℕ) (base start end begin : ℕ) (notes others new : List ℕ) → base ≡ length front → start ≤ base → base ≤ end → FitWords (front ∷ []) → notes ≡ note_bytes front →
    AreNotesBetween content 0 (end - base) begin others → new ≡ notes ++ others → AreNotesBetween (front ++ content) start end 0 new
located_across front content base start end begin notes others new is from to fit noted located added = record {
  front = [];
  pieces = front ∷ located.pieces;
  back = located.back;
  whole = ap (λ l. front ++ l) (located.whole ∙ none_before located.front (joined located.pieces ++ located.back) (omega (arith, located.at, located.from)))
      ∙ sym (append_assoc front (joined located.pieces) located.back);
  noted = added ∙ (λ i. noted i ++ located.noted i);
  fit = (fit.0, fit.1, located.fit);
  at = refl;
  from = omega arith;
  to = omega (arith, is, located.to, located.at, located.from, length-append front (joined located.pieces));
}

-- the note of the first bytes
pub located_front : (front content : List ℕ) (base start end : ℕ) (notes : List ℕ) → base ≡ length front → end ≤ base → FitWords (front ∷ []) → notes ≡ note_bytes front → AreNotesBetween (front ++ content) start end 0 notes
located_front front content base start end notes is to fit noted = record {
  front = [];
  pieces = front ∷ [];
  back = content;
  whole = ap (λ l. l ++ content) (sym (append-nil front));
  noted = noted ∙ sym (append-nil (note_bytes front));
  fit = fit;
  at = refl;
  from = omega arith;
  to = omega (arith, is, to, ap length (append-nil front));
}

-- ---- whoever reads pieces with these notes

-- words that are equal, and what follows them
same_word : (m n : ℕ) (a b : List ℕ) → m < 2 ^ 64 → n < 2 ^ 64 → to_le_bytes w64 m ++ a ≡ to_le_bytes w64 n ++ b → (m ≡ n) × (a ≡ b)
same_word m n a b lm ln is = (sym (from_le_bytes-to_le_bytes_8 m lm) ∙ ap (λ l. from_le_bytes w64 (take 8 l)) is ∙ from_le_bytes-to_le_bytes_8 n ln, ap (drop 8) is)

low_word : (n : ℕ) → n < 2 ^ 64 → n % 2 ^ 64 ≡ n
low_word n small = omega (arith, small)

-- pieces whose first notes are equal, and the other notes
same_note : (p g : List ℕ) (a b : List ℕ) → FitWords (p ∷ []) → FitWords (g ∷ []) → note_bytes p ++ a ≡ note_bytes g ++ b → (note_of g ≡ note_of p) × (a ≡ b)
same_note p g a b fp fg is =
    let first = same_word (length p) (length g) (to_le_bytes w64 (piece_sum p % 2 ^ 64) ++ a) (to_le_bytes w64 (piece_sum g % 2 ^ 64) ++ b) fp.0 fg.0 is in
    let second = same_word (piece_sum p % 2 ^ 64) (piece_sum g % 2 ^ 64) a b (omega (arith, low_word (piece_sum p) fp.1, fp.1)) (omega (arith, low_word (piece_sum g) fg.1, fg.1)) first.1 in
    let sums : piece_sum g ≡ piece_sum p = sym (sym (low_word (piece_sum p) fp.1) ∙ second.0 ∙ low_word (piece_sum g) fg.1) in
    ((λ i. record { len = sym first.0 i; sum = sums i }), second.1)

-- pieces with the same notes resemble each other
same_notes : (pieces given : List (List ℕ)) → FitWords pieces → FitWords given → flat_map note_bytes pieces ≡ flat_map note_bytes given → AreReadOf pieces given
same_notes [] [] fp fg is = tt
same_notes [] (g ∷ gs) fp fg is = absurd (omega (arith, ap length is))
same_notes (p ∷ ps) [] fp fg is = absurd (omega (arith, ap length is))
same_notes (p ∷ ps) (g ∷ gs) fp fg is =
    let both = same_note p g (flat_map note_bytes ps) (flat_map note_bytes gs) (fp.0, fp.1, tt) (fg.0, fg.1, tt) is in
    (both.0, same_notes ps gs fp.2 fg.2 both.1)

pub noted_pieces_are_part : NotedPiecesArePart
noted_pieces_are_part content start end begin notes given ordered located fit same =
    let read : AreReadOf located.pieces given = same_notes located.pieces given located.fit fit (sym located.noted ∙ same) in
    let front : List (List ℕ) = located.front ∷ [] in
    let back : List (List ℕ) = located.back ∷ [] in
    let all : List ℕ = located.front ++ (joined given ++ located.back) in
    let joins : (middle : List (List ℕ)) → located.front ++ (joined middle ++ located.back) ≡ joined (front ++ (middle ++ back)) = λ middle.
    sym (joined_parts front middle back ∙ (λ i. append-nil located.front i ++ (joined middle ++ append-nil located.back i))) in
    let size : end - begin - (start - begin) ≡ end - start = omega (arith, located.from, ordered) in
    let long : end ≤ length located.front + length (joined given) = omega (arith, located.to, located.at, as_long located.pieces given read) in (
      all,
      record {
        pieces = front ++ (located.pieces ++ back);
        givens = front ++ (given ++ back);
        whole = located.whole ∙ joins located.pieces;
        same = joins given;
        each = read_both front front (located.pieces ++ back) (given ++ back) (not_read front) (read_both located.pieces given back back read (not_read back));
      },
      ap (λ k. take k (drop (start - begin) (joined given))) size ∙ ap (λ b. take (end - start) (drop (start - b) (joined given))) located.at
          ∙ sym (between_middle located.front (joined given) located.back start end (omega (arith, located.from, located.at)) ordered long),
    )
