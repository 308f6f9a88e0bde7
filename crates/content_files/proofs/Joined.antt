-- The pieces of a content after one deed more.
use Rattle.std.proofs.Common.{◌≡◌, ◌≤◌, ◌<◌, ◌-◌, ◌+◌, ◌∙◌, ℕ, List, [], ◌∷◌, ◌++◌, true, ap, arith, length, length-append, refl, subst, sym}
use Rattle.std.specs.Prelude.{drop, map, sum, sum_by, take, get_or}
use Rattle.std.proofs.Math.Seq.{take-append_seam, take-length}
use Rattle.std.proofs.lemmas.Grind.{flat_map-append}
use Rattle.std.proofs.lemmas.List.{length-map, length-take-le, take-append-le, append_assoc, append-nil, map-append, get_or-map, take-append-drop}
use Rattle.std.proofs.lemmas.Simd.{map-map}
use Rattle.std.proofs.lemmas.List.Sums.{sum-map}
use Rattle.std.specs.Prelude.{◌<◌}
use Prim.Native.Nat.{suc}
use Rattle.std.proofs.lemmas.Bool.{lt-ltb}
use Rattle.content_files.specs.Notes.{PieceNote, is_read, joined, note_of}
use Rattle.content_files.specs.Pieces.{IsAtEndOf, LieAs, Pieces, with_piece}
use Rattle.content_files.specs.Placed.{Placed, placed}
use Rattle.content_files.specs.Shown.{AreNotesOf, note_shown}
use Rattle.content_files.specs.declared.note.Note.{Note}

-- the notes but the first
rest_of : List PieceNote → List PieceNote
rest_of [] = []
rest_of (n ∷ ns) = ns

-- pieces, the last of which has a note n, after those with the notes before it
pub record AreParted (pieces : List (List ℕ)) (notes : List Note) (n : Note) : Type 0 where
  pub front : List (List ℕ)
  pub last : List ℕ
  pub both : pieces ≡ front ++ last ∷ []
  pub each : map note_shown notes ≡ map note_of front
  pub one : note_shown n ≡ note_of last

parted : (pieces : List (List ℕ)) (notes : List Note) (n : Note) → map note_shown (notes ++ n ∷ []) ≡ map note_of pieces → AreParted pieces notes n
unfolding rest_of
parted [] [] n e = absurd (omega (arith, ap length e))
parted [] (m ∷ notes) n e = absurd (omega (arith, ap length e))
parted (p ∷ []) [] n e = record { front = []; last = p; both = refl; each = refl; one = ap (λ l. get_or l 0 (note_of p)) e }
parted (p ∷ q ∷ ps) [] n e = absurd (omega (arith, ap length e))
parted (p ∷ ps) (m ∷ notes) n e =
    let r = parted ps notes n (ap rest_of e) in record {
      front = p ∷ r.front;
      last = r.last;
      both = ap (λ l. p ∷ l) r.both;
      each = ap (λ (x : PieceNote). x ∷ map note_shown notes) (ap (λ l. get_or l 0 (note_of p)) e) ∙ ap (λ l. note_of p ∷ l) r.each;
      one = r.one;
    }

-- the last note is at most as long as the content, and without it the others are the notes of the other pieces
pub without_last : (notes all : List Note) (n : Note) (len : ℕ) (pieces : List (List ℕ)) → AreNotesOf all len pieces → all ≡ notes ++ n ∷ [] →
    (n.len ≤ len) × AreNotesOf notes (len - n.len) (take (length pieces - 1) pieces)
without_last notes all n len pieces are is =
    let r = parted pieces notes n (sym (ap (map note_shown) is) ∙ are.each) in
    let count : length pieces - 1 ≡ length r.front = omega (arith, ap length r.both, length-append r.front (r.last ∷ [])) in
    let front : take (length pieces - 1) pieces ≡ r.front = ap (λ k. take k pieces) count ∙ ap (take (length r.front)) r.both ∙ take-append_seam r.front (r.last ∷ []) in
    let whole : len ≡ length (joined r.front) + length r.last =
    are.total ∙ ap (λ l. length (joined l)) r.both ∙ ap length (flat_map-append (λ p. p) r.front (r.last ∷ [])) ∙ length-append (joined r.front) (joined (r.last ∷ [])) ∙ ap (λ l. length (joined r.front) + l) (length-append r.last []) ∙ omega arith in
    let size : n.len ≡ length r.last = ap (λ (x : PieceNote). x.len) r.one in (
      omega (arith, whole, size),
      record {
        each = r.each ∙ ap (map note_of) (sym front);
        total = omega (arith, whole, size) ∙ ap (λ l. length (joined l)) (sym front);
      },
    )

-- a content that ends before the last piece does not change if that is forgotten
pub forgotten : (notes all : List Note) (n : Note) (len total : ℕ) (pieces : List (List ℕ)) → AreNotesOf all total pieces → all ≡ notes ++ n ∷ [] → len ≤ total - n.len →
    take len (joined (take (length pieces - 1) pieces)) ≡ take len (joined pieces)
forgotten notes all n len total pieces are is within =
    let r = parted pieces notes n (sym (ap (map note_shown) is) ∙ are.each) in
    let count : length pieces - 1 ≡ length r.front = omega (arith, ap length r.both, length-append r.front (r.last ∷ [])) in
    let front : take (length pieces - 1) pieces ≡ r.front = ap (λ k. take k pieces) count ∙ ap (take (length r.front)) r.both ∙ take-append_seam r.front (r.last ∷ []) in
    let parts : joined pieces ≡ joined r.front ++ joined (r.last ∷ []) = ap joined r.both ∙ flat_map-append (λ p. p) r.front (r.last ∷ []) in
    let size : n.len ≡ length r.last = ap (λ (x : PieceNote). x.len) r.one in
    let whole : total ≡ length (joined r.front) + length r.last =
    are.total ∙ ap length parts ∙ length-append (joined r.front) (joined (r.last ∷ [])) ∙ ap (λ l. length (joined r.front) + l) (length-append r.last []) ∙ omega arith in
    ap (λ l. take len (joined l)) front ∙ sym (ap (take len) parts ∙ take-append-le len (joined r.front) (joined (r.last ∷ [])) (omega (arith, whole, size, within)))

-- the pieces and one more
pub joined-snoc : (pieces : List (List ℕ)) (piece : List ℕ) → joined (pieces ++ piece ∷ []) ≡ joined pieces ++ piece
joined-snoc pieces piece = flat_map-append (λ p. p) pieces (piece ∷ []) ∙ ap (λ l. joined pieces ++ l) (append-nil piece)

pub take_all : (xs : List ℕ) (n : ℕ) → n ≡ length xs → take n xs ≡ xs
take_all xs n is = ap (λ k. take k xs) is ∙ take-length xs

-- a whole content with one piece more
pub added : (pieces : List (List ℕ)) (piece : List ℕ) (total : ℕ) → total ≡ length (joined pieces) →
    take (total + length piece) (joined (pieces ++ piece ∷ [])) ≡ take total (joined pieces) ++ piece
added pieces piece total is =
    let all : total + length piece ≡ length (joined (pieces ++ piece ∷ [])) = omega (arith, is, ap length (joined-snoc pieces piece), length-append (joined pieces) piece) in
    take_all (joined (pieces ++ piece ∷ [])) (total + length piece) all ∙ joined-snoc pieces piece ∙ ap (λ l. l ++ piece) (sym (take_all (joined pieces) total is))

-- the notes and one more are those of the pieces and one more
pub noted : (notes : List Note) (n : Note) (total : ℕ) (pieces : List (List ℕ)) (piece : List ℕ) → AreNotesOf notes total pieces → note_shown n ≡ note_of piece → AreNotesOf (notes ++ n ∷ []) (total + n.len) (pieces ++ piece ∷ [])
noted notes n total pieces piece are is = record {
  each = map-append note_shown notes (n ∷ []) ∙ ap (λ l. l ++ note_shown n ∷ []) are.each ∙ ap (λ x. map note_of pieces ++ x ∷ []) is ∙ sym (map-append note_of pieces (piece ∷ []));
  total = omega (arith, are.total, ap (λ (x : PieceNote). x.len) is, ap length (joined-snoc pieces piece), length-append (joined pieces) piece);
}

-- numbers that fit into bytes are bytes
pub read_all : (bytes : List ℕ) → ((i : ℕ) → get_or bytes i 0 < 256) → is_read bytes ≡ true
read_all [] small = refl
read_all (b ∷ bytes) small = rw (lt-ltb b 256 (small 0)) (read_all bytes (λ i. small (suc i)))

-- the note of a piece
pub note_at : (notes : List Note) (pieces : List (List ℕ)) (i : ℕ) (n : Note) → map note_shown notes ≡ map note_of pieces → i < length pieces → n ≡ get_or notes i n → note_shown n ≡ note_of (get_or pieces i [])
note_at notes pieces i n each within at =
    let there : i < length notes = omega (arith, within, ap length each, length-map notes note_shown, length-map pieces note_of) in
    ap note_shown at ∙ sym (get_or-map note_shown notes i n (note_shown n) there) ∙ ap (λ l. get_or l i (note_shown n)) each ∙ get_or-map note_of pieces i [] (note_shown n) within

pub lens_of : (notes : List Note) (pieces : List (List ℕ)) → map note_shown notes ≡ map note_of pieces → sum_by (λ (n : Note). n.len) notes ≡ sum_by (λ (p : List ℕ). length p) pieces
lens_of notes pieces each =
    sym (sum-map (λ (n : Note). n.len) notes) ∙ ap sum (sym (map-map (λ (x : PieceNote). x.len) note_shown notes) ∙ ap (map (λ (x : PieceNote). x.len)) each ∙ map-map (λ (x : PieceNote). x.len) note_of pieces)
    ∙ sum-map (λ (p : List ℕ). length p) pieces

-- pieces to which a part of what was written was added, and the rest
abbrev pub IsAdding : Pieces → List ℕ → Pieces → Placed → Type 0
IsAdding start all p w =
    LieAs start p × IsAtEndOf w p
    × (joined p.each ++ w.bytes ≡ joined start.each ++ all)
    × (take (length (joined start.each)) (joined p.each) ≡ joined start.each)
    × (length (joined start.each) ≤ length (joined p.each))

-- the same after one piece more
pub added_one : (start : Pieces) (all : List ℕ) (p : Pieces) (w first second : Placed) (mid : ℕ) (next : Pieces) → mid ≤ length w.bytes →
    first ≡ placed w.name w.offset (take mid w.bytes) → second ≡ placed w.name (w.offset + mid) (drop mid w.bytes) → next ≡ with_piece p first.bytes →
    IsAdding start all p w → IsAdding start all next second
added_one start all p w first second mid next within front back is adding =
    let piece = take mid w.bytes in
    let behind = drop mid w.bytes in
    let at = adding.1 in
    let size : length piece ≡ mid = length-take-le mid w.bytes within in
    let next_is : next ≡ with_piece p piece = is ∙ ap (λ (x : Placed). with_piece p x.bytes) front in
    let each : joined (p.each ++ piece ∷ []) ≡ joined p.each ++ piece = joined-snoc p.each piece in
    let long : length (joined (p.each ++ piece ∷ [])) ≡ length (joined p.each) + mid = omega (arith, ap length each, length-append (joined p.each) piece, size) in
    subst (λ (x : Placed). IsAdding start all next x) (sym back) (subst (λ (x : Pieces). IsAdding start all x (placed w.name (w.offset + mid) behind)) (sym next_is) (
      adding.0,
      record { name = at.name; place = omega (arith, long, at.place) },
      ap (λ l. l ++ behind) each ∙ append_assoc (joined p.each) piece behind ∙ ap (λ l. joined p.each ++ l) (take-append-drop mid w.bytes) ∙ adding.2,
      ap (take (length (joined start.each))) each ∙ take-append-le (length (joined start.each)) (joined p.each) piece adding.4 ∙ adding.3,
      omega (arith, long, adding.4),
    ))

-- the length of both
pub sizes : (a r b w : List ℕ) → a ++ r ≡ b ++ w → length a + length r ≡ length b + length w
sizes a r b w is = omega (arith, ap length is, length-append a r, length-append b w)
