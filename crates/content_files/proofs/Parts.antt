-- The parts of a content that are read piece by piece.
use Rattle.std.proofs.Common.{◌≡◌, ◌≤◌, ◌<◌, ◌+◌, ◌-◌, ◌∙◌, ◌++◌, ◌∷◌, [], ℕ, Bool, List, ap, arith, drop, false, get_or, length, length-append, map, refl, subst, sym, take, true}
use Rattle.std.specs.Prelude.{Err, IfOk, Ok, Result}
use Rattle.std.proofs.Math.Seq.{drop-append-add, take-append-add, take-append_seam, take-length}
use Rattle.std.proofs.lemmas.Grind.{flat_map-append}
use Rattle.std.proofs.lemmas.List.{append-nil, drop-append-le, drop-take, get_or-drop, length-drop, length-map, take-append-drop, take-append-le, take-map, take-take, take_more}
use Rattle.std.proofs.lemmas.List.Concat.{length-flat_map}
use Rattle.content_files.proofs.Joined.{joined-snoc, lens_of, note_at}
use Rattle.content_files.specs.Notes.{PieceNote, joined, note_of}
use Rattle.content_files.specs.Parts.{AreReadOf, IsAddedRead, IsCountIn, IsPart, IsReadAs, IsReadBetween, IsReadWithin, between}
use Rattle.content_files.specs.Reads.{IsCountWithin, IsPlaceOf}
use Rattle.content_files.specs.Shown.{AreNotesOf, note_shown}
use Rattle.content_files.specs.declared.note.Note.{Note}

-- pieces that were not read
pub not_read : (pieces : List (List ℕ)) → AreReadOf pieces pieces
not_read [] = tt
not_read (p ∷ ps) = (refl, not_read ps)

-- what was read of some pieces, and then of others
pub read_both : (a b c d : List (List ℕ)) → AreReadOf a b → AreReadOf c d → AreReadOf (a ++ c) (b ++ d)
read_both [] [] c d ab cd = cd
read_both [] (g ∷ b) c d ab cd = absurd ab
read_both (p ∷ a) [] c d ab cd = absurd ab
read_both (p ∷ a) (g ∷ b) c d ab cd = (ab.0, read_both a b c d ab.1 cd)

-- as many bytes were read as the pieces have
pub as_long : (pieces givens : List (List ℕ)) → AreReadOf pieces givens → length (joined pieces) ≡ length (joined givens)
as_long [] [] r = refl
as_long [] (g ∷ gs) r = absurd r
as_long (p ∷ ps) [] r = absurd r
as_long (p ∷ ps) (g ∷ gs) r = omega (arith, ap (λ (x : PieceNote). x.len) r.0, as_long ps gs r.1, length-append p (joined ps), length-append g (joined gs))

-- a part of the middle
pub between_middle : (front middle back : List ℕ) (start end : ℕ) → length front ≤ start → start ≤ end → end ≤ length front + length middle →
    between (front ++ (middle ++ back)) start end ≡ take (end - start) (drop (start - length front) middle)
between_middle front middle back start end from ordered to =
    let skipped : ℕ = start - length front in
    let at : start ≡ length front + skipped = omega arith in
    let left : end - start ≤ length (drop skipped middle) = omega (arith, length-drop skipped middle) in
    ap (λ k. take (end - start) (drop k (front ++ (middle ++ back)))) at
    ∙ ap (take (end - start)) (drop-append-add front (middle ++ back) skipped ∙ drop-append-le skipped middle back (omega arith))
    ∙ take-append-le (end - start) (drop skipped middle) back left

-- some pieces, those in the middle, and the others
pub joined_parts : (a b c : List (List ℕ)) → joined (a ++ (b ++ c)) ≡ joined a ++ (joined b ++ joined c)
joined_parts a b c = flat_map-append (λ p. p) a (b ++ c) ∙ ap (λ l. joined a ++ l) (flat_map-append (λ p. p) b c)

-- what was read of the pieces is a part of the content that they are
part_of_pieces : (pieces : List (List ℕ)) (start end : ℕ) (part : List ℕ) → start ≤ end → IsReadBetween pieces start end part → IsPart true (joined pieces) start end part
part_of_pieces pieces start end part ordered r =
    let all : List (List ℕ) = r.front ++ (r.givens ++ r.back) in (
      joined all,
      record {
        pieces = pieces;
        givens = all;
        whole = refl;
        same = refl;
        each = subst (λ (p : List (List ℕ)). AreReadOf p all) (sym r.whole) (read_both r.front r.front (r.read ++ r.back) (r.givens ++ r.back) (not_read r.front) (read_both r.read r.givens r.back r.back r.each (not_read r.back)));
      },
      r.part_is ∙ sym (ap (λ (l : List ℕ). between l start end) (joined_parts r.front r.givens r.back) ∙ between_middle (joined r.front) (joined r.givens) (joined r.back) start end r.from ordered r.to),
    )

-- a content that ends where a piece does is the pieces before
pub cut_between : (pieces : List (List ℕ)) (len count : ℕ) → len ≡ length (joined (take count pieces)) → take len (joined pieces) ≡ joined (take count pieces)
cut_between pieces len count is =
    ap (λ n. take n (joined pieces)) is
    ∙ ap (take (length (joined (take count pieces)))) (ap joined (sym (take-append-drop count pieces)) ∙ flat_map-append (λ p. p) (take count pieces) (drop count pieces))
    ∙ take-append_seam (joined (take count pieces)) (joined (drop count pieces))

-- what was read of the pieces of a content is a part of it
pub part_of_read : (pieces : List (List ℕ)) (len start end : ℕ) (part : List ℕ) → start ≤ end → IsReadWithin pieces len start end part → IsPart true (take len (joined pieces)) start end part
part_of_read pieces len start end part ordered r =
    subst (λ (content : List ℕ). IsPart true content start end part) (sym (cut_between pieces len r.count r.counted.1)) (part_of_pieces (take r.count pieces) start end part ordered r.read)

-- the notes of the first pieces
pub notes_within : (notes : List Note) (total : ℕ) (pieces : List (List ℕ)) (count : ℕ) → AreNotesOf notes total pieces → AreNotesOf (take count notes) (length (joined (take count pieces))) (take count pieces)
notes_within notes total pieces count are = record {
  each = sym (take-map note_shown count notes) ∙ ap (take count) are.each ∙ take-map note_of count pieces;
  total = refl;
}

-- the first pieces have the length that their notes have together
pub counted : (notes : List Note) (total len count : ℕ) (pieces : List (List ℕ)) → AreNotesOf notes total pieces → IsCountWithin notes len count → IsCountIn pieces len count
counted notes total len count pieces are is =
    let first = notes_within notes total pieces count are in (
      omega (arith, is.0, ap length are.each, length-map notes note_shown, length-map pieces note_of),
      is.1 ∙ lens_of (take count notes) (take count pieces) first.each ∙ sym (length-flat_map (λ (p : List ℕ). p) (take count pieces)),
    )

-- what was read of pieces from the first one on, to before an index
abbrev pub AreReadFrom : List (List ℕ) → ℕ → ℕ → List ℕ → Type 0
AreReadFrom pieces first index bytes =
    (givens : List (List ℕ)) × AreReadOf (take (index - first) (drop first pieces)) givens × (bytes ≡ joined givens)

-- the same of the first pieces
pub read_within : (pieces : List (List ℕ)) (first index count : ℕ) (bytes : List ℕ) → first ≤ index → index ≤ count → AreReadFrom pieces first index bytes → AreReadFrom (take count pieces) first index bytes
read_within pieces first index count bytes from within read =
    let parts : count ≡ first + (count - first) = omega arith in
    let same : take (index - first) (drop first (take count pieces)) ≡ take (index - first) (drop first pieces) =
    ap (λ k. take (index - first) (drop first (take k pieces))) parts ∙ ap (take (index - first)) (drop-take first (count - first) pieces) ∙ take-take (index - first) (count - first) (drop first pieces) (omega arith) in (
      read.0,
      subst (λ (ps : List (List ℕ)). AreReadOf ps read.0) (sym same) read.1,
      read.2,
    )

-- one piece more was read
pub one_read_more : (notes : List Note) (total : ℕ) (pieces : List (List ℕ)) (first index : ℕ) (note : Note) (old new : List ℕ) → AreNotesOf notes total pieces → first ≤ index → index < length notes →
    note ≡ get_or notes index note → AreReadFrom pieces first index old → IsAddedRead (note_shown note) old new → AreReadFrom pieces first (index + 1) new × (length new ≡ length old + note.len)
one_read_more notes total pieces first index note old new are from within at read added =
    let count : index < length pieces = omega (arith, within, ap length are.each, length-map notes note_shown, length-map pieces note_of) in
    let k : ℕ = index - first in
    let there : k < length (drop first pieces) = omega (arith, count, length-drop first pieces) in
    let is : first + k ≡ index = omega arith in
    let next : index + 1 - first ≡ k + 1 = omega arith in
    let piece : List ℕ = get_or pieces index [] in
    let same : get_or (drop first pieces) k [] ≡ piece = get_or-drop first pieces k [] ∙ ap (λ i. get_or pieces i []) is in
    let more : take (index + 1 - first) (drop first pieces) ≡ take k (drop first pieces) ++ piece ∷ [] =
    ap (λ n. take n (drop first pieces)) next ∙ take_more (drop first pieces) k [] there ∙ ap (λ p. take k (drop first pieces) ++ p ∷ []) same in
    let resembles : note_of added.bytes ≡ note_of piece = added.noted ∙ note_at notes pieces index note are.each count at in (
      (
        read.0 ++ added.bytes ∷ [],
        subst (λ (ps : List (List ℕ)). AreReadOf ps (read.0 ++ added.bytes ∷ [])) (sym more) (read_both (take k (drop first pieces)) read.0 (piece ∷ []) (added.bytes ∷ []) read.1 (resembles, tt)),
        added.added ∙ ap (λ l. l ++ added.bytes) read.2 ∙ sym (joined-snoc read.0 added.bytes),
      ),
      omega (arith, ap length added.added, length-append old added.bytes, ap (λ (x : PieceNote). x.len) added.noted),
    )

-- the first piece begins where those before it end
pub begins_at : (notes : List Note) (total : ℕ) (pieces : List (List ℕ)) (offset first begin : ℕ) → AreNotesOf notes total pieces → IsPlaceOf notes offset first begin → begin ≡ length (joined (take first pieces))
begins_at notes total pieces offset first begin are at =
    let each : map note_shown (take first notes) ≡ map note_of (take first pieces) = sym (take-map note_shown first notes) ∙ ap (take first) are.each ∙ take-map note_of first pieces in
    at.before ∙ lens_of (take first notes) (take first pieces) each ∙ sym (length-flat_map (λ (p : List ℕ). p) (take first pieces))

-- the part of the pieces that were read
pub read_between : (pieces : List (List ℕ)) (first index begin start end : ℕ) (bytes part : List ℕ) → AreReadFrom pieces first index bytes → begin ≡ length (joined (take first pieces)) → begin ≤ start → end ≤ begin + length bytes →
    part ≡ take (end - begin - (start - begin)) (drop (start - begin) bytes) → start ≤ end → IsReadBetween pieces start end part
read_between pieces first index begin start end bytes part read place from to is ordered =
    let k : ℕ = index - first in
    let len : end - begin - (start - begin) ≡ end - start = omega arith in record {
      front = take first pieces;
      read = take k (drop first pieces);
      back = drop k (drop first pieces);
      givens = read.0;
      whole = sym (take-append-drop first pieces) ∙ ap (λ l. take first pieces ++ l) (sym (take-append-drop k (drop first pieces)));
      each = read.1;
      from = omega (arith, place);
      to = omega (arith, place, ap length read.2);
      part_is = is ∙ ap (λ n. take n (drop (start - begin) bytes)) len ∙ ap (λ b. take (end - start) (drop (start - b) bytes)) place ∙ ap (λ l. take (end - start) (drop (start - length (joined (take first pieces))) l)) read.2;
    }

-- bytes that are in memory are a part of their content
pub part_in_memory : (on_disk : Bool) (content : List ℕ) (start end : ℕ) (part : List ℕ) → part ≡ between content start end → IsPart on_disk content start end part
part_in_memory false content start end part is = is
part_in_memory true content start end part is = (
  content,
  record {
    pieces = content ∷ [];
    givens = content ∷ [];
    whole = sym (append-nil content);
    same = sym (append-nil content);
    each = (refl, tt);
  },
  is,
)

-- bytes in memory, and what was read in place of a content
with_front : (front content given : List ℕ) → IsReadAs content given → IsReadAs (front ++ content) (front ++ given)
with_front front content given read = record {
  pieces = front ∷ read.pieces;
  givens = front ∷ read.givens;
  whole = ap (λ l. front ++ l) read.whole;
  same = ap (λ l. front ++ l) read.same;
  each = (refl, read.each);
}

-- a part of a content, after bytes in memory
pub part_after : (front content : List ℕ) (base start end : ℕ) (part : List ℕ) → base ≡ length front → base ≤ start → base ≤ end → IsPart true content (start - base) (end - base) part → IsPart true (front ++ content) start end part
part_after front content base start end part is from to read =
    let at : start ≡ length front + (start - base) = omega (arith, is) in
    let size : end - base - (start - base) ≡ end - start = omega arith in (
      front ++ read.0,
      with_front front content read.0 read.1,
      read.2 ∙ ap (λ k. take k (drop (start - base) read.0)) size
          ∙ sym (ap (λ k. take (end - start) (drop k (front ++ read.0))) at ∙ ap (take (end - start)) (drop-append-add front read.0 (start - base))),
    )

less_none : (n : ℕ) → n - 0 ≡ n
less_none n = omega arith

-- a part of both
pub part_across : (front content : List ℕ) (base start end : ℕ) (first others : List ℕ) → base ≡ length front → start ≤ base → base ≤ end → first ≡ between front start base → IsPart true content 0 (end - base) others →
    IsPart true (front ++ content) start end (first ++ others)
part_across front content base start end first others is from to had read =
    let left : List ℕ = drop start front in
    let size : length left ≡ base - start = length-drop start front ∙ ap (λ k. k - start) (sym is) in
    let long : end - start ≡ length left + (end - base) = omega (arith, size) in
    let had_is : first ≡ left = had ∙ ap (λ k. take k left) (sym size) ∙ take-length left in (
      front ++ read.0,
      with_front front content read.0 read.1,
      (λ i. had_is i ++ (read.2 ∙ ap (λ k. take k read.0) (less_none (end - base))) i) ∙ sym (take-append-add left read.0 (end - base)) ∙ ap (λ k. take k (left ++ read.0)) (sym long)
          ∙ ap (take (end - start)) (sym (drop-append-le start front read.0 (omega (arith, is, from)))),
    )

-- what two facts of a success give
pub if_ok_both : {A E : Type 0} (r : Result A E) {P Q R : A → Type 0} → IfOk r P → IfOk r Q → ((x : A) → P x → Q x → R x) → IfOk r R
if_ok_both (Ok x) p q both = both x p q
if_ok_both (Err e) p q both = tt

-- contents that may lie in files
pub part_on_disk : (on_disk : Bool) (content : List ℕ) (start end : ℕ) (part : List ℕ) → on_disk ≡ true → IsPart true content start end part → IsPart on_disk content start end part
part_on_disk on_disk content start end part is part_is = subst (λ b. IsPart b content start end part) (sym is) part_is
