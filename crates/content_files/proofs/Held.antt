-- What memory and a file hold together, after one deed more.
use Rattle.std.proofs.Common.{◌≡◌, ◌≤◌, ◌<◌, ◌-◌, ◌+◌, ◌∙◌, ℕ, List, [], ◌++◌, Option, Some, None, true, ap, arith, inl, inr, length, length-append, subst, sym}
use Rattle.std.specs.Prelude.{Err, Ok, OnErr, Result, drop, get_or, nat_lt, take}
use Rattle.std.proofs.Math.Seq.{take-append-add, take-length}
use Rattle.std.proofs.lemmas.Bool.{and_from, and_parts, cases_lt, le-ltb, lt-ltb}
use Rattle.std.proofs.lemmas.List.{append_assoc, append-nil, drop-append-le, drop-take, get_or-append-add, get_or_append_left, get_or-take, length-drop, length-take-le, nil_from_length, take-append-le, take-append-drop, take-take}
use Rattle.std.proofs.lemmas.List.Folds.{list_all-append}
use Rattle.content_files.proofs.Joined.{take_all}
use Rattle.content_files.proofs.FirstNotes.{notes_unread}
use Rattle.content_files.specs.Chunks.{read_notes}
use Rattle.content_files.specs.Held.{IsFirstUnread, IsHeld, first_noted, first_within, held}
use Rattle.content_files.specs.Notes.{is_read, joined}
use Rattle.content_files.specs.Parts.{between}
use Rattle.content_files.specs.Pieces.{LieAs, Pieces, pieces_of}
use Rattle.content_files.specs.declared.name.ContentName.{ContentName}

-- ---- the first unread byte

read_both : (a b : List ℕ) → is_read a ≡ true → is_read b ≡ true → is_read (a ++ b) ≡ true
read_both a b ra rb = list_all-append (λ n. nat_lt n 256) a b ∙ and_from (is_read a) (is_read b) ra rb

-- the beginning of a content that was read was read
read_take : (n : ℕ) (content : List ℕ) → is_read content ≡ true → is_read (take n content) ≡ true
read_take n content all = (and_parts (is_read (take n content)) (is_read (drop n content))
    (sym (list_all-append (λ b. nat_lt b 256) (take n content) (drop n content)) ∙ ap is_read (take-append-drop n content) ∙ all)).0

-- the first unread byte after a cut
pub cut_first : (first : Option ℕ) (content : List ℕ) (n : ℕ) → n ≤ length content → IsFirstUnread first content → IsFirstUnread (first_within first n) (take n content)
cut_first None content n within read = read_take n content read
cut_first (Some at) content n within first =
    elim (cases_lt at n) [
      | inl before ↦ rw (lt-ltb at n before) (
        omega (arith, before, length-take-le n content within),
        omega (arith, first.1, get_or-take n content at 0 before),
        ap is_read (take-take at n content (omega (arith, before))) ∙ first.2,
      )
      | inr behind ↦ rw (le-ltb at n behind) (ap is_read (sym (take-take n at content behind)) ∙ read_take n (take at content) first.2)
    ]

-- what follows does not change the first unread byte
pub add_after : (at : ℕ) (content more : List ℕ) → IsFirstUnread (Some at) content → IsFirstUnread (Some at) (content ++ more)
add_after at content more first = (
  omega (arith, first.0, length-append content more),
  omega (arith, first.1, get_or_append_left content more 0 at first.0),
  ap is_read (take-append-le at content more (omega (arith, first.0))) ∙ first.2,
)

-- the same after bytes
pub add_bytes : (first : Option ℕ) (content bytes : List ℕ) → is_read bytes ≡ true → IsFirstUnread first content → IsFirstUnread first (content ++ bytes)
add_bytes None content bytes read first = read_both content bytes first read
add_bytes (Some at) content bytes read first = add_after at content bytes first

plain : (n : ℕ) → n ≡ n + 0
plain n = omega arith

-- an unread byte after bytes that were read is the first one
pub add_unread : (content more : List ℕ) → 0 < length more → 256 ≤ get_or more 0 0 → is_read content ≡ true → IsFirstUnread (Some (length content)) (content ++ more)
add_unread content more some large read = (
  omega (arith, some, length-append content more),
  omega (arith, large, ap (λ k. get_or (content ++ more) k 0) (plain (length content)), get_or-append-add content more 0 0),
  ap is_read (take-append-le (length content) content more (omega arith) ∙ take-length content) ∙ read,
)

-- ---- the first bytes and the pieces

-- a beginning that has the first bytes
pub held_after : (front : List ℕ) (len rest : ℕ) (p : Pieces) → len ≡ length front + rest → held front len p ≡ front ++ take rest (joined p.each)
held_after front len rest p is = ap (λ k. take k (front ++ joined p.each)) is ∙ take-append-add front (joined p.each) rest

-- all of them
pub held_all : (front : List ℕ) (len : ℕ) (p : Pieces) → len ≡ length front + length (joined p.each) → held front len p ≡ front ++ joined p.each
held_all front len p is = take_all (front ++ joined p.each) len (is ∙ sym (length-append front (joined p.each)))

pub held_length : (front : List ℕ) (len : ℕ) (p : Pieces) → len ≤ length front + length (joined p.each) → length (held front len p) ≡ len
held_length front len p within = length-take-le len (front ++ joined p.each) (omega (arith, within, length-append front (joined p.each)))

-- a cut content
pub held_cut : (front : List ℕ) (len : ℕ) (p : Pieces) (first : Option ℕ) (n : ℕ) → n ≤ len → IsHeld front len p first →
    IsHeld front n p (first_within first n) × (held front n p ≡ take n (held front len p))
held_cut front len p first n shorter is =
    let same : take n (held front len p) ≡ held front n p = take-take n len (front ++ joined p.each) shorter in (
      record {
        base = is.base;
        within = omega (arith, shorter, is.within);
        first = subst (λ (l : List ℕ). IsFirstUnread (first_within first n) l) same (cut_first first (held front len p) n (omega (arith, shorter, held_length front len p is.within)) is.first);
      },
      sym same,
    )

-- Pieces of which the content has the same beginning.
abbrev pub IsKept : ℕ → Pieces → Pieces → Type 0
IsKept len p q = LieAs p q × (take len (joined q.each) ≡ take len (joined p.each)) × (len ≤ length (joined q.each))

-- a content whose pieces changed behind its end
pub held_kept : (front : List ℕ) (len rest : ℕ) (p q : Pieces) (first : Option ℕ) → len ≡ length front + rest → IsHeld front len p first → IsKept rest p q →
    IsHeld front len q first × (held front len q ≡ held front len p)
held_kept front len rest p q first is old kept =
    let same : held front len q ≡ held front len p = held_after front len rest q is ∙ ap (λ l. front ++ l) kept.1 ∙ sym (held_after front len rest p is) in (
      record {
        base = kept.0.1 ∙ old.base;
        within = omega (arith, is, kept.2);
        first = subst (λ (l : List ℕ). IsFirstUnread first l) (sym same) old.first;
      },
      same,
    )

-- the pieces after some were added to them
pub kept_more : (rest : ℕ) (p q r : Pieces) → IsKept rest p q → length (joined q.each) ≡ rest → LieAs q r → take (length (joined q.each)) (joined r.each) ≡ joined q.each → length (joined q.each) ≤ length (joined r.each) →
    IsKept rest p r
kept_more rest p q r kept whole lies begin long = (
  (lies.0 ∙ kept.0.0, lies.1 ∙ kept.0.1),
  ap (λ k. take k (joined r.each)) (sym whole) ∙ begin ∙ sym (take_all (joined q.each) rest (sym whole)) ∙ kept.1,
  omega (arith, whole, long),
)

-- a content that grew
pub held_more : (front : List ℕ) (len rest : ℕ) (p q r : Pieces) (more : List ℕ) (new : ℕ) → len ≡ length front + rest → IsKept rest p q → length (joined q.each) ≡ rest →
    joined r.each ≡ joined q.each ++ more → new ≡ length front + length (joined r.each) → held front new r ≡ held front len p ++ more
held_more front len rest p q r more new is kept whole added size =
    held_all front new r size ∙ ap (λ l. front ++ l) added ∙ sym (append_assoc front (joined q.each) more)
    ∙ ap (λ l. (front ++ l) ++ more) (sym (take_all (joined q.each) rest (sym whole)) ∙ kept.1) ∙ ap (λ l. l ++ more) (sym (held_after front len rest p is))

-- a content that grew, whose first unread byte is known
pub held_grown : (front : List ℕ) (len rest : ℕ) (p q r : Pieces) (more : List ℕ) (new : ℕ) (first : Option ℕ) → p.base ≡ length front → len ≡ length front + rest → IsKept rest p q → length (joined q.each) ≡ rest →
    LieAs q r → joined r.each ≡ joined q.each ++ more → new ≡ length front + length (joined r.each) → IsFirstUnread first (held front len p ++ more) → IsHeld front new r first
held_grown front len rest p q r more new first base is kept whole lies added size unread = record {
  base = lies.1 ∙ kept.0.1 ∙ base;
  within = omega (arith, size);
  first = subst (λ (l : List ℕ). IsFirstUnread first l) (sym (held_more front len rest p q r more new is kept whole added size)) unread;
}

-- the first unread byte after a chunk that notes describe
pub add_noted : (first : Option ℕ) (content notes : List ℕ) (old new : ℕ) → length content ≡ old → new ≡ old + length (read_notes notes) → IsFirstUnread first content →
    IsFirstUnread (first_noted first old new) (content ++ read_notes notes)
add_noted (Some at) content notes old new size grows first = add_after at content (read_notes notes) first
add_noted None content notes old new size grows first =
    elim (cases_lt old new) [
      | inl longer ↦ rw (lt-ltb old new longer) (subst (λ k. IsFirstUnread (Some k) (content ++ read_notes notes)) size
          (add_unread content (read_notes notes) (omega (arith, longer, grows)) (notes_unread notes (omega (arith, longer, grows))) first))
      | inr same ↦ rw (le-ltb old new same) (ap is_read (ap (λ l. content ++ l) (nil_from_length (read_notes notes) (omega (arith, same, grows))) ∙ append-nil content) ∙ first)
    ]

-- bytes in memory, and a chunk that notes describe
pub held_noted : (front : List ℕ) (name : ContentName) (base : ℕ) (p q : Pieces) (notes : List ℕ) (len : ℕ) → p ≡ pieces_of name base [] → base ≡ length front → LieAs p q →
    joined q.each ≡ joined p.each ++ read_notes notes → len ≡ base + length (joined q.each) → is_read front ≡ true → IsHeld front len q (first_noted None base len)
held_noted front name base p q notes len none is lies added size read =
    let only : joined q.each ≡ read_notes notes = added ∙ ap (λ (x : Pieces). joined x.each ++ read_notes notes) none in
    let all : held front len q ≡ front ++ read_notes notes = held_all front len q (omega (arith, size, is)) ∙ ap (λ l. front ++ l) only in
    record {
      base = lies.1 ∙ ap (λ (x : Pieces). x.base) none ∙ is;
      within = omega (arith, size, is);
      first = subst (λ (l : List ℕ). IsFirstUnread (first_noted None base len) l) (sym all) (add_noted None front notes base len (sym is) (omega (arith, size, ap length only)) read);
    }

-- the bytes of a content that ends within its first ones
pub held_front : (front : List ℕ) (len : ℕ) (p : Pieces) → len ≤ length front → held front len p ≡ take len front
held_front front len p within = take-append-le len front (joined p.each) within

-- an error leaves this
pub on_err : {A E P : Type 0} (r : Result A E) → P → OnErr r P
on_err (Ok x) holds = tt
on_err (Err e) holds = holds

-- a range of the first bytes
pub between_front : (front : List ℕ) (len : ℕ) (p : Pieces) (start end : ℕ) → start ≤ end → end ≤ len → end ≤ length front → between (held front len p) start end ≡ between front start end
between_front front len p start end ordered within first =
    let all = front ++ joined p.each in
    let parts : len ≡ start + (len - start) = omega arith in
    let some : end - start ≤ length (drop start front) = omega (arith, length-drop start front) in
    ap (λ k. take (end - start) (drop start (take k all))) parts
    ∙ ap (take (end - start)) (drop-take start (len - start) all) ∙ take-take (end - start) (len - start) (drop start all) (omega arith)
    ∙ ap (take (end - start)) (drop-append-le start front (joined p.each) (omega arith)) ∙ take-append-le (end - start) (drop start front) (joined p.each) some
