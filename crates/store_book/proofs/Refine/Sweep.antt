-- A part of a sweep of the slots is one of the book's catalog, and the book stays well-formed.
use Rattle.std.proofs.Common.{◌≡◌, ℕ, ◌+◌, Bool, true, false, cond, List, [], ◌∷◌, length, Option, Some, None, refl, sym, ap, ◌∙◌, subst, arith}
use Rattle.std.specs.Prelude.{slice_get, slice_index, ◌==◌, ◌&&◌, not, is_none}
use Rattle.std.specs.Option.{option_map, option_map_or, is_some}
use Rattle.std.specs.List.{count_by}
use Rattle.std.specs.Cmp.Lexicographic.{nat_list_cmp_total}
use Rattle.std.specs.FinMap.{entries, get}
use Rattle.std.proofs.Math.Bool.{and_assoc}
use Rattle.std.proofs.lemmas.Bool.{true≢false, false_from_ne_true, and_right, eq-eqb}
use Rattle.std.proofs.lemmas.List.Sums.{sum_by-cons}
use Rattle.std.proofs.lemmas.Option.{slice_get_within}
use Rattle.spec_lib.specs.Sets as set
use Rattle.spec_lib.proofs.Lists.{count_by-none, there_at}
use Rattle.spec_lib.proofs.Rows.{sum_by-from_entries}
use Rattle.slot_table.specs.Slots.{Slot, StoredBlob, SlotContent, Free, Used, Retired, stored_blob_at, stored_blob_in, slot_of, is_orphan, on_stored_blob, content_with, mark, IsDistinct}
use Rattle.slot_table.proofs.Indexing.{slot_of_held, slot_of_none}
use Rattle.spec_lib.specs.Texts.{Text, text_cmp}
use Rattle.store_model.specs.Catalog.{Link, Resident, Catalog, holds, link_count}
use Rattle.store_book.specs.Layers.{Layers, resident_of, with_resident, resident_rows, residents_of, lent_marks, book_catalog, IsBook}
use Rattle.store_book.specs.Pinned.{Pinned}
use Rattle.store_model.specs.declared.swept.Swept.{Swept}
use Rattle.store_model.specs.Sweep.{IsAfterSweep, IsSweep, IsSweepOf}
use Rattle.store_model.specs.Sweep as sweeps
use Rattle.store_book.specs.SweepParts.{is_between}
use Rattle.store_book.specs.Internal.SweptSlots.{IsLeftBy, Sweeps, IsSweptTo, is_live_orphan, kept, held, freed, retired}
use Rattle.store_book.proofs.Layers.Sums.{holds_is, IsApart-rows}
use Rattle.store_book.proofs.Slots.Changed.{resident_at}
use Rattle.spec_lib.proofs.Places.{count_by-parts}
use Rattle.store_book.proofs.Slots.Between.{count_by-between, is_inside}
use Rattle.store_model.proofs.Commands.Sweep.{linked_stays, Sound-sweep}
use Rattle.store_model.proofs.Commands.SweepParts.{IsSweep-all}
use Rattle.store_book.proofs.Slots.LeaseMarks.{length-marks}
use Rattle.store_book.proofs.Layers.LinkedSlots.{linked_live}
use Rattle.spec_lib.proofs.Options.{some_same}
use Rattle.store_book.proofs.Slots.Reclaimed.{orphan_held}
use Rattle.store_book.proofs.Slots.Writes.{slot_of_held as row_of_held}
use Rattle.slot_table.proofs.Finding.{held_of}
use Rattle.store_book.proofs.Layers.Ties.{not_resident}

-- ---- the blobs of the slots

-- a resident blob is that of a slot
resident_slot : (slots : List Slot) → IsDistinct slots → (d : Text) (b : Resident) → get (residents_of slots (lent_marks slots)) d ≡ Some b → (k : ℕ) × (h : StoredBlob) × (stored_blob_at slots k ≡ Some h) × (h.digest ≡ d) × (b ≡ resident_of h.lent h)
resident_slot slots distinct d b found = by (slot_of slots d) refl
  where
    by : (o : Option ℕ) → slot_of slots d ≡ o → (k : ℕ) × (h : StoredBlob) × (stored_blob_at slots k ≡ Some h) × (h.digest ≡ d) × (b ≡ resident_of h.lent h)
    by None none = absurd (let n : Some b ≡ None = sym found ∙ not_resident slots (lent_marks slots) d none in cc)
    by (Some k) is =
        let h = held_of slots d k is in
        (k, h.0, h.1, h.2, some_same (sym found ∙ ap (get (residents_of slots (lent_marks slots))) (sym h.2) ∙ resident_at slots k h.0 h.1 distinct))

-- a test of a resident blob, as a test of its slot
abbrev of_slot : (Text × Resident → Bool) → Slot → Bool
of_slot f s = option_map_or (λ h. f (h.digest, resident_of h.lent h)) (stored_blob_in s.content) false

count_rows : (f : Text × Resident → Bool) (slots : List Slot) → count_by f (resident_rows slots (lent_marks slots)) ≡ count_by (of_slot f) slots
count_rows f [] = refl
count_rows f (s ∷ slots) = by s.content (count_rows f slots) ∙ sym (sum_by-cons (λ x. cond {A = ℕ} (of_slot f x) 1 0) s slots)
  where
    by : (c : SlotContent) → count_by f (resident_rows slots (lent_marks slots)) ≡ count_by (of_slot f) slots →
        count_by f (with_resident c (option_map_or (λ (h : StoredBlob). h.lent) (stored_blob_in c) false) (resident_rows slots (lent_marks slots))) ≡ cond {A = ℕ} (option_map_or (λ (h : StoredBlob). f (h.digest, resident_of h.lent h)) (stored_blob_in c) false) 1 0 + count_by (of_slot f) slots
    by Free rest = omega arith
    by (Used h) rest = sum_by-cons (λ e. cond {A = ℕ} (f e) 1 0) (h.digest, resident_of h.lent h) (resident_rows slots (lent_marks slots)) ∙ ap (λ n. cond {A = ℕ} (f (h.digest, resident_of h.lent h)) 1 0 + n) rest
    by Retired rest = omega arith

-- a count of resident blobs is one of slots
count_residents : (f : Text × Resident → Bool) (slots : List Slot) → IsDistinct slots → count_by f (entries (residents_of slots (lent_marks slots))) ≡ count_by (of_slot f) slots
count_residents f slots distinct = sum_by-from_entries text_cmp (λ e. cond {A = ℕ} (f e) 1 0) nat_list_cmp_total (resident_rows slots (lent_marks slots)) (IsApart-rows slots (lent_marks slots) distinct) ∙ count_rows f slots

-- the content of a slot
held_there : (slots : List Slot) (k : ℕ) (s : Slot) → slice_get slots k ≡ Some s → stored_blob_at slots k ≡ stored_blob_in s.content
held_there slots k s at = ap (λ o. option_map_or (λ (x : Slot). stored_blob_in x.content) o None) at

-- an orphan is marked
marked : (s : Slot) (h : StoredBlob) → s.content ≡ Used h → stored_blob_in (on_stored_blob (mark true) s).content ≡ Some (mark true h)
marked s h is = ap (λ c. stored_blob_in (content_with (mark true) c)) is

-- whether the slot that has the blob of a digest is one of those from a place up to another
abbrev pub is_slot_reached : ℕ → ℕ → List Slot → Text → Bool
is_slot_reached from to slots d = option_map_or (is_between from to) (slot_of slots d) false

module _ (from to : ℕ) (L : Layers) (p q : Pinned) (swept : Swept) (book : IsBook (record L { slots = p.slots })) (sweep : Sweeps from to p q swept) where
  -- whether the slot of a digest was swept
  abbrev reached : Text → Bool
  reached = is_slot_reached from to p.slots

  abbrev C : Catalog
  C = book_catalog (record L { slots = p.slots })

  abbrev C' : Catalog
  C' = book_catalog (record L { slots = q.slots })

  abbrev distinct : IsDistinct p.slots
  distinct = book.tied.distinct

  -- ---- each remaining blob was there

  abbrev Origin : ℕ → StoredBlob → Type 0
  Origin j x = (h : StoredBlob) × (stored_blob_at p.slots j ≡ Some h) × (x.digest ≡ h.digest) × (x.links ≡ h.links)

  origin_of : (j : ℕ) (x : StoredBlob) (s t : Slot) (n m : ℕ) → slice_get p.slots j ≡ Some s → stored_blob_in t.content ≡ Some x → IsSweptTo s n t m → Origin j x
  origin_of j x s t n m at here (kept linked e same) = (x, held_there p.slots j s at ∙ ap (λ (y : Slot). stored_blob_in y.content) (sym e) ∙ here, refl, refl)
  origin_of j x s t n m at here (held is lent e le) =
      let h = orphan_held s.content is in
      let same : x ≡ mark true h.0 = some_same (sym here ∙ ap (λ (y : Slot). stored_blob_in y.content) e ∙ marked s h.0 h.1) in
      (h.0, held_there p.slots j s at ∙ ap stored_blob_in h.1, ap (λ (y : StoredBlob). y.digest) same, ap (λ (y : StoredBlob). y.links) same)
  origin_of j x s t n m at here (freed is lt e zeroed) = absurd (let clash : None ≡ Some x = ap (λ (y : Slot). stored_blob_in y.content) (sym e) ∙ here in cc)
  origin_of j x s t n m at here (retired is last e zeroed) = absurd (let clash : None ≡ Some x = ap (λ (y : Slot). stored_blob_in y.content) (sym e) ∙ here in cc)

  origin_left : (b : Bool) (j : ℕ) (x : StoredBlob) (s t : Slot) (n m : ℕ) → slice_get p.slots j ≡ Some s → stored_blob_in t.content ≡ Some x → IsLeftBy b s n t m → Origin j x
  origin_left true j x s t n m at here left = origin_of j x s t n m at here left
  origin_left false j x s t n m at here left = (x, held_there p.slots j s at ∙ ap (λ (y : Slot). stored_blob_in y.content) (sym left.0) ∙ here, refl, refl)

  origin : (j : ℕ) (x : StoredBlob) → stored_blob_at q.slots j ≡ Some x → Origin j x
  origin j x here =
      let t = row_of_held q.slots j x here in
      let lt = slice_get_within q.slots j t.0 t.1 in
      let long = sweep.long in
      let s = there_at p.slots j (omega arith) in
      let e = sweep.each j s.0 s.1 in
      origin_left (is_between from to j) j x s.0 e.0 (slice_index p.bounds j) (slice_index q.bounds j) s.1 (sym (held_there q.slots j e.0 e.1) ∙ here) e.2

  distinct' : IsDistinct q.slots
  distinct' = λ a b x y at_a at_b same. (let o = origin a x at_a in let r = origin b y at_b in distinct a b o.0 r.0 o.1 r.1 (sym o.2 ∙ same ∙ r.2))

  abbrev shown : Option StoredBlob → Option Resident
  shown o = option_map (λ (x : StoredBlob). resident_of x.lent x) o

  -- the remaining blob is the one that its slot holds
  left_at : (k : ℕ) (h : StoredBlob) → stored_blob_at p.slots k ≡ Some h → get C'.residents h.digest ≡ shown (stored_blob_at q.slots k)
  left_at k h at = by (stored_blob_at q.slots k) refl
    where
      by : (o : Option StoredBlob) → stored_blob_at q.slots k ≡ o → get C'.residents h.digest ≡ shown o
      by None none = not_resident q.slots (lent_marks q.slots) h.digest (slot_of_none q.slots h.digest (λ j x here is.
          let o = origin j x here in
          let same : j ≡ k = distinct j k o.0 h o.1 at (sym o.2 ∙ is) in
          let clash : None ≡ Some x = sym none ∙ ap (stored_blob_at q.slots) (sym same) ∙ here in
          cc))
      by (Some x) here =
          let o = origin k x here in
          let same : o.0 ≡ h = some_same (sym o.1 ∙ at) in
          ap (get C'.residents) (sym (o.2 ∙ ap (λ (y : StoredBlob). y.digest) same)) ∙ resident_at q.slots k x here distinct'

  reached_is : (k : ℕ) (h : StoredBlob) → stored_blob_at p.slots k ≡ Some h → reached h.digest ≡ is_between from to k
  reached_is k h at = ap (λ o. option_map_or (is_between from to) o false) (slot_of_held p.slots h.digest distinct k h at refl)

  orphan_is : (k : ℕ) (h : StoredBlob) → stored_blob_at p.slots k ≡ Some h → sweeps.is_orphan C h.digest ≡ (h.links == 0)
  orphan_is k h at = ap (λ n. n == 0) (sym (book.tied.counts k h at))

  -- ---- each blob after the sweep

  left_by : (h : StoredBlob) (s t : Slot) (n m : ℕ) → stored_blob_in s.content ≡ Some h → IsSweptTo s n t m → IsAfterSweep (h.links == 0) (resident_of h.lent h) (shown (stored_blob_in t.content))
  left_by h s t n m here turned = by turned
    where
      test : (b : Bool) → is_orphan s ≡ b → (h.links == 0) ≡ b
      test b is = ap (λ o. option_map_or (λ (x : StoredBlob). x.links == 0) o false) (sym here) ∙ is

      leaves : (b : Bool) (o : Option StoredBlob) → (h.links == 0) ≡ b → stored_blob_in t.content ≡ o → IsAfterSweep b (resident_of h.lent h) (shown o) → IsAfterSweep (h.links == 0) (resident_of h.lent h) (shown (stored_blob_in t.content))
      leaves b o same now is = subst (λ x. IsAfterSweep x (resident_of h.lent h) (shown (stored_blob_in t.content))) (sym same) (subst (λ x. IsAfterSweep b (resident_of h.lent h) (shown x)) (sym now) is)

      by : IsSweptTo s n t m → IsAfterSweep (h.links == 0) (resident_of h.lent h) (shown (stored_blob_in t.content))
      by (kept linked e same) = leaves false (Some h) (test false linked) (ap (λ (y : Slot). stored_blob_in y.content) e ∙ here) refl
      by (held is lent e le) =
          let g = orphan_held s.content is in
          let same : g.0 ≡ h = some_same (ap stored_blob_in (sym g.1) ∙ here) in
          leaves true (Some (mark true h)) (test true is) (ap (λ (y : Slot). stored_blob_in y.content) e ∙ marked s g.0 g.1 ∙ ap (λ (x : StoredBlob). Some (mark true x)) same) (ap (λ o. option_map_or (λ (x : StoredBlob). x.lent) o false) (sym here) ∙ lent, refl)
      by (freed is lt e zeroed) = leaves true None (test true is) (ap (λ (y : Slot). stored_blob_in y.content) e) tt
      by (retired is last e zeroed) = leaves true None (test true is) (ap (λ (y : Slot). stored_blob_in y.content) e) tt

  -- the same for each slot, reached or not
  left_in : (b : Bool) (h : StoredBlob) (s t : Slot) (n m : ℕ) → stored_blob_in s.content ≡ Some h → IsLeftBy b s n t m → IsAfterSweep (b && (h.links == 0)) (resident_of h.lent h) (shown (stored_blob_in t.content))
  left_in true h s t n m here left = left_by h s t n m here left
  left_in false h s t n m here left = ap shown (ap (λ (y : Slot). stored_blob_in y.content) left.0 ∙ here)

  -- whether a blob is an orphan that was reached
  abbrev is_swept : Text → Bool
  is_swept d = reached d && sweeps.is_orphan C d

  orphans : (d : Text) (b : Resident) → get C.residents d ≡ Some b → IsAfterSweep (is_swept d) b (get C'.residents d)
  orphans d b found =
      let r = resident_slot p.slots distinct d b found in
      let s = row_of_held p.slots r.0 r.1 r.2 in
      let e = sweep.each r.0 s.0 s.1 in
      let left = left_in (is_between from to r.0) r.1 s.0 e.0 (slice_index p.bounds r.0) (slice_index q.bounds r.0) s.2 e.2 in
      let test : is_swept r.1.digest ≡ is_between from to r.0 && (r.1.links == 0) = (λ i. reached_is r.0 r.1 r.2 i && orphan_is r.0 r.1 r.2 i) in
      let now : get C'.residents r.1.digest ≡ shown (stored_blob_in e.0.content) = left_at r.0 r.1 r.2 ∙ ap shown (held_there q.slots r.0 e.0 e.1) in
      let by_slot : IsAfterSweep (is_swept r.1.digest) (resident_of r.1.lent r.1) (get C'.residents r.1.digest) =
      subst (λ x. IsAfterSweep x (resident_of r.1.lent r.1) (get C'.residents r.1.digest)) (sym test) (subst (λ x. IsAfterSweep (is_between from to r.0 && (r.1.links == 0)) (resident_of r.1.lent r.1) x) (sym now) left) in
      subst (λ (x : Text). IsAfterSweep (is_swept x) b (get C'.residents x)) r.3 (subst (λ (x : Resident). IsAfterSweep (is_swept r.1.digest) x (get C'.residents r.1.digest)) (sym r.4) by_slot)

  no_others : (d : Text) → get C.residents d ≡ None → get C'.residents d ≡ None
  no_others d none = by (get C'.residents d) refl
    where
      by : (o : Option Resident) → get C'.residents d ≡ o → o ≡ None
      by None e = refl
      by (Some b) e =
          let r = resident_slot q.slots distinct' d b e in
          let o = origin r.0 r.1 r.2 in
          absurd (let clash : None ≡ Some (resident_of o.0.lent o.0) = sym none ∙ ap (get C.residents) (sym r.3 ∙ o.2) ∙ resident_at p.slots r.0 o.0 o.1 distinct in cc)

  -- ---- the counts

  abbrev is_condemned_now : Text × Resident → Bool
  is_condemned_now e = reached e.0 && sweeps.is_orphan C e.0 && not e.1.condemned

  condemned : swept.condemned ≡ count_by is_condemned_now (entries C.residents)
  condemned =
      let counted = count_by-between is_live_orphan (of_slot is_condemned_now) from to p.slots sweep.onwards alike in
      let rows = count_residents is_condemned_now p.slots distinct in
      let all = sweep.condemned in
      omega arith
    where
      alike : (k : ℕ) (s : Slot) → slice_get p.slots k ≡ Some s → of_slot is_condemned_now s ≡ is_between from to k && is_live_orphan s
      alike k s at = by (stored_blob_in s.content) refl
        where
          by : (o : Option StoredBlob) → stored_blob_in s.content ≡ o →
              option_map_or (λ (h : StoredBlob). reached h.digest && sweeps.is_orphan C h.digest && not h.condemned) o false ≡ is_between from to k && option_map_or (λ (h : StoredBlob). h.links == 0 && not h.condemned) o false
          by None e = sym (and_right (is_between from to k) false refl)
          by (Some h) e =
              let there = held_there p.slots k s at ∙ e in
              let tests : (reached h.digest && sweeps.is_orphan C h.digest && not h.condemned) ≡ (is_between from to k && (h.links == 0) && not h.condemned) = (λ i. reached_is k h there i && orphan_is k h there i && not h.condemned) in
              tests ∙ and_assoc (is_between from to k) (h.links == 0) (not h.condemned)

  abbrev is_gone : Text × Resident → Bool
  is_gone e = is_none (get C'.residents e.0)

  gone_slot : (k : ℕ) (s : Slot) (h : StoredBlob) (o : Option StoredBlob) → slice_get p.slots k ≡ Some s → stored_blob_in s.content ≡ Some h → stored_blob_at q.slots k ≡ o → of_slot is_gone s ≡ is_none (shown o)
  gone_slot k s h o at here now = ap (λ x. option_map_or (λ (y : StoredBlob). is_none (get C'.residents y.digest)) x false) here ∙ ap is_none (left_at k h (held_there p.slots k s at ∙ here) ∙ ap shown now)

  abbrev one : Bool → ℕ
  one b = cond b 1 0

  gone_by : (k : ℕ) (s t : Slot) (n m : ℕ) → slice_get p.slots k ≡ Some s → slice_get q.slots k ≡ Some t → IsSweptTo s n t m → one (is_orphan s) ≡ one (is_orphan t) + one (of_slot is_gone s)
  gone_by k s t n m at now (kept linked e same) =
      let a : one (is_orphan s) ≡ 0 = ap one linked in
      let b : one (is_orphan t) ≡ 0 = ap (λ (y : Slot). one (is_orphan y)) e ∙ a in
      let c : one (of_slot is_gone s) ≡ 0 = by (stored_blob_in s.content) refl in
      omega arith
    where
      by : (o : Option StoredBlob) → stored_blob_in s.content ≡ o → one (of_slot is_gone s) ≡ 0
      by None none = ap (λ x. one (option_map_or (λ (y : StoredBlob). is_none (get C'.residents y.digest)) x false)) none
      by (Some h) here = ap one (gone_slot k s h (Some h) at here (held_there q.slots k t now ∙ ap (λ (y : Slot). stored_blob_in y.content) e ∙ here))
  gone_by k s t n m at now (held is lent e le) =
      let h = orphan_held s.content is in
      let here : stored_blob_in t.content ≡ Some (mark true h.0) = ap (λ (y : Slot). stored_blob_in y.content) e ∙ marked s h.0 h.1 in
      let a : one (is_orphan s) ≡ 1 = ap one is in
      let b : one (is_orphan t) ≡ 1 = ap (λ o. one (option_map_or (λ (x : StoredBlob). x.links == 0) o false)) here ∙ ap one (eq-eqb h.0.links 0 h.2) in
      let c : one (of_slot is_gone s) ≡ 0 = ap one (gone_slot k s h.0 (Some (mark true h.0)) at (ap stored_blob_in h.1) (held_there q.slots k t now ∙ here)) in
      omega arith
  gone_by k s t n m at now (freed is lt e zeroed) =
      let h = orphan_held s.content is in
      let a : one (is_orphan s) ≡ 1 = ap one is in
      let b : one (is_orphan t) ≡ 0 = ap (λ (y : Slot). one (is_orphan y)) e in
      let c : one (of_slot is_gone s) ≡ 1 = ap one (gone_slot k s h.0 None at (ap stored_blob_in h.1) (held_there q.slots k t now ∙ ap (λ (y : Slot). stored_blob_in y.content) e)) in
      omega arith
  gone_by k s t n m at now (retired is last e zeroed) =
      let h = orphan_held s.content is in
      let a : one (is_orphan s) ≡ 1 = ap one is in
      let b : one (is_orphan t) ≡ 0 = ap (λ (y : Slot). one (is_orphan y)) e in
      let c : one (of_slot is_gone s) ≡ 1 = ap one (gone_slot k s h.0 None at (ap stored_blob_in h.1) (held_there q.slots k t now ∙ ap (λ (y : Slot). stored_blob_in y.content) e)) in
      omega arith

  gone_in : (b : Bool) (k : ℕ) (s t : Slot) (n m : ℕ) → slice_get p.slots k ≡ Some s → slice_get q.slots k ≡ Some t → IsLeftBy b s n t m → one (is_orphan s) ≡ one (is_orphan t) + one (of_slot is_gone s)
  gone_in true k s t n m at now left = gone_by k s t n m at now left
  gone_in false k s t n m at now left =
      let same : one (is_orphan t) ≡ one (is_orphan s) = ap (λ (y : Slot). one (is_orphan y)) left.0 in
      let stays : one (of_slot is_gone s) ≡ 0 = by (stored_blob_in s.content) refl in
      omega arith
    where
      by : (o : Option StoredBlob) → stored_blob_in s.content ≡ o → one (of_slot is_gone s) ≡ 0
      by None none = ap (λ x. one (option_map_or (λ (y : StoredBlob). is_none (get C'.residents y.digest)) x false)) none
      by (Some h) here = ap one (gone_slot k s h (Some h) at here (held_there q.slots k t now ∙ ap (λ (y : Slot). stored_blob_in y.content) left.0 ∙ here))

  gone : swept.freed + swept.retired ≡ count_by is_gone (entries C.residents)
  gone =
      let parts : count_by is_orphan p.slots ≡ count_by is_orphan q.slots + count_by (of_slot is_gone) p.slots = count_by-parts is_orphan (of_slot is_gone) is_orphan p.slots q.slots sweep.long (λ k s t at now.
      let e = sweep.each k s at in
      let same : e.0 ≡ t = some_same (sym e.1 ∙ now) in
      gone_in (is_between from to k) k s t (slice_index p.bounds k) (slice_index q.bounds k) at now (subst (λ (x : Slot). IsLeftBy (is_between from to k) s (slice_index p.bounds k) x (slice_index q.bounds k)) same e.2)) in
      let rows = count_residents is_gone p.slots distinct in
      let all = sweep.gone in
      omega arith

  -- a condemned blob has no links
  unlinked : (k : ℕ) (h : StoredBlob) → stored_blob_at p.slots k ≡ Some h → h.condemned ≡ true → h.links ≡ 0
  unlinked k h at is =
      book.tied.counts k h at ∙ count_by-none (λ r. holds C r h.digest) (λ r. false_from_ne_true (holds C r h.digest) (λ has. true≢false (sym is ∙ linked_live (record L { slots = p.slots }) book r h.digest k h at refl has))) (set.items C.repos)

  abbrev is_condemned : Text × Resident → Bool
  is_condemned e = e.1.condemned

  held_by : (k : ℕ) (s t : Slot) (n m : ℕ) → slice_get p.slots k ≡ Some s → IsSweptTo s n t m → is_orphan t ≡ of_slot is_condemned t
  held_by k s t n m at (kept linked e same) = ap is_orphan e ∙ by (stored_blob_in s.content) refl linked ∙ ap (of_slot is_condemned) (sym e)
    where
      by : (o : Option StoredBlob) → stored_blob_in s.content ≡ o → option_map_or (λ (x : StoredBlob). x.links == 0) o false ≡ false → option_map_or (λ (x : StoredBlob). x.links == 0) o false ≡ option_map_or (λ (x : StoredBlob). x.condemned) o false
      by None none linked = refl
      by (Some h) here linked = linked ∙ sym (false_from_ne_true h.condemned (λ is. true≢false (sym (eq-eqb h.links 0 (unlinked k h (held_there p.slots k s at ∙ here) is)) ∙ linked)))
  held_by k s t n m at (held is lent e le) =
      let h = orphan_held s.content is in
      let here : stored_blob_in t.content ≡ Some (mark true h.0) = ap (λ (y : Slot). stored_blob_in y.content) e ∙ marked s h.0 h.1 in
      ap (λ o. option_map_or (λ (x : StoredBlob). x.links == 0) o false) here ∙ eq-eqb h.0.links 0 h.2 ∙ sym (ap (λ o. option_map_or (λ (x : StoredBlob). x.condemned) o false) here)
  held_by k s t n m at (freed is lt e zeroed) = ap is_orphan e ∙ sym (ap (of_slot is_condemned) e)
  held_by k s t n m at (retired is last e zeroed) = ap is_orphan e ∙ sym (ap (of_slot is_condemned) e)

  abbrev is_held : Text × Resident → Bool
  is_held e = reached e.0 && e.1.condemned

  left_held : swept.held ≡ count_by is_held (entries C'.residents)
  left_held =
      let counted = count_by-between is_orphan (of_slot is_held) from to q.slots sweep.onwards alike in
      let rows = count_residents is_held q.slots distinct' in
      let all = sweep.held in
      omega arith
    where
      alike : (k : ℕ) (t : Slot) → slice_get q.slots k ≡ Some t → of_slot is_held t ≡ is_between from to k && is_orphan t
      alike k t now =
          let lt = slice_get_within q.slots k t now in
          let long = sweep.long in
          let s = there_at p.slots k (omega arith) in
          let e = sweep.each k s.0 s.1 in
          let same : e.0 ≡ t = some_same (sym e.1 ∙ now) in
          let left : IsLeftBy (is_between from to k) s.0 (slice_index p.bounds k) t (slice_index q.bounds k) = subst (λ (x : Slot). IsLeftBy (is_between from to k) s.0 (slice_index p.bounds k) x (slice_index q.bounds k)) same e.2 in
          by (stored_blob_in t.content) refl ∙ in_range (is_between from to k) s.0 s.1 left
        where
          -- the test of the slot's blob, with its place
          by : (o : Option StoredBlob) → stored_blob_in t.content ≡ o → option_map_or (λ (h : StoredBlob). reached h.digest && h.condemned) o false ≡ is_between from to k && option_map_or (λ (h : StoredBlob). h.condemned) o false
          by None e = sym (and_right (is_between from to k) false refl)
          by (Some x) e =
              let there : stored_blob_at q.slots k ≡ Some x = held_there q.slots k t now ∙ e in
              let o = origin k x there in
              ap (λ b. b && x.condemned) (ap reached o.2 ∙ reached_is k o.0 o.1)

          in_range : (b : Bool) (s : Slot) → slice_get p.slots k ≡ Some s → IsLeftBy b s (slice_index p.bounds k) t (slice_index q.bounds k) → b && of_slot is_condemned t ≡ b && is_orphan t
          in_range true s at left = sym (held_by k s t (slice_index p.bounds k) (slice_index q.bounds k) at left)
          in_range false s at left = refl

  -- ---- the catalog and the book

  pub IsSweepOf-slots : IsSweepOf reached C swept C'
  IsSweepOf-slots = record {
    orphans = orphans;
    no_others = no_others;
    rest = λ i. record C { slots = sweep.long i; residents = C'.residents; retired = sweep.retired i };
    condemned = condemned;
    gone = gone;
    held = left_held;
  }

  -- if the part goes over all slots, it reaches every blob
  pub all_reached : from ≡ 0 → to ≡ length p.slots → (d : Text) (b : Resident) → get C.residents d ≡ Some b → reached d ≡ true
  all_reached first last d b found =
      let r = resident_slot p.slots distinct d b found in
      let s = row_of_held p.slots r.0 r.1 r.2 in
      let lt = slice_get_within p.slots r.0 s.0 s.1 in
      ap reached (sym r.3) ∙ reached_is r.0 r.1 r.2 ∙ is_inside from to r.0 (omega arith) (omega arith)

  pub IsSweep-slots : from ≡ 0 → to ≡ length p.slots → IsSweep C swept C'
  IsSweep-slots first last = IsSweep-all reached C C' swept IsSweepOf-slots (all_reached first last)

  sized : (key : Link) (n : ℕ) → get L.links.links key ≡ Some n → (b : Resident) × (get C'.residents key.1 ≡ Some b) × (n ≡ length b.bytes)
  sized key n found =
      let b = book.tied.sizes key n found in
      let there : set.contains C.links key ≡ true = holds_is (record L { slots = p.slots }) (lent_marks p.slots) book.tied (λ k h. (book.sound.lawful.links k h).repo) key.0 key.1 ∙ ap is_some found in
      (b.0, linked_stays reached C C' swept IsSweepOf-slots book.sound.lawful key there b.0 b.1, b.2)

  pub IsBook-sweep : IsBook (record L { slots = q.slots })
  IsBook-sweep = record {
    sound = Sound-sweep reached C C' swept IsSweepOf-slots book.sound.lawful book.sound.quotas book.sound.shares book.sound.slots;
    tied = record {
      marks = length-marks q.slots;
      distinct = distinct';
      sizes = sized;
      counts = λ k x here. (let o = origin k x here in o.3 ∙ book.tied.counts k o.0 o.1 ∙ ap (link_count C) (sym o.2));
    };
    charges = record { one_each = book.charges.one_each; sums = book.charges.sums };
  }
