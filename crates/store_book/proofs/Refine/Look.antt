-- `Book::word` and `Book::verify`, by the clauses of their calls of the layers.
use Rattle.std.proofs.Common.{◌≡◌, ℕ, ◌+◌, ◌<◌, ◌≤◌, ◌⊎◌, Bool, true, false, cond, length, map, Option, Some, None, refl, sym, ap, ◌∙◌, subst, arith, inl, inr}
use Rattle.std.specs.Prelude.{slice_get, slice_index, slice_set}
use Rattle.std.specs.Option.{option_map, option_map_or}
use Rattle.std.specs.FinMap.{get}
use Rattle.std.proofs.lemmas.List.{get_or-set_same, length-map}
use Rattle.pin_core.specs.declared.world.PinRecord.{PinRecord}
use Rattle.pin_core.specs.declared.world.Phase.TheVariants as pin
use Rattle.pin_core.specs.declared.world.PinRow.{PinRow}
use Rattle.pin_core.specs.World.{IsUsed, row, row_word, word_of}
use Rattle.pin_table.specs.Rule.{with_added}
use Rattle.slot_table.specs.declared.phase.Phase.TheVariants as phase
use Rattle.slot_table.specs.Slots.{Slot, StoredBlob, SlotContent, Free, Used, Retired, stored_blob_at, stored_blob_in, phase_in}
use Rattle.store_book.specs.BookState.{SlotView}
use Rattle.store_model.specs.Catalog.{Catalog}
use Rattle.store_book.specs.Layers.{Layers, book_catalog, book_state, resident_of, IsBook}
use Rattle.store_book.specs.Pinned.{ReadsSlotWord, Pinned, VerifiesPin, pin_phase, row_of, slot_view, slot_views, with_bound, slot_views_of, with_looks}
use Rattle.store_book.specs.SlotSteps.{EachSlot, HasPin, IsUnchanged, ReadsWord, word_phase}
use Rattle.store_book.proofs.Slots.Changed.{resident_at}
use Rattle.store_book.proofs.Refine.Lease.{slot_view-get}
use Rattle.spec_lib.proofs.Options.{some_same}
use Rattle.spec_lib.proofs.Lists.{there_at}
use Rattle.store_book.proofs.Slots.Pinned.{index-set-le, length-slot_views, row-at, slot_view-at}
use Rattle.store_book.proofs.Slots.Shown.{EachSlot-slot_views_of, get-with_looks, length-with_looks}

-- a look lowers a bound and nothing else
each_still : (p q : Pinned) (k n : ℕ) → n ≤ slice_index p.bounds k → q ≡ with_bound k n p → (q.table ≡ p.table) × EachSlot IsUnchanged (slot_views p.slots p.bounds) (slot_views q.slots q.bounds)
each_still p q k n le is = subst (λ (x : Pinned). (x.table ≡ p.table) × EachSlot IsUnchanged (slot_views p.slots p.bounds) (slot_views x.slots x.bounds)) (sym is) (
  refl,
  (
    length-slot_views p.slots (slice_set p.bounds k n) ∙ sym (length-slot_views p.slots p.bounds),
    λ j a b at_a at_b.
        let x = slot_view-at p.slots p.bounds j a at_a in
        let y = slot_view-at p.slots (slice_set p.bounds k n) j b at_b in
        let same : x.0 ≡ y.0 = some_same (sym x.1 ∙ y.1) in
        let still : IsUnchanged (slot_view y.0 (slice_index p.bounds j)) (slot_view y.0 (slice_index (slice_set p.bounds k n) j)) = (refl, refl, refl, index-set-le p.bounds k n j le) in
        subst (λ (z : SlotView). IsUnchanged z b) (sym x.2) (subst (λ (z : SlotView). IsUnchanged (slot_view x.0 (slice_index p.bounds j)) z) (sym y.2)
        (subst (λ (z : Slot). IsUnchanged (slot_view z (slice_index p.bounds j)) (slot_view y.0 (slice_index (slice_set p.bounds k n) j))) (sym same) still)),
  ),
)

-- the same with the numbers of looks
pub EachSlot-still : (p q : Pinned) (k n : ℕ) → n ≤ slice_index p.bounds k → q ≡ with_bound k n p → (q.table ≡ p.table) × EachSlot IsUnchanged (slot_views_of p) (slot_views_of q)
EachSlot-still p q k n le is = let e = each_still p q k n le is in (e.0, EachSlot-slot_views_of IsUnchanged (λ a b n m r. r) p q e.1)

phase_word : (c : SlotContent) → pin_phase c ≡ word_phase (phase_in c)
phase_word Free = refl
phase_word (Used h) = by h.condemned
  where
    by : (b : Bool) → cond b pin.Condemned pin.Live ≡ word_phase (cond b phase.Condemned phase.Live)
    by true = refl
    by false = refl
phase_word Retired = refl

pub reads_word : (p q : Pinned) (k n : ℕ) → k < length (slot_views_of p) → length p.looks ≡ length p.slots → ReadsSlotWord k n p q → ReadsWord k n (slot_views_of p) (slot_views_of q)
reads_word p q k n lt each looked =
    let long = length-with_looks p.looks (slot_views p.slots p.bounds) ∙ length-slot_views p.slots p.bounds in
    let s = there_at p.slots k (omega arith) in
    let once : slice_index (with_added k 1 p.looks) k ≡ slice_index p.looks k + 1 = get_or-set_same p.looks k (slice_index p.looks k + 1) 0 (omega arith) in
    record {
      slot = record (slot_view s.0 (slice_index p.bounds k)) { looks = slice_index p.looks k };
      there = get-with_looks p.looks (slot_views p.slots p.bounds) k _ (slot_view-get p.slots p.bounds k s.0 s.1);
      weight = looked.weight;
      reads = looked.word ∙ ap (λ (r : PinRow). row_word r looked.weight) (row-at p.slots k s.0 s.1) ∙ ap (λ x. word_of s.0.generation x looked.weight) (phase_word s.0.content);
      within = looked.within;
      after =
          ap (λ (x : Pinned). slice_get (with_looks x.looks (slot_views x.slots q.bounds)) k) looked.after
          ∙ get-with_looks (with_added k 1 p.looks) (slot_views p.slots q.bounds) k _ (slot_view-get p.slots q.bounds k s.0 s.1)
          ∙ (λ i. Some (record (slot_view s.0 (looked.bound i)) { looks = once i }));
    }

module _ (L : Layers) (p q : Pinned) (h : PinRecord) (book : IsBook (record L { slots = p.slots })) (verified : VerifiesPin h p q) where
  abbrev C : Catalog
  C = book_catalog (record L { slots = p.slots })

  used_phase : (c : SlotContent) → IsUsed (pin_phase c) → (phase_in c ≡ phase.Live) ⊎ (phase_in c ≡ phase.Condemned)
  used_phase Free used = absurd used
  used_phase (Used x) used = by x.condemned
    where
      by : (b : Bool) → (cond b phase.Condemned phase.Live ≡ phase.Live) ⊎ (cond b phase.Condemned phase.Live ≡ phase.Condemned)
      by true = inr refl
      by false = inl refl
  used_phase Retired used = absurd used

  held_of_digest : (o : Option StoredBlob) → option_map (λ (x : StoredBlob). x.digest) o ≡ Some h.digest → (x : StoredBlob) × (o ≡ Some x) × (x.digest ≡ h.digest)
  held_of_digest None e = absurd cc
  held_of_digest (Some x) e = (x, refl, some_same e)

  blob_there : (s : Slot) (x : StoredBlob) → slice_get p.slots h.slot ≡ Some s → stored_blob_in s.content ≡ Some x → x.digest ≡ h.digest → get C.residents h.digest ≡ Some (resident_of x.lent x)
  blob_there s x at is same =
      let here : stored_blob_at p.slots h.slot ≡ Some x = ap (λ o. option_map_or (λ (y : Slot). stored_blob_in y.content) o None) at ∙ is in
      ap (get C.residents) (sym same) ∙ resident_at p.slots h.slot x here book.tied.distinct

  pub HasPin-verified : HasPin h (book_state C p)
  HasPin-verified =
      let keeps = verified.keeps in
      let there = keeps.there in
      let long = length-map p.slots row_of in
      let s = there_at p.slots h.slot (omega arith) in
      let is_row : row (map row_of p.slots) h.slot ≡ row_of s.0 = row-at p.slots h.slot s.0 s.1 in
      let digest : option_map (λ (x : StoredBlob). x.digest) (stored_blob_in s.0.content) ≡ Some h.digest = ap (λ (r : PinRow). r.digest) (sym is_row) ∙ keeps.digest in
      let x = held_of_digest (stored_blob_in s.0.content) digest in
      let found = blob_there s.0 x.0 s.1 x.1 x.2 in
      record {
        slot = record (slot_view s.0 (slice_index p.bounds h.slot)) { looks = slice_index p.looks h.slot };
        there = get-with_looks p.looks (slot_views p.slots p.bounds) h.slot _ (slot_view-get p.slots p.bounds h.slot s.0 s.1);
        used = used_phase s.0.content (subst (λ (r : PinRow). IsUsed r.phase) is_row keeps.used);
        generation = ap (λ (r : PinRow). r.generation) (sym is_row) ∙ keeps.generation;
        digest = digest;
        blob = resident_of x.0.lent x.0;
        resident = found;
        content = book.sound.lawful.content h.digest (resident_of x.0.lent x.0) found;
      }
