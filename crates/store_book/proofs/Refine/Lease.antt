-- `Book::lease`, by the clauses of its calls of the layers.
use Rattle.std.proofs.Common.{◌≡◌, ℕ, ◌+◌, ◌≤◌, true, false, List, [], ◌∷◌, length, Some, None, Ok, Err, refl, sym, ap, ◌∙◌, subst, arith, inl, inr}
use Prim.Native.Nat.{zero, suc}
use Rattle.std.specs.Prelude.{slice_get, slice_index, slice_set, map}
use Rattle.std.specs.Option.{option_map, option_map_or}
use Rattle.std.specs.FinMap.{get, insert}
use Rattle.std.proofs.lemmas.Bool.{cases_eq}
use Rattle.std.proofs.lemmas.List.{get_or-set_other, get_or-set_same}
use Rattle.std.proofs.lemmas.Option.{slice_get_within}
use Rattle.blob_digest.specs.declared.refusal.Refusal.TheVariants.{BlobUnknown, TooManyReaders}
use Rattle.pin_core.specs.declared.world.PinRow.{PinRow}
use Rattle.pin_core.specs.World.{row}
use Rattle.pin_core.specs.Events.{new_weight}
use Rattle.pin_table.specs.Rule.{with_added}
use Rattle.slot_table.specs.declared.phase.Phase.TheVariants as phase
use Rattle.slot_table.specs.Slots.{Slot, StoredBlob, SlotContent, Free, Used, Retired, content_with, stored_blob_at, stored_blob_in, phase_at, with_slot, on_stored_blob, lend}
use Rattle.link_table.specs.Linked.{known_tenant}
use Rattle.store_book.specs.BookState.{SlotView}
use Rattle.spec_lib.specs.Texts.{Text}
use Rattle.store_model.specs.Catalog.{Catalog, holds}
use Rattle.store_book.specs.Internal.Storing.{linked_slot}
use Rattle.store_book.specs.Layers.{Layers, resident_of, book_catalog, IsBook}
use Rattle.store_book.specs.Pinned.{Pinned, FindsFullSlot, blob_digest, row_of, slot_view, slot_views, with_bound, with_lease_on, slot_views_of}
use Rattle.store_book.specs.SlotSteps.{EachSlot, FindsNoRoom, IsCrowded, IsLending}
use Rattle.store_model.specs.Commands.{lease, with_leased}
use Rattle.store_book.proofs.Slots.Changed.{catalog-change, lend-KeepsTies, resident_at, IsTied-change}
use Rattle.store_model.proofs.Commands.Lease.{Sound-after_lease}
use Rattle.store_book.proofs.Layers.LinkedSlots.{holds_linked, linked_live, linked_none, linked_some}
use Rattle.spec_lib.proofs.Options.{some_same}
use Rattle.store_book.proofs.Slots.Pinned.{index-set-le, index-set-most, length-slot_views, row-at, slot_view-at}
use Rattle.store_book.proofs.Slots.Shown.{EachSlot-slot_views_of, get-with_looks}
use Rattle.store_book.proofs.Slots.Writes.{length-with_slot, phase_live, slot_of_held, slot-same, slot-other}
use Rattle.slot_table.proofs.Finding.{held_of}

module _ (L : Layers) (t : ℕ) (repo digest : Text) (book : IsBook L) (known : known_tenant L.links repo ≡ Ok t) where
  abbrev C : Catalog
  C = book_catalog L

  pub lease_unknown : linked_slot L.links L.slots repo digest ≡ None → lease false C repo digest ≡ Err BlobUnknown
  lease_unknown none = rw (known, linked_none L book repo digest none) refl

  module _ (k : ℕ) (at_slot : linked_slot L.links L.slots repo digest ≡ Some k) where
    abbrev pub held : (h : StoredBlob) × (stored_blob_at L.slots k ≡ Some h) × (h.digest ≡ digest)
    held = held_of L.slots digest k (linked_some L book repo digest k at_slot).1

    pub has : holds C repo digest ≡ true
    has = holds_linked L book repo digest ∙ (linked_some L book repo digest k at_slot).0

    pub live_there : phase_at L.slots k ≡ phase.Live
    live_there = phase_live L.slots k held.0 held.1 (linked_live L book repo digest k held.0 held.1 held.2 has)

    pub resident : get C.residents digest ≡ Some (resident_of held.0.lent held.0)
    resident = ap (get C.residents) (sym held.2) ∙ resident_at L.slots k held.0 held.1 book.tied.distinct

    abbrev slots' : List Slot
    slots' = with_slot L.slots k (on_stored_blob lend)

    abbrev C' : Catalog
    C' = book_catalog (record L { slots = slots' })

    left : C' ≡ with_leased C digest (resident_of held.0.lent held.0)
    left = catalog-change lend lend-KeepsTies L k held.0 held.1 book.tied ∙ ap (λ (d : Text). record C { residents = insert C.residents d (resident_of true held.0) }) held.2

    pub lease_full : lease true C repo digest ≡ Err TooManyReaders
    lease_full = rw (known, has, resident) refl

    leased : lease false C repo digest ≡ Ok (held.0.bytes, C')
    leased = rw (known, has, resident) (λ i. Ok (held.0.bytes, sym left i))

    leased_book : IsBook (record L { slots = slots' })
    leased_book = record {
      sound = Sound-after_lease C C' false repo digest held.0.bytes leased book.sound;
      tied = IsTied-change lend lend-KeepsTies L k held.0 held.1 book.tied refl;
      charges = record { one_each = book.charges.one_each; sums = book.charges.sums };
    }

    pub IsBook-lease : (slots1 : List Slot) → slots1 ≡ slots' → IsBook (record L { slots = slots1 })
    IsBook-lease slots1 is = subst (λ (x : Layers). IsBook x) (λ i. record L { slots = sym is i }) leased_book

    -- the shared blob is that of the digest
    shared_blob : (blob : Text × Text) → Some blob ≡ option_map (λ (h : StoredBlob). (h.digest, h.bytes)) (stored_blob_at L.slots k) → blob ≡ (held.0.digest, held.0.bytes)
    shared_blob blob shared = some_same (shared ∙ ap (option_map (λ (h : StoredBlob). (h.digest, h.bytes))) held.1)

    pub shared_digest : (blob : Text × Text) → Some blob ≡ option_map (λ (h : StoredBlob). (h.digest, h.bytes)) (stored_blob_at L.slots k) → blob_digest blob ≡ digest
    shared_digest blob shared = ap blob_digest (shared_blob blob shared) ∙ held.2

    pub lease_ok : (slots1 : List Slot) (blob : Text × Text) → slots1 ≡ slots' → Some blob ≡ option_map (λ (h : StoredBlob). (h.digest, h.bytes)) (stored_blob_at L.slots k) → lease false C repo digest ≡ Ok (blob.1, book_catalog (record L { slots = slots1 }))
    lease_ok slots1 blob is shared =
        let same = shared_blob blob shared in
        leased ∙ (λ i. Ok ((sym same i).1, book_catalog (record L { slots = sym is i })))

    -- the pin has the digest
    pub lent_digest : (d : Text) → (row (map row_of L.slots) k).digest ≡ Some d → d ≡ digest
    lent_digest d has_digest =
        let s = slot_of_held L.slots k held.0 held.1 in
        some_same (sym has_digest ∙ ap (λ (r : PinRow). r.digest) (row-at L.slots k s.0 s.1) ∙ ap (option_map (λ (h : StoredBlob). h.digest)) s.2) ∙ held.2

-- ---- the view of the slots

-- two slots with the same view but for their bounds
abbrev ShowsSame : SlotView → SlotView → Type 0
ShowsSame a b = (b.generation ≡ a.generation) × (b.phase ≡ a.phase) × (b.digest ≡ a.digest)

shows_same : (s t : Slot) (n m : ℕ) (a b : SlotView) → a ≡ slot_view s n → b ≡ slot_view t m → slot_view t 0 ≡ slot_view s 0 → ShowsSame a b
shows_same s t n m a b is now same = (
  ap (λ (z : SlotView). z.generation) now ∙ ap (λ (z : SlotView). z.generation) same ∙ sym (ap (λ (z : SlotView). z.generation) is),
  ap (λ (z : SlotView). z.phase) now ∙ ap (λ (z : SlotView). z.phase) same ∙ sym (ap (λ (z : SlotView). z.phase) is),
  ap (λ (z : SlotView). z.digest) now ∙ ap (λ (z : SlotView). z.digest) same ∙ sym (ap (λ (z : SlotView). z.digest) is),
)

lend-slot_view : (s : Slot) → slot_view (on_stored_blob lend s) 0 ≡ slot_view s 0
lend-slot_view s = by_content s.content
  where
    by_content : (c : SlotContent) → slot_view (record { generation = s.generation; content = content_with lend c }) 0 ≡ slot_view (record { generation = s.generation; content = c }) 0
    by_content Free = refl
    by_content (Used h) = refl
    by_content Retired = refl

-- a look raises no bound
each_looked : (digest : Text) (p q : Pinned) (k n : ℕ) → n ≤ slice_index p.bounds k → q ≡ with_bound k n p → (q.table ≡ p.table) × EachSlot (IsLending digest) (slot_views p.slots p.bounds) (slot_views q.slots q.bounds)
each_looked digest p q k n le is = subst (λ (x : Pinned). (x.table ≡ p.table) × EachSlot (IsLending digest) (slot_views p.slots p.bounds) (slot_views x.slots x.bounds)) (sym is) (
  refl,
  (
    length-slot_views p.slots (slice_set p.bounds k n) ∙ sym (length-slot_views p.slots p.bounds),
    λ j a b at_a at_b.
        let x = slot_view-at p.slots p.bounds j a at_a in
        let y = slot_view-at p.slots (slice_set p.bounds k n) j b at_b in
        let same : x.0 ≡ y.0 = some_same (sym x.1 ∙ y.1) in
        let old : a.bound ≡ slice_index p.bounds j = ap (λ (z : SlotView). z.bound) x.2 in
        let new : b.bound ≡ slice_index (slice_set p.bounds k n) j = ap (λ (z : SlotView). z.bound) y.2 in
        let lower = index-set-le p.bounds k n j le in
        let kept = shows_same x.0 y.0 _ _ a b x.2 y.2 (ap (λ (z : Slot). slot_view z 0) (sym same)) in
        (kept.0, (λ rises. absurd (omega arith)), kept.1, kept.2),
  ),
)

pub slot_view-get : (slots : List Slot) (bounds : List ℕ) (k : ℕ) (s : Slot) → slice_get slots k ≡ Some s → slice_get (slot_views slots bounds) k ≡ Some (slot_view s (slice_index bounds k))
slot_view-get [] bounds k s at = absurd cc
slot_view-get (x ∷ slots) [] zero s at = ap (λ (y : Slot). Some (slot_view y 0)) (some_same at)
slot_view-get (x ∷ slots) [] (suc k) s at = slot_view-get slots [] k s at
slot_view-get (x ∷ slots) (b ∷ bounds) zero s at = ap (λ (y : Slot). Some (slot_view y b)) (some_same at)
slot_view-get (x ∷ slots) (b ∷ bounds) (suc k) s at = slot_view-get slots bounds k s at

-- a lease raises only the bound of its digest's slot, by one reader
each_lent : (digest : Text) (p q : Pinned) (k n : ℕ) (h : StoredBlob) → stored_blob_at p.slots k ≡ Some h → h.digest ≡ digest → n ≤ slice_index p.bounds k + new_weight → q ≡ with_lease_on k n p →
    (q.table ≡ p.table) × EachSlot (IsLending digest) (slot_views p.slots p.bounds) (slot_views q.slots q.bounds)
each_lent digest p q k n h at is_digest le is = subst (λ (x : Pinned). (x.table ≡ p.table) × EachSlot (IsLending digest) (slot_views p.slots p.bounds) (slot_views x.slots x.bounds)) (sym is) (
  refl,
  (
    length-slot_views (with_slot p.slots k (on_stored_blob lend)) (slice_set p.bounds k n) ∙ length-with_slot p.slots k (on_stored_blob lend) ∙ sym (length-slot_views p.slots p.bounds),
    λ j a b at_a at_b.
        let x = slot_view-at p.slots p.bounds j a at_a in
        let y = slot_view-at (with_slot p.slots k (on_stored_blob lend)) (slice_set p.bounds k n) j b at_b in
        let old : a.bound ≡ slice_index p.bounds j = ap (λ (z : SlotView). z.bound) x.2 in
        let new : b.bound ≡ slice_index (slice_set p.bounds k n) j = ap (λ (z : SlotView). z.bound) y.2 in
        elim (cases_eq j k) [
          | inl e ↦
              let here : slice_get p.slots k ≡ Some x.0 = ap (slice_get p.slots) (sym e) ∙ x.1 in
              let same : on_stored_blob lend x.0 ≡ y.0 = some_same (sym (slot-same p.slots k (on_stored_blob lend) x.0 here) ∙ ap (slice_get (with_slot p.slots k (on_stored_blob lend))) (sym e) ∙ y.1) in
              let most = index-set-most p.bounds k n in
              let old_k : a.bound ≡ slice_index p.bounds k = old ∙ ap (slice_index p.bounds) e in
              let new_k : b.bound ≡ slice_index (slice_set p.bounds k n) k = new ∙ ap (slice_index (slice_set p.bounds k n)) e in
              let kept = shows_same x.0 y.0 _ _ a b x.2 y.2 (ap (λ (z : Slot). slot_view z 0) (sym same) ∙ lend-slot_view x.0) in
              let held : a.digest ≡ Some digest = ap (λ (z : SlotView). z.digest) x.2 ∙ ap (option_map (λ (g : StoredBlob). g.digest)) (sym (ap (λ o. option_map_or (λ (z : Slot). stored_blob_in z.content) o None) here) ∙ at) ∙ ap Some is_digest in
              (kept.0, (λ rises. (kept.2 ∙ held, omega arith)), kept.1, kept.2)
          | inr other ↦
              let same : x.0 ≡ y.0 = some_same (sym x.1 ∙ sym (slot-other p.slots k (on_stored_blob lend) j other) ∙ y.1) in
              let stays : slice_index (slice_set p.bounds k n) j ≡ slice_index p.bounds j = get_or-set_other p.bounds k j n 0 other in
              let kept = shows_same x.0 y.0 _ _ a b x.2 y.2 (ap (λ (z : Slot). slot_view z 0) (sym same)) in
              (kept.0, (λ rises. absurd (omega arith)), kept.1, kept.2)
        ],
  ),
)

-- the same with the numbers of looks
pub EachSlot-looked : (digest : Text) (p q : Pinned) (k n : ℕ) → n ≤ slice_index p.bounds k → q ≡ with_bound k n p → (q.table ≡ p.table) × EachSlot (IsLending digest) (slot_views_of p) (slot_views_of q)
EachSlot-looked digest p q k n le is = let e = each_looked digest p q k n le is in (e.0, EachSlot-slot_views_of (IsLending digest) (λ a b n m r. r) p q e.1)

pub EachSlot-lent : (digest : Text) (p q : Pinned) (k n : ℕ) (h : StoredBlob) → stored_blob_at p.slots k ≡ Some h → h.digest ≡ digest → n ≤ slice_index p.bounds k + new_weight → q ≡ with_lease_on k n p → (q.table ≡ p.table) × EachSlot (IsLending digest) (slot_views_of p) (slot_views_of q)
EachSlot-lent digest p q k n h at is_digest le is = let e = each_lent digest p q k n h at is_digest le is in (e.0, EachSlot-slot_views_of (IsLending digest) (λ a b n m r. r) p q e.1)

-- a look found no room
pub finds_no_room : (p q : Pinned) (k : ℕ) (digest : Text) (h : StoredBlob) → stored_blob_at p.slots k ≡ Some h → h.digest ≡ digest → (length p.bounds ≡ length p.slots) × (length p.looks ≡ length p.slots) → FindsFullSlot k p q → FindsNoRoom digest (slot_views_of p) (slot_views_of q)
finds_no_room p q k digest h at is one_each full =
    let s = slot_of_held p.slots k h at in
    let lt = slice_get_within p.slots k s.0 s.1 in
    let bounds = one_each.0 in
    let looks = one_each.1 in
    let weight : slice_index (slice_set p.bounds k full.weight) k ≡ full.weight = get_or-set_same p.bounds k full.weight 0 (omega arith) in
    let looked : slice_index (with_added k 1 p.looks) k ≡ slice_index p.looks k + 1 = get_or-set_same p.looks k (slice_index p.looks k + 1) 0 (omega arith) in
    let passes = full.full in
    record {
      slot = k;
      before = record (slot_view s.0 (slice_index p.bounds k)) { looks = slice_index p.looks k };
      was = get-with_looks p.looks (slot_views p.slots p.bounds) k _ (slot_view-get p.slots p.bounds k s.0 s.1);
      held = ap (option_map (λ (x : StoredBlob). x.digest)) s.2 ∙ ap Some is;
      weight = full.weight;
      full = omega arith;
      after =
          ap (λ (x : Pinned). slice_get (slot_views_of x) k) full.after
          ∙ get-with_looks (with_added k 1 p.looks) (slot_views p.slots (slice_set p.bounds k full.weight)) k _ (slot_view-get p.slots (slice_set p.bounds k full.weight) k s.0 s.1)
          ∙ (λ i. Some (record (slot_view s.0 (weight i)) { looks = looked i }));
    }

pub IsCrowded-full : (p q : Pinned) (k : ℕ) (digest : Text) (h : StoredBlob) → stored_blob_at p.slots k ≡ Some h → h.digest ≡ digest → (length p.bounds ≡ length p.slots) × (length p.looks ≡ length p.slots) → FindsFullSlot k p q → IsCrowded digest (slot_views_of q)
IsCrowded-full p q k digest h at is one_each full =
    let f = finds_no_room p q k digest h at is one_each full in
    (f.slot, record f.before { bound = f.weight; looks = f.before.looks + 1 }, f.after, f.held, f.full)
