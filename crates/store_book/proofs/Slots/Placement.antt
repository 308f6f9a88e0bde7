-- The view of the slots after a blob was stored.
use Rattle.std.proofs.Common.{◌≡◌, ℕ, ◌⊎◌, Bool, true, false, Option, Some, None, refl, sym, ap, ◌∙◌, inl, inr}
use Rattle.std.specs.Prelude.{slice_get, if◌then◌else◌}
use Rattle.std.specs.Option.{option_map, option_map_or}
use Rattle.std.specs.FinMap.{contains_key}
use Rattle.std.proofs.lemmas.Bool.{cases_eq}
use Rattle.slot_table.specs.declared.phase.Phase.TheVariants as phase
use Rattle.slot_table.specs.Slots.{Slot, StoredBlob, SlotContent, Free, Used, Retired, stored_blob_at, stored_blob_in, phase_in, with_slot, on_stored_blob, content_with, digest_in, fill, link_up}
use Rattle.link_table.specs.Linked.{Linked}
use Rattle.store_book.specs.BookState.{SlotView}
use Rattle.spec_lib.specs.Texts.{Text}
use Rattle.store_book.specs.Internal.Storing.{IsStored, is_existing, is_added, renew, with_renewed_slot}
use Rattle.store_book.specs.Pinned.{Pinned, KeepsGenerations, slot_view, slot_views, slot_views_of}
use Rattle.store_book.specs.SlotSteps.{EachSlot, MayPlace, is_unchanged, is_placed}
use Rattle.spec_lib.proofs.Options.{some_same}
use Rattle.store_book.proofs.Slots.Pinned.{slot_view-at}
use Rattle.store_book.proofs.Slots.Shown.{EachSlot-slot_views_of, housing_blind}
use Rattle.store_book.proofs.Slots.Writes.{slot-other, slot-same, with_slot-twice}
use Rattle.slot_table.proofs.Finding.{held_of}

-- ---- one slot changes

module _ (p q : Pinned) (digest : Text) (quiet : KeepsGenerations p q) (k : ℕ) (f : Slot → Slot) (is : q.slots ≡ with_slot p.slots k f)
    (was : (s : Slot) → slice_get p.slots k ≡ Some s → (phase_in s.content ≡ phase.Free) ⊎ (digest_in s.content ≡ Some digest))
    (now : (s : Slot) → slice_get p.slots k ≡ Some s → (phase_in (f s).content ≡ phase.Live) × (digest_in (f s).content ≡ Some digest)) where
  were : (s : Slot) (n : ℕ) (a : SlotView) → a ≡ slot_view s n → (phase_in s.content ≡ phase.Free) ⊎ (digest_in s.content ≡ Some digest) → (a.phase ≡ phase.Free) ⊎ (a.digest ≡ Some digest)
  were s n a e (inl free) = inl (ap (λ (x : SlotView). x.phase) e ∙ free)
  were s n a e (inr same) = inr (ap (λ (x : SlotView). x.digest) e ∙ same)

  one_housed : EachSlot (MayPlace digest) (slot_views p.slots p.bounds) (slot_views q.slots q.bounds)
  one_housed = (
    quiet.slots.0,
    λ j a b at_a at_b.
        let x = slot_view-at p.slots p.bounds j a at_a in
        let y = slot_view-at q.slots q.bounds j b at_b in
        let stays = quiet.slots.1 j a b at_a at_b in
        elim (cases_eq j k) [
          | inl e ↦
              let here : slice_get p.slots k ≡ Some x.0 = ap (slice_get p.slots) (sym e) ∙ x.1 in
              let same : f x.0 ≡ y.0 = some_same (sym (slot-same p.slots k f x.0 here) ∙ ap (λ xs. slice_get xs k) (sym is) ∙ ap (slice_get q.slots) (sym e) ∙ y.1) in
              let live = now x.0 here in
              is_placed stays (were x.0 _ a x.2 (was x.0 here))
              (ap (λ (z : SlotView). z.phase) y.2 ∙ ap (λ (z : Slot). phase_in z.content) (sym same) ∙ live.0)
              (ap (λ (z : SlotView). z.digest) y.2 ∙ ap (λ (z : Slot). digest_in z.content) (sym same) ∙ live.1)
          | inr other ↦
              let same : x.0 ≡ y.0 = some_same (sym x.1 ∙ sym (slot-other p.slots k f j other) ∙ ap (λ xs. slice_get xs j) (sym is) ∙ y.1) in
              is_unchanged stays
              (ap (λ (z : SlotView). z.phase) y.2 ∙ ap (λ (z : Slot). phase_in z.content) (sym same) ∙ sym (ap (λ (z : SlotView). z.phase) x.2))
              (ap (λ (z : SlotView). z.digest) y.2 ∙ ap (λ (z : Slot). digest_in z.content) (sym same) ∙ sym (ap (λ (z : SlotView). z.digest) x.2))
        ],
  )

-- ---- a blob is stored

renewed_live : (content : Text) (c : SlotContent) (h : StoredBlob) → stored_blob_in c ≡ Some h → (phase_in (content_with (renew content) c) ≡ phase.Live) × (digest_in (content_with (renew content) c) ≡ Some h.digest)
renewed_live content Free h e = absurd cc
renewed_live content (Used x) h e = (refl, ap (λ (y : StoredBlob). Some y.digest) (some_same e))
renewed_live content Retired h e = absurd cc

linked_live : (content : Text) (c : SlotContent) (h : StoredBlob) → stored_blob_in c ≡ Some h → (phase_in (content_with link_up (content_with (renew content) c)) ≡ phase.Live) × (digest_in (content_with link_up (content_with (renew content) c)) ≡ Some h.digest)
linked_live content Free h e = absurd cc
linked_live content (Used x) h e = (refl, ap (λ (y : StoredBlob). Some y.digest) (some_same e))
linked_live content Retired h e = absurd cc

-- the blob of a slot, by the slot's number
held_slot : (p : Pinned) (k : ℕ) (h : StoredBlob) (s : Slot) → stored_blob_at p.slots k ≡ Some h → slice_get p.slots k ≡ Some s → stored_blob_in s.content ≡ Some h
held_slot p k h s at here = sym (ap (λ o. option_map_or (λ (x : Slot). stored_blob_in x.content) o None) here) ∙ at

each_housed : (on_disk : Bool) (p q : Pinned) (l l' : Linked) (repo : Text) (blob : Text × Text) → KeepsGenerations p q → IsStored on_disk l p.slots repo blob l' q.slots → EachSlot (MayPlace blob.0) (slot_views p.slots p.bounds) (slot_views q.slots q.bounds)
each_housed on_disk p q l l' repo blob quiet (is_existing k h place at fits links slots_are) = by (contains_key l.links (repo, blob.0)) slots_are
  where
    is_digest : h.digest ≡ blob.0
    is_digest = let g = held_of p.slots blob.0 k place in ap (λ (x : StoredBlob). x.digest) (some_same (sym at ∙ g.1)) ∙ g.2

    was : (s : Slot) → slice_get p.slots k ≡ Some s → (phase_in s.content ≡ phase.Free) ⊎ (digest_in s.content ≡ Some blob.0)
    was s here = inr (ap (option_map (λ (x : StoredBlob). x.digest)) (held_slot p k h s at here) ∙ ap Some is_digest)

    by : (b : Bool) → q.slots ≡ (if b then with_renewed_slot p.slots k blob.1 else with_slot (with_renewed_slot p.slots k blob.1) k (on_stored_blob link_up)) → EachSlot (MayPlace blob.0) (slot_views p.slots p.bounds) (slot_views q.slots q.bounds)
    by true is = one_housed p q blob.0 quiet k (on_stored_blob (renew blob.1)) is was (λ s here. (let live = renewed_live blob.1 s.content h (held_slot p k h s at here) in (live.0, live.1 ∙ ap Some is_digest)))
    by false is = one_housed p q blob.0 quiet k (λ s. on_stored_blob link_up (on_stored_blob (renew blob.1) s)) (is ∙ with_slot-twice p.slots k (on_stored_blob (renew blob.1)) (on_stored_blob link_up)) was (λ s here. (let live = linked_live blob.1 s.content h (held_slot p k h s at here) in (live.0, live.1 ∙ ap Some is_digest)))
each_housed on_disk p q l l' repo blob quiet (is_added k none free links slots_are) =
    one_housed p q blob.0 quiet k (λ s. on_stored_blob link_up (fill blob s)) (slots_are ∙ with_slot-twice p.slots k (fill blob) (on_stored_blob link_up))
    (λ s here. inl (sym (ap (λ o. option_map_or (λ (x : Slot). phase_in x.content) o phase.Retired) here) ∙ free)) (λ s here. (refl, refl))

-- the same with the numbers of looks
pub EachSlot-is_placed : (on_disk : Bool) (p q : Pinned) (l l' : Linked) (repo : Text) (blob : Text × Text) → KeepsGenerations p q → IsStored on_disk l p.slots repo blob l' q.slots → EachSlot (MayPlace blob.0) (slot_views_of p) (slot_views_of q)
EachSlot-is_placed on_disk p q l l' repo blob quiet kept = EachSlot-slot_views_of (MayPlace blob.0) (housing_blind blob.0) p q (each_housed on_disk p q l l' repo blob quiet kept)
