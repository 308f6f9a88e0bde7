use Rattle.std.proofs.Common.{◌≡◌, ◌∙◌, ◌<◌, None, Some, ap, length, refl, sym, arith}
use Rattle.std.specs.Prelude.{Option, slice_get}
use Rattle.std.specs.Option.{option_map, option_map_or}
use Rattle.std.specs.Vec.{vec_capacity}
use Rattle.std.proofs.lemmas.Option.{slice_get-get_or}
use Rattle.spec_lib.specs.Texts.{Text}
use Rattle.slot_table.specs.Slots.{Slot, StoredBlob, on_stored_blob, stored_blob_in, with_content, with_slot}
use Rattle.slot_table.proofs.Finding.{found_within, held_of}
use Rattle.slot_table.proofs.Padding.{found_row, with_slot-padded, room-kept}
use Rattle.slot_table.proofs.Changes.{changed}
use Rattle.slot_table.proofs.SlotSets.{orphans-kept, orphan-held}
use Rattle.slot_table.proofs.table.SlotTable.replace.Goals as goal

pub index_mut-requires : goal.index_mut-requires
index_mut-requires c =
    let rows = c.self.inside.rows.items in
    let found = found_row c.self.inside.slots c.self.inside.first_generation rows c.args.blob.0 c.args.slot c.self.invariant.0 c.self.invariant.3 (rw (← c.self.view_is) at c.requires.there) in
    let within : c.args.slot < length rows = found_within rows c.args.blob.0 c.args.slot found in
    omega arith

pub replace-requires : goal.replace-requires
replace-requires c =
    let rows = c.self.inside.rows.items in
    let slot = c.args.slot in
    let row = c.index_mut.result.now in
    let found = found_row c.self.inside.slots c.self.inside.first_generation rows c.args.blob.0 slot c.self.invariant.0 c.self.invariant.3 (rw (← c.self.view_is) at c.requires.there) in
    let h = held_of rows c.args.blob.0 slot found in
    let at : slice_get rows slot ≡ Some row = slice_get-get_or rows slot row (found_within rows c.args.blob.0 slot found) ∙ ap (λ (s : Slot). Some s) (sym c.index_mut.ensures.value) in
    ap (λ (o : Option Slot). option_map (λ (b : StoredBlob). b.digest) (option_map_or (λ (s : Slot). stored_blob_in s.content) o None)) (sym at)
    ∙ ap (option_map (λ (b : StoredBlob). b.digest)) h.1 ∙ ap (λ (t : Text). Some t) (h.2 ∙ ap (λ (b : Text × Text). b.0) (sym c.in-Ok.ensures.ok))

pub invariant_of-self : goal.invariant_of-self
invariant_of-self c =
    let rows = c.self.inside.rows.items in
    let slot = c.args.slot in
    let row = c.index_mut.result.now in
    let found = found_row c.self.inside.slots c.self.inside.first_generation rows c.args.blob.0 slot c.self.invariant.0 c.self.invariant.3 (rw (← c.self.view_is) at c.requires.there) in
    let within = found_within rows c.args.blob.0 slot found in
    let put = with_content c.in-Ok.blob.value.1 in
    let kept = changed rows slot row put c.self.inside.index c.self.inside.free.items (vec_capacity c.self.inside.free)
    c.self.invariant.0 c.self.invariant.1 within c.index_mut.ensures.value (λ h. refl) (λ h at_k mark. c.self.invariant.0.unlinked slot h at_k mark) in
    rw c.replace.ensures (
      kept.0,
      kept.1,
      orphans-kept rows slot row (on_stored_blob put row) c.self.inside.orphans within c.index_mut.ensures.value (orphan-held put row.content (λ h. refl)) c.self.invariant.2,
      room-kept slot (on_stored_blob put row) c.self.invariant.3,
    )

pub returns-in-Ok-clause-ok : goal.returns-in-Ok-clause-ok
returns-in-Ok-clause-ok c =
    let n = c.self.inside.slots in
    let g = c.self.inside.first_generation in
    let rows = c.self.inside.rows.items in
    let slot = c.args.slot in
    let found = found_row n g rows c.args.blob.0 slot c.self.invariant.0 c.self.invariant.3 (rw (← c.self.view_is) at c.requires.there) in
    rw (← c.self.view_is) (with_slot-padded n g rows slot c.index_mut.result.now c.replace.new.self (on_stored_blob (with_content c.in-Ok.blob.value.1)) (found_within rows c.args.blob.0 slot found) c.index_mut.ensures.value c.replace.ensures)
    ∙ ap (λ (b : Text × Text). with_slot c.args.self.now slot (on_stored_blob (with_content b.1))) c.in-Ok.ensures.ok
