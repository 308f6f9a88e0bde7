use Rattle.std.proofs.Common.{refl, false}
use Rattle.std.specs.Vec.{vec_capacity}
use Rattle.slot_table.specs.Slots.{on_stored_blob, mark}
use Rattle.slot_table.proofs.Finding.{condemned_within}
use Rattle.slot_table.proofs.Padding.{condemned_row, with_slot-padded, room-kept}
use Rattle.slot_table.proofs.Changes.{changed}
use Rattle.slot_table.proofs.SlotSets.{orphans-kept, orphan-held}
use Rattle.slot_table.proofs.table.SlotTable.revive.Goals as goal

pub invariant_of-self : goal.invariant_of-self
invariant_of-self c =
    let n = c.self.inside.slots in
    let g = c.self.inside.first_generation in
    let rows = c.self.inside.rows.items in
    let slot = c.args.slot in
    let row = c.index_mut.result.now in
    let condemned = condemned_row n g rows slot (rw (← c.self.view_is) at c.requires) in
    let within = condemned_within rows slot condemned in
    let kept = changed rows slot row (mark false) c.self.inside.index c.self.inside.free.items (vec_capacity c.self.inside.free)
    c.self.invariant.0 c.self.invariant.1 within c.index_mut.ensures.value (λ h. refl) (λ h at_k mark. absurd cc) in
    rw c.mark.ensures (
      kept.0,
      kept.1,
      orphans-kept rows slot row (on_stored_blob (mark false) row) c.self.inside.orphans within c.index_mut.ensures.value (orphan-held (mark false) row.content (λ h. refl)) c.self.invariant.2,
      room-kept slot (on_stored_blob (mark false) row) c.self.invariant.3,
    )

pub returns : goal.returns
returns c =
    let n = c.self.inside.slots in
    let g = c.self.inside.first_generation in
    let rows = c.self.inside.rows.items in
    let slot = c.args.slot in
    let row = c.index_mut.result.now in
    let condemned = condemned_row n g rows slot (rw (← c.self.view_is) at c.requires) in
    let within = condemned_within rows slot condemned in
    rw (← c.self.view_is) (with_slot-padded n g rows slot row c.mark.new.self (on_stored_blob (mark false)) within c.index_mut.ensures.value c.mark.ensures)
