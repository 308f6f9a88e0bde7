use Rattle.std.proofs.Common.{refl}
use Rattle.std.specs.Vec.{vec_capacity}
use Rattle.slot_table.specs.Slots.{on_stored_blob, lend}
use Rattle.slot_table.proofs.Finding.{live_within, live-marked, not_marked}
use Rattle.slot_table.proofs.Padding.{live_row, with_slot-padded, room-kept}
use Rattle.slot_table.proofs.Changes.{changed}
use Rattle.slot_table.proofs.SlotSets.{orphans-kept, orphan-held}
use Rattle.slot_table.proofs.table.SlotTable.lend.Goals as goal

pub invariant_of-self : goal.invariant_of-self
invariant_of-self c =
    let n = c.self.inside.slots in
    let g = c.self.inside.first_generation in
    let rows = c.self.inside.rows.items in
    let slot = c.args.slot in
    let row = c.index_mut.result.now in
    let live = live_row n g rows slot (rw (← c.self.view_is) at c.requires) in
    let within = live_within rows slot live in
    let kept = changed rows slot row lend c.self.inside.index c.self.inside.free.items (vec_capacity c.self.inside.free)
    c.self.invariant.0 c.self.invariant.1 within c.index_mut.ensures.value (λ h. refl) (λ h at_k mark. not_marked (live-marked rows slot h live at_k) mark) in
    rw c.lend.ensures (
      kept.0,
      kept.1,
      orphans-kept rows slot row (on_stored_blob lend row) c.self.inside.orphans within c.index_mut.ensures.value (orphan-held lend row.content (λ h. refl)) c.self.invariant.2,
      room-kept slot (on_stored_blob lend row) c.self.invariant.3,
    )

pub returns : goal.returns
returns c =
    let n = c.self.inside.slots in
    let g = c.self.inside.first_generation in
    let rows = c.self.inside.rows.items in
    let slot = c.args.slot in
    let row = c.index_mut.result.now in
    let live = live_row n g rows slot (rw (← c.self.view_is) at c.requires) in
    let within = live_within rows slot live in
    rw (← c.self.view_is) (with_slot-padded n g rows slot row c.lend.new.self (on_stored_blob lend) within c.index_mut.ensures.value c.lend.ensures)
