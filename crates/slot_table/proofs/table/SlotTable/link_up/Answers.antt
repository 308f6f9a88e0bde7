use Rattle.std.proofs.Common.{refl, false}
use Rattle.std.specs.Vec.{vec_capacity}
use Rattle.slot_table.specs.Slots.{on_stored_blob, link_up}
use Rattle.slot_table.proofs.Finding.{live_within, live-marked, not_marked}
use Rattle.slot_table.proofs.Padding.{live_row, with_slot-padded, room-noted}
use Rattle.slot_table.proofs.Changes.{changed}
use Rattle.slot_table.proofs.SlotSets.{orphans-set, orphan-linked}
use Rattle.slot_table.proofs.table.SlotTable.link_up.Goals as goal

pub invariant_of-self : goal.invariant_of-self
invariant_of-self c =
    let n = c.self.inside.slots in
    let g = c.self.inside.first_generation in
    let rows = c.self.inside.rows.items in
    let slot = c.args.slot in
    let row = c.index_mut.result.now in
    let live = live_row n g rows slot (rw (← c.self.view_is) at c.requires.live) in
    let within = live_within rows slot live in
    let kept = changed rows slot row link_up c.self.inside.index c.self.inside.free.items (vec_capacity c.self.inside.free)
    c.self.invariant.0 c.self.invariant.1 within c.index_mut.ensures.value (λ h. refl) (λ h at_k mark. not_marked (live-marked rows slot h live at_k) mark) in
    rw c.link_up.ensures (
      kept.0,
      kept.1,
      orphans-set rows slot (on_stored_blob link_up row) false c.self.inside.orphans c.set.new.self within (orphan-linked row.content) c.set.ensures.each c.set.ensures.len c.self.invariant.2,
      room-noted slot (on_stored_blob link_up row) c.set.ensures.len c.self.invariant.3,
    )

pub returns : goal.returns
returns c =
    let n = c.self.inside.slots in
    let g = c.self.inside.first_generation in
    let rows = c.self.inside.rows.items in
    let slot = c.args.slot in
    let row = c.index_mut.result.now in
    let live = live_row n g rows slot (rw (← c.self.view_is) at c.requires.live) in
    let within = live_within rows slot live in
    rw (← c.self.view_is) (with_slot-padded n g rows slot row c.link_up.new.self (on_stored_blob link_up) within c.index_mut.ensures.value c.link_up.ensures)
