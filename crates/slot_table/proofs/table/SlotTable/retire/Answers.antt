use Rattle.std.proofs.Common.{false, refl}
use Rattle.std.specs.Vec.{vec_capacity}
use Rattle.slot_table.specs.Slots.{retire}
use Rattle.slot_table.proofs.Finding.{condemned_within}
use Rattle.slot_table.proofs.Padding.{condemned_row, with_slot-padded, room-noted}
use Rattle.slot_table.proofs.Changes.{table_retired}
use Rattle.slot_table.proofs.SlotSets.{orphans-set}
use Rattle.slot_table.proofs.table.SlotTable.retire.Goals as goal

pub invariant_of-self : goal.invariant_of-self
invariant_of-self c =
    let n = c.self.inside.slots in
    let g = c.self.inside.first_generation in
    let rows = c.self.inside.rows.items in
    let slot = c.args.slot in
    let row = c.index_mut-row.result.now in
    let condemned = condemned_row n g rows slot (rw (← c.self.view_is) at c.requires) in
    let within = condemned_within rows slot condemned in
    let kept = table_retired rows slot row c.self.inside.index c.forget.new.index c.self.inside.free.items (vec_capacity c.self.inside.free)
    c.self.invariant.0 c.self.invariant.1 condemned c.index_mut-row.ensures.value c.forget.ensures in
    rw c.retire.ensures (
      kept.0,
      kept.1,
      orphans-set rows slot (retire row) false c.self.inside.orphans c.set.new.self within refl c.set.ensures.each c.set.ensures.len c.self.invariant.2,
      room-noted slot (retire row) c.set.ensures.len c.self.invariant.3,
    )

pub returns : goal.returns
returns c =
    let n = c.self.inside.slots in
    let g = c.self.inside.first_generation in
    let rows = c.self.inside.rows.items in
    let slot = c.args.slot in
    let row = c.index_mut-row.result.now in
    let condemned = condemned_row n g rows slot (rw (← c.self.view_is) at c.requires) in
    let within = condemned_within rows slot condemned in
    rw (← c.self.view_is) (with_slot-padded n g rows slot row c.retire.new.self retire within c.index_mut-row.ensures.value c.retire.ensures)
