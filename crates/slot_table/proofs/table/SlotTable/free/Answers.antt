use Rattle.std.proofs.Common.{◌≡◌, ◌<◌, ◌≤◌, length, false, refl, arith}
use Rattle.std.specs.Vec.{vec_capacity}
use Rattle.slot_table.specs.Slots.{freed_slot, free_slots}
use Rattle.slot_table.proofs.Finding.{condemned_within}
use Rattle.slot_table.proofs.Padding.{condemned_row, with_slot-padded, room-set}
use Rattle.slot_table.proofs.Stacking.{condemned-used, not_all_free}
use Rattle.slot_table.proofs.Changes.{freed}
use Rattle.slot_table.proofs.SlotSets.{orphans-set}
use Rattle.slot_table.proofs.table.SlotTable.free.Goals as goal

pub unreachable-requires : goal.unreachable-requires
unreachable-requires c =
    let rows = c.self.inside.rows.items in
    let slot = c.args.slot in
    let condemned = condemned_row c.self.inside.slots c.self.inside.first_generation rows slot (rw (← c.self.view_is) at c.requires.condemned) in
    let few : free_slots rows < length rows = not_all_free rows slot (condemned_within rows slot condemned) (condemned-used rows slot condemned) in
    let counted : length c.self.inside.free.items ≡ free_slots rows = c.self.invariant.1.counted in
    let full = c.in-Err.ensures.full in
    let roomy : length rows ≤ vec_capacity c.self.inside.free = c.self.invariant.1.roomy in
    omega arith

pub invariant_of-self : goal.invariant_of-self
invariant_of-self c =
    let n = c.self.inside.slots in
    let g = c.self.inside.first_generation in
    let rows = c.self.inside.rows.items in
    let slot = c.args.slot in
    let row = c.index_mut-row.result.now in
    let condemned = condemned_row n g rows slot (rw (← c.self.view_is) at c.requires.condemned) in
    let within = condemned_within rows slot condemned in
    let kept = freed rows slot row c.self.inside.index c.forget.new.index c.self.inside.free.items (vec_capacity c.self.inside.free) (vec_capacity c.push.new.self)
    c.self.invariant.0 c.self.invariant.1 c.push.ensures.capacity condemned c.index_mut-row.ensures.value c.forget.ensures in
    rw (c.free.ensures, c.in-Ok.ensures.items) (
      kept.0,
      kept.1,
      orphans-set rows slot (freed_slot row) false c.self.inside.orphans c.set.new.self within refl c.set.ensures.each c.set.ensures.len c.self.invariant.2,
      room-set slot (freed_slot row) c.push.ensures.capacity c.set.ensures.len c.self.invariant.3,
    )

pub returns : goal.returns
returns c =
    let n = c.self.inside.slots in
    let g = c.self.inside.first_generation in
    let rows = c.self.inside.rows.items in
    let slot = c.args.slot in
    let row = c.index_mut-row.result.now in
    let condemned = condemned_row n g rows slot (rw (← c.self.view_is) at c.requires.condemned) in
    let within = condemned_within rows slot condemned in
    rw (← c.self.view_is) (with_slot-padded n g rows slot row c.free.new.self freed_slot within c.index_mut-row.ensures.value c.free.ensures)
