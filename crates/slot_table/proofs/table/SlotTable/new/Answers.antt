use Rattle.std.specs.Vec.{vec_capacity}
use Rattle.std.proofs.Common.{◌≤◌, arith}
use Rattle.blob_digest.specs.Slots.{greatest_slots}
use Rattle.slot_table.proofs.Changes.{opened}
use Rattle.slot_table.proofs.table.SlotTable.new.Goals as goal

pub invariant_of-result : goal.invariant_of-result
invariant_of-result c =
    let few : c.args.slots ≤ greatest_slots = omega arith in
    let row_room : c.args.slots ≤ vec_capacity c.in_ok-rows.rows = c.in_ok-rows.ensures.capacity in
    let stack_room : c.args.slots ≤ vec_capacity c.in_ok-free.free = c.in_ok-free.ensures.capacity in
    let kept = opened c.new-2.result c.in_ok-orphans.orphans (vec_capacity c.in_ok-free.free) c.new-2.ensures.empty c.in_ok-orphans.ensures.empty in
    rw (c.in_ok-rows.ensures.items, c.in_ok-free.ensures.items) (
      kept.0,
      kept.1,
      kept.2,
      record { made = omega arith; few = few; rows_fit = row_room; stack_fits = stack_room; set_fits = c.in_ok-orphans.ensures.room },
    )
