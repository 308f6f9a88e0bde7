use Rattle.slot_table.proofs.Padding.{orphans-padded}
use Rattle.slot_table.proofs.SlotSets.{orphan_from-by}
use Rattle.slot_table.proofs.table.SlotTable.orphans_from.Goals as goal

pub returns : goal.returns
returns c =
    let n = c.self.inside.slots in
    let g = c.self.inside.first_generation in
    let rows = c.self.inside.rows.items in
    let words = c.self.inside.orphans in
    let kept = orphans-padded n g rows words c.self.invariant.3.made c.self.invariant.3.set_fits c.self.invariant.2 in
    rw (← c.self.view_is) (orphan_from-by _ words c.args.slot c.first_from.result kept c.first_from.ensures.some c.first_from.ensures.none)
