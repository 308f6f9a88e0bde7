use Rattle.std.proofs.Common.{◌∙◌}
use Rattle.slot_table.proofs.Padding.{slot_of-indexed, table-padded}
use Rattle.slot_table.proofs.table.SlotTable.find.Goals as goal

pub returns-clause-slot : goal.returns-clause-slot
returns-clause-slot c =
    let n = c.self.inside.slots in
    let g = c.self.inside.first_generation in
    let rows = c.self.inside.rows.items in
    rw (← c.self.view_is) (slot_of-indexed n g rows c.self.inside.index c.args.digest.now c.copied.result c.self.invariant.0 c.self.invariant.3 c.self.invariant.1.found (c.copied.ensures ∙ c.get.ensures.value))

pub returns-clause-alone : goal.returns-clause-alone
returns-clause-alone c =
    let n = c.self.inside.slots in
    let g = c.self.inside.first_generation in
    let rows = c.self.inside.rows.items in
    rw (← c.self.view_is) (table-padded n g rows c.self.invariant.3.made c.self.invariant.3.few c.self.invariant.0).distinct
