use Rattle.std.proofs.Common.{sym}
use Rattle.slot_table.proofs.Padding.{length-padded, table-padded}
use Rattle.slot_table.proofs.table.SlotTable.len.Goals as goal

pub returns-clause-value : goal.returns-clause-value
returns-clause-value c =
    let n = c.self.inside.slots in
    let g = c.self.inside.first_generation in
    let rows = c.self.inside.rows.items in
    rw (← c.self.view_is) (sym (length-padded n g rows c.self.invariant.3.made))

pub returns-clause-few : goal.returns-clause-few
returns-clause-few c =
    let n = c.self.inside.slots in
    let g = c.self.inside.first_generation in
    let rows = c.self.inside.rows.items in
    rw (← c.self.view_is) (table-padded n g rows c.self.invariant.3.made c.self.invariant.3.few c.self.invariant.0).few

pub returns-clause-distinct : goal.returns-clause-distinct
returns-clause-distinct c =
    let n = c.self.inside.slots in
    let g = c.self.inside.first_generation in
    let rows = c.self.inside.rows.items in
    rw (← c.self.view_is) (table-padded n g rows c.self.invariant.3.made c.self.invariant.3.few c.self.invariant.0).distinct

pub returns-clause-unlinked : goal.returns-clause-unlinked
returns-clause-unlinked c =
    let n = c.self.inside.slots in
    let g = c.self.inside.first_generation in
    let rows = c.self.inside.rows.items in
    rw (← c.self.view_is) (table-padded n g rows c.self.invariant.3.made c.self.invariant.3.few c.self.invariant.0).unlinked
