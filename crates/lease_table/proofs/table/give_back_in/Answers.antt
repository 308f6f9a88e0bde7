use Rattle.std.proofs.Common.{◌∙◌, sym}
use Rattle.lease_table.proofs.Tables.{get-tree, remove-tree, same-tree}
use Rattle.lease_table.proofs.table.give_back_in.Goals as goal

pub returns-in-Some : goal.returns-in-Some
returns-in-Some g c = record {
  lease = c.in-Some.lease;
  out = sym (get-tree c.args.leases.now c.args.number) ∙ sym c.in-Some.ensures.value;
  gone = remove-tree c.args.leases.now c.remove.new.self c.args.number c.remove.ensures.updates;
}

pub returns-in-None : goal.returns-in-None
returns-in-None g c = (
  sym (get-tree c.args.leases.now c.args.number) ∙ sym c.in-None.ensures.value,
  same-tree c.args.leases.now c.remove.new.self c.in-None.ensures.unchanged,
)
