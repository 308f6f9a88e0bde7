use Rattle.std.proofs.Common.{◌∙◌, refl, sym}
use Rattle.lease_table.proofs.Tables.{get-tree, insert-tree}
use Rattle.lease_table.proofs.table.keep_under.Goals as goal

pub returns-in-Ok-None : goal.returns-in-Ok-None
returns-in-Ok-None g c = record {
  lease = c.args.lease;
  given = refl;
  positive = c.requires.positive;
  free = sym (get-tree c.args.leases.now c.args.number) ∙ c.requires.free;
  kept = insert-tree c.args.leases.now c.insert.new.self c.args.number c.args.lease c.in-Ok-None.ensures.updates;
}
