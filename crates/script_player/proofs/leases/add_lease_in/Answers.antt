use Rattle.std.proofs.Common.{ap, inr, ◌∙◌}
use Rattle.std.specs.FinMap as fmap
use Rattle.script_player.specs.Leases.{Leases}
use Rattle.script_player.specs.LeaseTables.{leases_in}
use Rattle.script_player.proofs.LeaseTables.{remove_free}
use Rattle.script_player.proofs.leases.add_lease_in.Goals as goal

-- the room that was made is removed
pub returns-in-Err-clause-lends : goal.returns-in-Err-clause-lends
returns-in-Err-clause-lends g c = (
  c.take.ensures.takes ∙ ap (λ (m : Leases). fmap.remove m c.args.name) c.in_ok-reserve.ensures.same ∙ remove_free (leases_in g.B.Backend.lent c.args.table.now) c.args.name c.requires.free,
  inr c.in-Err.ensures,
)
