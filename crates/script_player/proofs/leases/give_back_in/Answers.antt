use Rattle.std.proofs.Common.{◌≡◌, None, ap, sym, ◌∙◌}
use Rattle.std.specs.FinMap as fmap
use Rattle.store_api.specs.Answers.{NoLease}
use Rattle.script_player.specs.Leases.{Leases}
use Rattle.script_player.specs.LeaseTables.{leases_in}
use Rattle.script_player.proofs.LeaseTables.{remove_free}
use Rattle.script_player.proofs.leases.give_back_in.Goals as goal

pub returns-in-None-clause-returns : goal.returns-in-None-clause-returns
returns-in-None-clause-returns g c =
    let leases : Leases = leases_in g.B.Backend.lent c.args.table.now in
    let free : fmap.get leases c.args.name ≡ None = sym c.in-None.ensures.was in
    rw free (ap (λ (m : Leases). (NoLease, m)) (c.take.ensures.takes ∙ remove_free leases c.args.name free))
