use Rattle.std.proofs.Common.{◌∙◌, sym}
use Rattle.std.specs.FinMap as fmap
use Rattle.script_player.specs.Leases.{Leases}
use Rattle.script_player.specs.LeaseTables.{leases_in}
use Rattle.script_player.proofs.LeaseTables.{put_back}
use Rattle.script_player.proofs.leases.verify_in.Goals as goal

pub returns-clause-same : goal.returns-clause-same
returns-clause-same g c =
    let lent = g.B.Backend.lent in
    let before : Leases = leases_in lent c.args.table.now in
    c.exchange-2.ensures.puts
    ∙ (λ i. fmap.insert (c.exchange.ensures.puts i) c.args.name (c.verify-held.ensures.same i))
    ∙ put_back before c.args.name (lent c.in-Some.held) (sym c.in-Some.ensures.was)
