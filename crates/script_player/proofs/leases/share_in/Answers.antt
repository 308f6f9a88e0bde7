use Rattle.std.proofs.Common.{◌≡◌, None, rules, sym}
use Rattle.std.specs.FinMap as fmap
use Rattle.script_player.specs.LeaseTables.{leases_in}
use Rattle.script_player.proofs.LeaseTables.{shared_err, shared_ok}
use Rattle.script_player.proofs.leases.share_in.Goals as goal

pub returns-in-Ok-clause-shares : goal.returns-in-Ok-clause-shares
returns-in-Ok-clause-shares g c =
    let free : fmap.get (leases_in g.B.Backend.lent c.args.table.now) c.args.second ≡ None = search rules in
    shared_ok (leases_in g.B.Backend.lent c.args.table.now) (leases_in g.B.Backend.lent c.reserve.new.table) (leases_in g.B.Backend.lent c.exchange.new.table) (leases_in g.B.Backend.lent c.exchange-in-Ok.new.table) (leases_in g.B.Backend.lent c.exchange-in-Ok-2.new.table)
    c.args.name c.args.second (g.B.Backend.lent c.in-Some.held) (g.B.Backend.lent c.in-Ok.one) (g.B.Backend.lent c.in-Ok.other)
    c.in_ok-reserve.ensures.same c.exchange.ensures.puts c.exchange-in-Ok.ensures.puts c.exchange-in-Ok-2.ensures.puts (sym c.in-Some.ensures.was) free c.in-Ok.ensures.0 c.in-Ok.ensures.1 c.in-Ok.ensures.2

pub returns-in-Err-clause-shares : goal.returns-in-Err-clause-shares
returns-in-Err-clause-shares g c =
    let free : fmap.get (leases_in g.B.Backend.lent c.args.table.now) c.args.second ≡ None = search rules in
    shared_err (leases_in g.B.Backend.lent c.args.table.now) (leases_in g.B.Backend.lent c.reserve.new.table) (leases_in g.B.Backend.lent c.exchange.new.table) (leases_in g.B.Backend.lent c.exchange-in-Err.new.table) (leases_in g.B.Backend.lent c.take.new.table)
    c.args.name c.args.second (g.B.Backend.lent c.in-Some.held) (g.B.Backend.lent c.in-Err.held) c.in-Err.refusal
    c.in_ok-reserve.ensures.same c.exchange.ensures.puts c.exchange-in-Err.ensures.puts c.take.ensures.takes (sym c.in-Some.ensures.was) free c.in-Err.ensures.0 c.in-Err.ensures.1
