use Rattle.std.proofs.Common.{ap, rules, Some, ◌∙◌}
use Rattle.std.specs.BTreeMap as tree
use Rattle.std.specs.Option.{option_map}
use Rattle.script_player.specs.Leases.{name_cmp}
use Rattle.script_player.specs.LeaseTables.{leases_in, with_lease}
use Rattle.script_player.proofs.LeaseTables.{held_at, put_any}
use Rattle.script_player.proofs.leases.exchange.Goals as goal

pub returns-clause-was : goal.returns-clause-was
returns-clause-was g c =
    let lent = g.B.Backend.lent in
    ap (option_map lent) c.replace.ensures.value ∙ held_at lent c.args.table.now c.args.name c.get_mut.ensures.ordered (Some c.in-Some.row.now) c.in-Some.ensures.value

pub returns-clause-puts : goal.returns-clause-puts
returns-clause-puts g c =
    let lent = g.B.Backend.lent in
    let put = c.replace.new.dest in
    let table = c.get_mut.follows.lender put in
    let ordered : tree.IsOrdered name_cmp table = search rules in
    put_any lent c.args.table.now table c.args.name c.get_mut.ensures.ordered ordered put ((c.get_mut.follows.holds put).3 c.requires.there)
    ∙ ap (λ room. with_lease (leases_in lent c.args.table.now) c.args.name (option_map lent room)) c.replace.ensures.after
