use Rattle.std.proofs.Common.{◌≡◌, ◌∙◌, Some, None, ap, rules, sym}
use Rattle.std.specs.BTreeMap as tree
use Rattle.script_player.specs.Leases.{name_cmp}
use Rattle.script_player.proofs.LeaseTables.{get-leases_in, held_of}
use Rattle.script_player.proofs.leases.find_lease.Goals as goal

pub returns-in-Some-Some-clause-lease : goal.returns-in-Some-Some-clause-lease
returns-in-Some-Some-clause-lease g c =
    let got : tree.get name_cmp c.args.table.now c.args.name ≡ Some (Some c.in-Some-Some.held) = search rules in
    sym (get-leases_in g.B.Backend.lent c.args.table.now c.args.name c.requires.ordered ∙ ap (held_of g.B.Backend.lent) got)

pub returns-in-Some-None-clause-lease : goal.returns-in-Some-None-clause-lease
returns-in-Some-None-clause-lease g c =
    let got : tree.get name_cmp c.args.table.now c.args.name ≡ Some None = search rules in
    sym (get-leases_in g.B.Backend.lent c.args.table.now c.args.name c.requires.ordered ∙ ap (held_of g.B.Backend.lent) got)

pub returns-in-None-clause-lease : goal.returns-in-None-clause-lease
returns-in-None-clause-lease g c =
    let got : tree.get name_cmp c.args.table.now c.args.name ≡ None = search rules in
    sym (get-leases_in g.B.Backend.lent c.args.table.now c.args.name c.requires.ordered ∙ ap (held_of g.B.Backend.lent) got)
