use Rattle.link_table.proofs.Groups.{group_of, written}
use Rattle.link_table.proofs.ManifestTableRows.{none_same, put_there}
use Rattle.link_table.proofs.manifest_table.ManifestTable.put.Goals as goal

pub put_first-requires : goal.put_first-requires
put_first-requires c d = none_same c.self.inside.rows c.get_mut.follows.lender-at-none c.args.repo.now d c.in-None.ensures.value c.get_mut.follows.holds-at-none

pub returns-in-Some : goal.returns-in-Some
returns-in-Some c =
    let rows = c.self.inside.rows in
    let r = c.args.repo.now in
    let m = c.in-Some.group.now in
    rw (← c.self.view_is) (put_there rows r c.args.limit (c.get_mut.follows.lender c.put.new.self) m c.put.new.self c.args.manifest.value c.put.result (group_of rows r m c.in-Some.ensures.value)
    (written rows r (c.get_mut.follows.lender c.put.new.self) m c.put.new.self c.in-Some.ensures.value (c.get_mut.follows.holds c.put.new.self).3) c.put.ensures)
