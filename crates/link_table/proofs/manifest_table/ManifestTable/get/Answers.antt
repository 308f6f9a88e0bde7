use Rattle.std.proofs.Common.{ap, ◌∙◌}
use Rattle.std.specs.FinMap.{get}
use Rattle.link_table.specs.ManifestTable.{ManifestBytes}
use Rattle.link_table.proofs.Groups.{group_of, get_there, get_none}
use Rattle.link_table.proofs.manifest_table.ManifestTable.get.Goals as goal

pub returns-in-Some : goal.returns-in-Some
returns-in-Some c =
    let rows = c.self.inside.rows in
    let r = c.args.repo.now in
    c.get-in-Some.ensures ∙ get_there rows r c.in-Some.group.now c.args.digest.now (group_of rows r c.in-Some.group.now c.in-Some.ensures.value)
    ∙ ap (λ (m : ManifestBytes). get m (r, c.args.digest.now)) c.self.view_is

pub returns-in-None : goal.returns-in-None
returns-in-None c = get_none c.self.inside.rows c.args.repo.now c.args.digest.now c.in-None.ensures.value ∙ ap (λ (m : ManifestBytes). get m (c.args.repo.now, c.args.digest.now)) c.self.view_is
