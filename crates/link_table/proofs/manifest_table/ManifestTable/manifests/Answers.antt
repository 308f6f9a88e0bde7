use Rattle.std.proofs.Common.{ap, ◌∙◌}
use Rattle.link_table.specs.ManifestTable.{ManifestBytes, manifests_on}
use Rattle.link_table.proofs.Groups.{group_of, entries_there, entries_none}
use Rattle.link_table.proofs.manifest_table.ManifestTable.manifests.Goals as goal

pub returns-in-Some : goal.returns-in-Some
returns-in-Some c =
    let rows = c.self.inside.rows in
    let r = c.args.repo.now in
    c.iter.ensures ∙ entries_there rows r c.in-Some.group.now (group_of rows r c.in-Some.group.now c.in-Some.ensures.value)
    ∙ ap (λ (m : ManifestBytes). manifests_on m r) c.self.view_is

pub returns-in-None : goal.returns-in-None
returns-in-None c = entries_none c.self.inside.rows c.args.repo.now c.in-None.ensures.value ∙ ap (λ (m : ManifestBytes). manifests_on m c.args.repo.now) c.self.view_is
