use Rattle.std.proofs.Common.{ap, ◌∙◌}
use Rattle.link_table.specs.ManifestTable.{ManifestBytes, referrer_on}
use Rattle.link_table.proofs.Groups.{group_of}
use Rattle.link_table.proofs.ManifestTableRows.{referrer_there, referrer_none}
use Rattle.link_table.proofs.manifest_table.ManifestTable.referrer.Goals as goal

pub returns-in-Some : goal.returns-in-Some
returns-in-Some c =
    let rows = c.self.inside.rows in
    let r = c.args.repo.now in
    c.referrer.ensures ∙ referrer_there rows r c.in-Some.group.now c.args.digest.now (group_of rows r c.in-Some.group.now c.in-Some.ensures.value)
    ∙ ap (λ (m : ManifestBytes). referrer_on m r c.args.digest.now) c.self.view_is

pub returns-in-None : goal.returns-in-None
returns-in-None c = referrer_none c.self.inside.rows c.args.repo.now c.args.digest.now c.in-None.ensures.value ∙ ap (λ (m : ManifestBytes). referrer_on m c.args.repo.now c.args.digest.now) c.self.view_is
