use Rattle.std.proofs.Common.{ap, ◌∙◌, is_some}
use Rattle.std.specs.FinMap.{contains_key}
use Rattle.link_table.specs.TenantRepos.{OwnRepos}
use Rattle.link_table.proofs.Groups.{group_of, get_there, get_none}
use Rattle.link_table.proofs.tenant_repos.TenantRepos.holds.Goals as goal

pub returns-in-Some : goal.returns-in-Some
returns-in-Some c =
    let rows = c.self.inside.repos in
    let r = c.args.repo.now in
    c.contains.ensures ∙ ap is_some (get_there rows r c.in-Some.blobs.now c.args.digest.now (group_of rows r c.in-Some.blobs.now c.in-Some.ensures.value))
    ∙ ap (λ (s : OwnRepos). contains_key s.links (r, c.args.digest.now)) c.self.view_is

pub returns-in-None : goal.returns-in-None
returns-in-None c =
    ap is_some (get_none c.self.inside.repos c.args.repo.now c.args.digest.now c.in-None.ensures.value)
    ∙ ap (λ (s : OwnRepos). contains_key s.links (c.args.repo.now, c.args.digest.now)) c.self.view_is
