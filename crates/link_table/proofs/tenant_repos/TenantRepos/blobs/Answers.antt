use Rattle.std.proofs.Common.{ap, ◌∙◌}
use Rattle.link_table.specs.TenantRepos.{OwnRepos, blobs_on}
use Rattle.link_table.proofs.Groups.{group_of, entries_there, entries_none}
use Rattle.link_table.proofs.tenant_repos.TenantRepos.blobs.Goals as goal

pub returns-in-Some : goal.returns-in-Some
returns-in-Some c =
    let rows = c.self.inside.repos in
    let r = c.args.repo.now in
    c.iter.ensures ∙ entries_there rows r c.in-Some.blobs.now (group_of rows r c.in-Some.blobs.now c.in-Some.ensures.value)
    ∙ ap (λ (s : OwnRepos). blobs_on s r) c.self.view_is

pub returns-in-None : goal.returns-in-None
returns-in-None c = entries_none c.self.inside.repos c.args.repo.now c.in-None.ensures.value ∙ ap (λ (s : OwnRepos). blobs_on s c.args.repo.now) c.self.view_is
