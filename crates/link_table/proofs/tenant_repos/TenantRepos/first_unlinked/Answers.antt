use Rattle.std.proofs.Common.{ap, not, sym, ◌∙◌, is_some}
use Rattle.std.specs.List.{find}
use Rattle.link_table.specs.Linked.{first_unlinked}
use Rattle.link_table.specs.TenantRepos.{OwnRepos}
use Rattle.link_table.specs.Rows.{own_repos_shown}
use Rattle.link_table.proofs.Groups.{group_of, get_there, get_none}
use Rattle.link_table.proofs.TenantRepoRows.{first_of_none}
use Rattle.link_table.proofs.tenant_repos.TenantRepos.first_unlinked.Goals as goal

pub returns-in-Some : goal.returns-in-Some
returns-in-Some c =
    let rows = c.self.inside.repos in
    let r = c.args.repo.now in
    let found = group_of rows r c.in-Some.blobs.now c.in-Some.ensures.value in
    c.first_missing.ensures ∙ (λ i. find (λ d. not (is_some (get_there rows r c.in-Some.blobs.now d found i))) c.args.digests.now)
    ∙ ap (λ (s : OwnRepos). first_unlinked s.links r c.args.digests.now) c.self.view_is

pub returns-in-None : goal.returns-in-None
returns-in-None c =
    let rows = c.self.inside.repos in
    let r = c.args.repo.now in
    c.copied.ensures ∙ c.first.ensures.value ∙ sym (first_of_none (own_repos_shown rows).links r (λ d. sym (get_none rows r d c.in-None.ensures.value)) c.args.digests.now)
    ∙ ap (λ (s : OwnRepos). first_unlinked s.links r c.args.digests.now) c.self.view_is
