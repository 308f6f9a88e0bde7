use Rattle.link_table.proofs.Groups.{bare, forgotten}
use Rattle.link_table.proofs.TenantRepoRows.{repos-remove}
use Rattle.link_table.proofs.tenant_repos.TenantRepos.vanish.Goals as goal

pub returns : goal.returns
returns c =
    let rows = c.self.inside.repos in
    let r = c.args.repo.now in
    let repos = repos-remove rows c.remove.new.self r c.remove.ensures.updates.0 in
    let links = forgotten rows r c.remove.new.self (bare rows r (rw (← c.self.view_is) at c.requires.unlinked)) c.remove.ensures.updates.0 in
    rw (← c.self.view_is) (λ j. record { repos = repos j; links = links j })
