use Rattle.std.proofs.Common.{ap, sym, ◌∙◌}
use Rattle.link_table.specs.TenantRepos.{repo_count}
use Rattle.link_table.proofs.TenantRepoRows.{repo_count-rows}
use Rattle.link_table.proofs.tenant_repos.TenantRepos.count.Goals as goal

pub returns : goal.returns
returns c = c.len.ensures.len ∙ sym (repo_count-rows c.self.inside.repos c.len.ensures.ordered) ∙ ap repo_count c.self.view_is
