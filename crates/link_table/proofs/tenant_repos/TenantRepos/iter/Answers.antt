use Rattle.std.proofs.Common.{ap, sym, ◌∙◌}
use Rattle.spec_lib.specs.Sets as set
use Rattle.link_table.specs.TenantRepos.{OwnRepos}
use Rattle.link_table.proofs.TenantRepoRows.{items-rows}
use Rattle.link_table.proofs.tenant_repos.TenantRepos.iter.Goals as goal

pub returns : goal.returns
returns c = c.keys.ensures.rest ∙ sym (items-rows c.self.inside.repos c.keys.ensures.ordered) ∙ ap (λ (s : OwnRepos). set.items s.repos) c.self.view_is
