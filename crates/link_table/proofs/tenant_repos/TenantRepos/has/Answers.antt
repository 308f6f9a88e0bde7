use Rattle.std.proofs.Common.{ap, sym, ◌∙◌}
use Rattle.spec_lib.specs.Sets as set
use Rattle.link_table.specs.TenantRepos.{OwnRepos}
use Rattle.link_table.proofs.TenantRepoRows.{contains-rows}
use Rattle.link_table.proofs.tenant_repos.TenantRepos.has.Goals as goal

pub returns : goal.returns
returns c = c.contains_key.ensures ∙ sym (contains-rows c.self.inside.repos c.args.repo.now) ∙ ap (λ (s : OwnRepos). set.contains s.repos c.args.repo.now) c.self.view_is
