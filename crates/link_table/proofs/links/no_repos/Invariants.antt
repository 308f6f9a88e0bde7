use Rattle.std.proofs.Common.{◌≡◌, replicate}
use Rattle.link_table.specs.TenantRepos.{empty_tenant}
use Rattle.link_table.proofs.links.no_repos.Given as goal

abbrev pub invariant-loop : goal.invariant-loop
invariant-loop l = l.repos.items ≡ replicate l.counter empty_tenant
