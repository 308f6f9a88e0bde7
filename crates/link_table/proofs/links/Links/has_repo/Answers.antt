use Rattle.std.proofs.Common.{ap, sym, ◌∙◌, is_some}
use Rattle.spec_lib.specs.Sets as set
use Rattle.link_table.specs.Linked.{Linked}
use Rattle.link_table.specs.Tenancy.{tenants_shown}
use Rattle.link_table.proofs.TenantRepos.{repos-there}
use Rattle.link_table.proofs.Tables.{owned_at}
use Rattle.link_table.proofs.links.Links.has_repo.Goals as goal

pub returns : goal.returns
returns c =
    let tenants = tenants_shown c.self.inside.tenants.items in
    let at = owned_at tenants c.self.inside.repos.items c.self.invariant.1 c.args.tenant (rw (← c.self.view_is) at c.requires.there) c.index.result.now c.index.ensures in
    let there = repos-there tenants c.self.inside.repos.items c.self.invariant.1 c.args.tenant c.index.result.now at c.args.repo.now (rw (← c.self.view_is) at c.requires.own) in
    c.has.ensures ∙ ap is_some (sym there) ∙ ap (λ (l : Linked). set.contains l.repos c.args.repo.now) c.self.view_is
