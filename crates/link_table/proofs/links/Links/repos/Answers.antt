use Rattle.std.proofs.Common.{ap, sym, ◌∙◌}
use Rattle.link_table.specs.Linked.{Linked, repos_of}
use Rattle.link_table.specs.Tenancy.{tenants_shown}
use Rattle.link_table.proofs.TenantRepos.{items-there}
use Rattle.link_table.proofs.Tables.{owned_at}
use Rattle.link_table.proofs.links.Links.repos.Goals as goal

pub returns : goal.returns
returns c =
    let tenants = tenants_shown c.self.inside.tenants.items in
    let at = owned_at tenants c.self.inside.repos.items c.self.invariant.1 c.args.tenant (rw (← c.self.view_is) at c.requires) c.index.result.now c.index.ensures in
    c.iter.ensures ∙ sym (items-there tenants c.self.inside.repos.items c.self.invariant.1 c.args.tenant c.index.result.now at)
    ∙ ap (λ (l : Linked). repos_of l c.args.tenant) c.self.view_is
