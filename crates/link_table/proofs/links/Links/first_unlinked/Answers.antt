use Rattle.std.proofs.Common.{ap, not, sym, ◌∙◌, is_some}
use Rattle.std.specs.List.{find}
use Rattle.link_table.specs.Linked.{Linked, first_unlinked}
use Rattle.link_table.specs.Tenancy.{tenants_shown}
use Rattle.link_table.proofs.TenantRepos.{links-there}
use Rattle.link_table.proofs.Tables.{owned_at}
use Rattle.link_table.proofs.links.Links.first_unlinked.Goals as goal

pub returns : goal.returns
returns c =
    let tenants = tenants_shown c.self.inside.tenants.items in
    let at = owned_at tenants c.self.inside.repos.items c.self.invariant.1 c.args.tenant (rw (← c.self.view_is) at c.requires.there) c.index.result.now c.index.ensures in
    let there = links-there tenants c.self.inside.repos.items c.self.invariant.1 c.args.tenant c.index.result.now at c.args.repo.now (rw (← c.self.view_is) at c.requires.own) in
    c.first_unlinked.ensures ∙ (λ i. find (λ d. not (is_some (sym (there d) i))) c.args.digests.now)
    ∙ ap (λ (l : Linked). first_unlinked l.links c.args.repo.now c.args.digests.now) c.self.view_is
