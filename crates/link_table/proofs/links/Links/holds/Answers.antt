use Rattle.std.proofs.Common.{ap, sym, ◌∙◌, is_some}
use Rattle.std.specs.FinMap.{contains_key}
use Rattle.link_table.specs.Linked.{Linked}
use Rattle.link_table.specs.Tenancy.{tenants_shown}
use Rattle.link_table.proofs.TenantRepos.{links-there}
use Rattle.link_table.proofs.Tables.{owned_at}
use Rattle.link_table.proofs.links.Links.holds.Goals as goal

pub returns : goal.returns
returns c =
    let tenants = tenants_shown c.self.inside.tenants.items in
    let at = owned_at tenants c.self.inside.repos.items c.self.invariant.1 c.args.tenant (rw (← c.self.view_is) at c.requires.there) c.index.result.now c.index.ensures in
    let there = links-there tenants c.self.inside.repos.items c.self.invariant.1 c.args.tenant c.index.result.now at c.args.repo.now (rw (← c.self.view_is) at c.requires.own) c.args.digest.now in
    c.holds.ensures ∙ ap is_some (sym there) ∙ ap (λ (l : Linked). contains_key l.links (c.args.repo.now, c.args.digest.now)) c.self.view_is
