use Rattle.std.proofs.Common.{ap, sym, nat_lt, ◌∙◌}
use Rattle.std.specs.FinMap.{contains_key}
use Rattle.link_table.specs.Linked.{Linked, blobs_of}
use Rattle.link_table.specs.TenantRepos.{links_shown}
use Rattle.link_table.specs.Tenancy.{tenants_shown}
use Rattle.link_table.proofs.HolderCounts.{holders_at, held-counted}
use Rattle.link_table.proofs.Soundness.{contains-blob}
use Rattle.link_table.proofs.links.Links.tenant_holds.Goals as goal

pub returns : goal.returns
returns c =
    let tenants = tenants_shown c.self.inside.tenants.items in
    let links = links_shown c.self.inside.repos.items in
    let there = holders_at tenants links c.self.inside.holders.items c.self.invariant.2 c.args.tenant (rw (← c.self.view_is) at c.requires) c.index.result.now c.index.ensures in
    ap (nat_lt 0) c.holders_of.ensures
    ∙ held-counted tenants links c.self.inside.holders.items c.self.invariant.2 c.args.tenant c.index.result.now there c.args.digest.now
    ∙ sym (contains-blob tenants c.args.tenant c.args.digest.now links)
    ∙ ap (λ (l : Linked). contains_key (blobs_of l c.args.tenant) c.args.digest.now) c.self.view_is
