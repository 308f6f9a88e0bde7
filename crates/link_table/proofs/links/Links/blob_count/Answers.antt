use Rattle.std.proofs.Common.{◌≡◌, ap, ◌∙◌}
use Rattle.std.specs.FinMap.{len}
use Rattle.blob_digest.specs.Tenants.{is_repo_of_tenant}
use Rattle.link_table.specs.Linked.{Linked, blobs, blobs_of}
use Rattle.link_table.specs.TenantRepos.{links_shown}
use Rattle.link_table.specs.Tenancy.{tenants_shown}
use Rattle.link_table.proofs.HolderCounts.{holders_at}
use Rattle.link_table.proofs.Shares.{len-counts}
use Rattle.link_table.proofs.links.Links.blob_count.Goals as goal

pub returns : goal.returns
returns c =
    let tenants = tenants_shown c.self.inside.tenants.items in
    let links = links_shown c.self.inside.repos.items in
    let there = holders_at tenants links c.self.inside.holders.items c.self.invariant.2 c.args.tenant (rw (← c.self.view_is) at c.requires) c.index.result.now c.index.ensures in
    let count : c.digest_count.result ≡ len (blobs (is_repo_of_tenant tenants c.args.tenant) links) =
    c.digest_count.ensures.count ∙ len-counts tenants links c.self.inside.holders.items c.self.invariant.2 c.args.tenant c.index.result.now there c.digest_count.ensures.no_zero in
    count ∙ ap (λ (l : Linked). len (blobs_of l c.args.tenant)) c.self.view_is
