use Rattle.std.proofs.Common.{◌∙◌, ap, sym, set, is_some}
use Rattle.std.specs.FinMap.{remove, contains_key}
use Rattle.blob_digest.proofs.KeyOrders.{link_cmp_total, exact_link}
use Rattle.spec_lib.proofs.Parts.{remove_absent}
use Rattle.link_table.specs.Linked.{Linked}
use Rattle.link_table.specs.TenantRepos.{OwnRepos, links_shown}
use Rattle.link_table.specs.Tenancy.{tenants_shown}
use Rattle.link_table.proofs.HolderCounts.{holders_at, held-counted, slice_get-set_same, some_counted, Counts-remove}
use Rattle.link_table.proofs.TenantRepos.{links-there, links-remove, repos-same}
use Rattle.link_table.proofs.Soundness.{contains-blob, light_enough, KeepsUsage-unlink}
use Rattle.link_table.proofs.Tables.{owned_at, IsOwned-unlink}
use Rattle.link_table.proofs.links.Links.unlink.Goals as goal

pub decrement-held-requires : goal.decrement-held-requires
decrement-held-requires c =
    let tenants = tenants_shown c.self.inside.tenants.items in
    let by_tenant = c.self.inside.repos.items in
    let lt = rw (← c.self.view_is) at c.requires.there in
    let own = rw (← c.self.view_is) at c.requires.own in
    let s = c.index_mut.result.now in
    let at = owned_at tenants by_tenant c.self.invariant.1 c.args.tenant lt s c.index_mut.ensures.value in
    let there = links-there tenants by_tenant c.self.invariant.1 c.args.tenant s at c.args.repo.now own c.args.digest.now ∙ sym c.in-Some.ensures.value in
    let counted = holders_at tenants (links_shown by_tenant) c.self.inside.holders.items c.self.invariant.2 c.args.tenant lt c.index_mut-in-Some.result.now c.index_mut-in-Some.ensures.value in
    some_counted tenants (links_shown by_tenant) c.self.inside.holders.items c.self.invariant.2 c.args.tenant c.index_mut-in-Some.result.now counted c.index_mut-in-Some.result.now c.args.repo.now c.args.digest.now c.in-Some.size own there

pub bytes_without-requires : goal.bytes_without-requires
bytes_without-requires c =
    let tenants = tenants_shown c.self.inside.tenants.items in
    let by_tenant = c.self.inside.repos.items in
    let lt = rw (← c.self.view_is) at c.requires.there in
    let own = rw (← c.self.view_is) at c.requires.own in
    let s = c.index_mut.result.now in
    let at = owned_at tenants by_tenant c.self.invariant.1 c.args.tenant lt s c.index_mut.ensures.value in
    let there = links-there tenants by_tenant c.self.invariant.1 c.args.tenant s at c.args.repo.now own c.args.digest.now ∙ sym c.in-Some.ensures.value in
    let without = remove (links_shown by_tenant) (c.args.repo.now, c.args.digest.now) in
    let before = holders_at tenants (links_shown by_tenant) c.self.inside.holders.items c.self.invariant.2 c.args.tenant lt c.index_mut-in-Some.result.now c.index_mut-in-Some.ensures.value in
    let counts = Counts-remove tenants (links_shown by_tenant) c.self.inside.holders.items c.self.invariant.2 c.args.tenant c.index_mut-in-Some.result.now before c.decrement-held.new.holders c.args.repo.now c.args.digest.now c.in-Some.size own there c.decrement-held.ensures.count in
    let holders = set c.self.inside.holders.items c.args.tenant c.decrement-held.new.holders in
    let after = slice_get-set_same c.self.inside.holders.items c.args.tenant c.index_mut-in-Some.result.now c.decrement-held.new.holders before in
    let held = c.decrement-held.ensures.held ∙ held-counted tenants without holders counts c.args.tenant c.decrement-held.new.holders after c.args.digest.now ∙ sym (contains-blob tenants c.args.tenant c.args.digest.now without) in
    light_enough tenants (links_shown by_tenant) c.self.inside.blob_bytes.items c.self.inside.charges.items c.self.invariant.0 c.args.tenant lt c.args.repo.now c.args.digest.now c.in-Some.size own there c.decrement-held.result held c.index.result.now c.index.ensures

pub invariant_of-self : goal.invariant_of-self
invariant_of-self c =
    let tenants = tenants_shown c.self.inside.tenants.items in
    let by_tenant = c.self.inside.repos.items in
    let lt = rw (← c.self.view_is) at c.requires.there in
    let own = rw (← c.self.view_is) at c.requires.own in
    let s = c.index_mut.result.now in
    let at = owned_at tenants by_tenant c.self.invariant.1 c.args.tenant lt s c.index_mut.ensures.value in
    let there = links-there tenants by_tenant c.self.invariant.1 c.args.tenant s at c.args.repo.now own c.args.digest.now ∙ sym c.in-Some.ensures.value in
    let without = remove (links_shown by_tenant) (c.args.repo.now, c.args.digest.now) in
    let before = holders_at tenants (links_shown by_tenant) c.self.inside.holders.items c.self.invariant.2 c.args.tenant lt c.index_mut-in-Some.result.now c.index_mut-in-Some.ensures.value in
    let counts = Counts-remove tenants (links_shown by_tenant) c.self.inside.holders.items c.self.invariant.2 c.args.tenant c.index_mut-in-Some.result.now before c.decrement-held.new.holders c.args.repo.now c.args.digest.now c.in-Some.size own there c.decrement-held.ensures.count in
    let holders = set c.self.inside.holders.items c.args.tenant c.decrement-held.new.holders in
    let after = slice_get-set_same c.self.inside.holders.items c.args.tenant c.index_mut-in-Some.result.now c.decrement-held.new.holders before in
    let held = c.decrement-held.ensures.held ∙ held-counted tenants without holders counts c.args.tenant c.decrement-held.new.holders after c.args.digest.now ∙ sym (contains-blob tenants c.args.tenant c.args.digest.now without) in
    let links = links-remove tenants by_tenant c.self.invariant.1 c.args.tenant s at c.args.repo.now own c.args.digest.now c.unlink.new.self (ap (λ (x : OwnRepos). x.links) c.in-Some.ensures.gone) in (
      rw links (KeepsUsage-unlink tenants (links_shown by_tenant) c.self.inside.blob_bytes.items c.self.inside.charges.items c.self.invariant.0 c.args.tenant lt c.args.repo.now c.args.digest.now c.in-Some.size own there c.decrement-held.result held
          c.index.result.now c.index.ensures c.bytes_without.result c.bytes_without.ensures),
      IsOwned-unlink tenants by_tenant c.self.invariant.1 c.self.inside.manifests c.self.inside.charges.items c.args.tenant s at c.args.repo.now own c.unlink.new.self c.args.digest.now c.in-Some.ensures.gone,
      rw links counts,
      c.self.invariant.3,
    )

-- the link wasn't there
pub invariant_of-self-in-None : goal.invariant_of-self-in-None
invariant_of-self-in-None c =
    let tenants = tenants_shown c.self.inside.tenants.items in
    let by_tenant = c.self.inside.repos.items in
    let lt = rw (← c.self.view_is) at c.requires.there in
    let own = rw (← c.self.view_is) at c.requires.own in
    let s = c.index_mut.result.now in
    let at = owned_at tenants by_tenant c.self.invariant.1 c.args.tenant lt s c.index_mut.ensures.value in
    let none = links-there tenants by_tenant c.self.invariant.1 c.args.tenant s at c.args.repo.now own c.args.digest.now ∙ sym c.in-None.ensures.value in
    let links = links-remove tenants by_tenant c.self.invariant.1 c.args.tenant s at c.args.repo.now own c.args.digest.now c.unlink.new.self (ap (λ (x : OwnRepos). x.links) c.in-None.ensures.gone)
    ∙ remove_absent link_cmp_total exact_link (links_shown by_tenant) (c.args.repo.now, c.args.digest.now) none in (
      rw links c.self.invariant.0,
      IsOwned-unlink tenants by_tenant c.self.invariant.1 c.self.inside.manifests c.self.inside.charges.items c.args.tenant s at c.args.repo.now own c.unlink.new.self c.args.digest.now c.in-None.ensures.gone,
      rw links c.self.invariant.2,
      c.self.invariant.3,
    )

pub returns-in-Some-clause-was : goal.returns-in-Some-clause-was
returns-in-Some-clause-was c =
    let tenants = tenants_shown c.self.inside.tenants.items in
    let by_tenant = c.self.inside.repos.items in
    let own = rw (← c.self.view_is) at c.requires.own in
    let s = c.index_mut.result.now in
    let at = owned_at tenants by_tenant c.self.invariant.1 c.args.tenant (rw (← c.self.view_is) at c.requires.there) s c.index_mut.ensures.value in
    let there = links-there tenants by_tenant c.self.invariant.1 c.args.tenant s at c.args.repo.now own c.args.digest.now ∙ sym c.in-Some.ensures.value in
    sym (ap is_some there) ∙ ap (λ (l : Linked). contains_key l.links (c.args.repo.now, c.args.digest.now)) c.self.view_is

pub returns-in-None-clause-was : goal.returns-in-None-clause-was
returns-in-None-clause-was c =
    let tenants = tenants_shown c.self.inside.tenants.items in
    let by_tenant = c.self.inside.repos.items in
    let own = rw (← c.self.view_is) at c.requires.own in
    let s = c.index_mut.result.now in
    let at = owned_at tenants by_tenant c.self.invariant.1 c.args.tenant (rw (← c.self.view_is) at c.requires.there) s c.index_mut.ensures.value in
    let none = links-there tenants by_tenant c.self.invariant.1 c.args.tenant s at c.args.repo.now own c.args.digest.now ∙ sym c.in-None.ensures.value in
    sym (ap is_some none) ∙ ap (λ (l : Linked). contains_key l.links (c.args.repo.now, c.args.digest.now)) c.self.view_is

pub returns-in-Some-clause-gone : goal.returns-in-Some-clause-gone
returns-in-Some-clause-gone c =
    let tenants = tenants_shown c.self.inside.tenants.items in
    let by_tenant = c.self.inside.repos.items in
    let own = rw (← c.self.view_is) at c.requires.own in
    let s = c.index_mut.result.now in
    let at = owned_at tenants by_tenant c.self.invariant.1 c.args.tenant (rw (← c.self.view_is) at c.requires.there) s c.index_mut.ensures.value in
    let links = links-remove tenants by_tenant c.self.invariant.1 c.args.tenant s at c.args.repo.now own c.args.digest.now c.unlink.new.self (ap (λ (x : OwnRepos). x.links) c.in-Some.ensures.gone) in
    let repos = repos-same tenants by_tenant c.self.invariant.1 c.args.tenant s at c.unlink.new.self (ap (λ (x : OwnRepos). x.repos) c.in-Some.ensures.gone) in
    rw (← c.self.view_is) (λ i. record { tenants = tenants; repos = repos i; links = links i; manifests = c.self.inside.manifests; charges = c.self.inside.charges.items })

pub returns-in-None-clause-gone : goal.returns-in-None-clause-gone
returns-in-None-clause-gone c =
    let tenants = tenants_shown c.self.inside.tenants.items in
    let by_tenant = c.self.inside.repos.items in
    let own = rw (← c.self.view_is) at c.requires.own in
    let s = c.index_mut.result.now in
    let at = owned_at tenants by_tenant c.self.invariant.1 c.args.tenant (rw (← c.self.view_is) at c.requires.there) s c.index_mut.ensures.value in
    let links = links-remove tenants by_tenant c.self.invariant.1 c.args.tenant s at c.args.repo.now own c.args.digest.now c.unlink.new.self (ap (λ (x : OwnRepos). x.links) c.in-None.ensures.gone) in
    let repos = repos-same tenants by_tenant c.self.invariant.1 c.args.tenant s at c.unlink.new.self (ap (λ (x : OwnRepos). x.repos) c.in-None.ensures.gone) in
    rw (← c.self.view_is) (λ i. record { tenants = tenants; repos = repos i; links = links i; manifests = c.self.inside.manifests; charges = c.self.inside.charges.items })
