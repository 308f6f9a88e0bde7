use Rattle.std.proofs.Common.{ap, sym, ◌∙◌, is_some, nat_lt, true, false, Ok, set, arith}
use Rattle.std.specs.FinMap.{get}
use Rattle.spec_lib.proofs.Options.{some_value, no_value}
use Rattle.link_table.specs.TenantRepos.{OwnRepos, links_shown}
use Rattle.link_table.specs.Tenancy.{tenants_shown}
use Rattle.link_table.proofs.HolderCounts.{holders_at, count_in-most, held-counted, past_one, Counts-insert, Counts-same}
use Rattle.link_table.proofs.TenantRepos.{links-there, repos-there, links-insert, links-same, repos-same}
use Rattle.link_table.proofs.Soundness.{contains-blob, KeepsUsage-link, link_there, link_new, linked_again, was_new, was_there}
use Rattle.link_table.proofs.Tables.{owned_at, linked_of, unlinked_again, IsOwned-link, IsOwned-same}
use Rattle.link_table.proofs.links.Links.link.Goals as goal

pub link-requires : goal.link-requires
link-requires c =
    let tenants = tenants_shown c.self.inside.tenants.items in
    let by_tenant = c.self.inside.repos.items in
    let s = c.index_mut-repos.result.now in
    let at = owned_at tenants by_tenant c.self.invariant.1 c.args.tenant (rw (← c.self.view_is) at c.requires.there) s c.index_mut-repos.ensures.value in
    ap is_some (sym (repos-there tenants by_tenant c.self.invariant.1 c.args.tenant s at c.args.repo.now (rw (← c.self.view_is) at c.requires.own))) ∙ (rw (← c.self.view_is) at c.requires.known)

-- the link was there with this size
pub invariant_of-self-then-not-branch : goal.invariant_of-self-then-not-branch
invariant_of-self-then-not-branch c =
    let tenants = tenants_shown c.self.inside.tenants.items in
    let by_tenant = c.self.inside.repos.items in
    let own = rw (← c.self.view_is) at c.requires.own in
    let s = c.index_mut-repos.result.now in
    let at = owned_at tenants by_tenant c.self.invariant.1 c.args.tenant (rw (← c.self.view_is) at c.requires.there) s c.index_mut-repos.ensures.value in
    let there = links-there tenants by_tenant c.self.invariant.1 c.args.tenant s at c.args.repo.now own c.args.digest.now in
    let value = some_value (get s.links (c.args.repo.now, c.args.digest.now)) (was_there c.in_ok-link.field-0 _ c.in_ok-link.ensures.new c.if-not-branch.true) in
    let known = ap is_some (sym (repos-there tenants by_tenant c.self.invariant.1 c.args.tenant s at c.args.repo.now own)) ∙ (rw (← c.self.view_is) at c.requires.known) in
    let links = links-insert tenants by_tenant c.self.invariant.1 c.args.tenant s at c.args.repo.now own c.args.digest.now c.args.size c.link.new.self (ap (λ (x : OwnRepos). x.links) c.in_ok-link.ensures.ok)
    ∙ linked_again (links_shown by_tenant) c.args.repo.now c.args.digest.now c.args.size value.0 (there ∙ value.1) (rw (← c.self.view_is) at c.requires.size) in (
      rw links c.self.invariant.0,
      IsOwned-link tenants by_tenant c.self.invariant.1 c.self.inside.manifests c.self.inside.charges.items c.args.tenant s at c.args.repo.now own c.link.new.self c.args.digest.now c.args.size known c.in_ok-link.ensures.ok,
      rw links c.self.invariant.2,
      c.self.invariant.3,
    )

pub returns-then-not-branch : goal.returns-then-not-branch
returns-then-not-branch c =
    let tenants = tenants_shown c.self.inside.tenants.items in
    let by_tenant = c.self.inside.repos.items in
    let own = rw (← c.self.view_is) at c.requires.own in
    let s = c.index_mut-repos.result.now in
    let at = owned_at tenants by_tenant c.self.invariant.1 c.args.tenant (rw (← c.self.view_is) at c.requires.there) s c.index_mut-repos.ensures.value in
    let there = links-there tenants by_tenant c.self.invariant.1 c.args.tenant s at c.args.repo.now own c.args.digest.now in
    let value = some_value (get s.links (c.args.repo.now, c.args.digest.now)) (was_there c.in_ok-link.field-0 _ c.in_ok-link.ensures.new c.if-not-branch.true) in
    let size = rw (← c.self.view_is) at c.requires.size in
    let links = links-insert tenants by_tenant c.self.invariant.1 c.args.tenant s at c.args.repo.now own c.args.digest.now c.args.size c.link.new.self (ap (λ (x : OwnRepos). x.links) c.in_ok-link.ensures.ok)
    ∙ linked_again (links_shown by_tenant) c.args.repo.now c.args.digest.now c.args.size value.0 (there ∙ value.1) size in
    let repos = repos-same tenants by_tenant c.self.invariant.1 c.args.tenant s at c.link.new.self (ap (λ (x : OwnRepos). x.repos) c.in_ok-link.ensures.ok) in
    rw (← c.self.view_is) (link_there (linked_of tenants by_tenant c.self.inside.manifests c.self.inside.charges.items) c.args.repo.now c.args.digest.now c.args.size value.0 (there ∙ value.1) size
    ∙ (λ i. Ok (false, record { tenants = tenants; repos = sym repos i; links = sym links i; manifests = c.self.inside.manifests; charges = c.self.inside.charges.items })))

pub increment-requires : goal.increment-requires
increment-requires c =
    let tenants = tenants_shown c.self.inside.tenants.items in
    let by_tenant = c.self.inside.repos.items in
    let s = c.index_mut-repos.result.now in
    let lt = rw (← c.self.view_is) at c.requires.there in
    let at = owned_at tenants by_tenant c.self.invariant.1 c.args.tenant lt s c.index_mut-repos.ensures.value in
    let counted = holders_at tenants (links_shown by_tenant) c.self.inside.holders.items c.self.invariant.2 c.args.tenant lt c.index_mut.result.now c.index_mut.ensures.value in
    let most = count_in-most tenants by_tenant c.self.invariant.1 c.self.inside.holders.items c.self.invariant.2 c.args.tenant s at c.index_mut.result.now counted c.args.digest.now in
    omega (arith, most, c.link.ensures.few)

pub invariant_of-self-in-Ok : goal.invariant_of-self-in-Ok
invariant_of-self-in-Ok c =
    let tenants = tenants_shown c.self.inside.tenants.items in
    let by_tenant = c.self.inside.repos.items in
    let lt = rw (← c.self.view_is) at c.requires.there in
    let own = rw (← c.self.view_is) at c.requires.own in
    let s = c.index_mut-repos.result.now in
    let at = owned_at tenants by_tenant c.self.invariant.1 c.args.tenant lt s c.index_mut-repos.ensures.value in
    let absent = no_value (get (links_shown by_tenant) (c.args.repo.now, c.args.digest.now))
    (ap is_some (links-there tenants by_tenant c.self.invariant.1 c.args.tenant s at c.args.repo.now own c.args.digest.now) ∙ was_new c.in_ok-link.field-0 _ c.in_ok-link.ensures.new c.if-not-branch.false) in
    let links = links-insert tenants by_tenant c.self.invariant.1 c.args.tenant s at c.args.repo.now own c.args.digest.now c.args.size c.link.new.self (ap (λ (x : OwnRepos). x.links) c.in_ok-link.ensures.ok) in
    let known = ap is_some (sym (repos-there tenants by_tenant c.self.invariant.1 c.args.tenant s at c.args.repo.now own)) ∙ (rw (← c.self.view_is) at c.requires.known) in
    let counted = holders_at tenants (links_shown by_tenant) c.self.inside.holders.items c.self.invariant.2 c.args.tenant lt c.index_mut.result.now c.index_mut.ensures.value in
    let held = past_one c.in-Ok.count _ c.in-Ok.ensures.count ∙ held-counted tenants (links_shown by_tenant) c.self.inside.holders.items c.self.invariant.2 c.args.tenant c.index_mut.result.now counted c.args.digest.now ∙ sym (contains-blob tenants c.args.tenant c.args.digest.now (links_shown by_tenant)) in (
      rw links (KeepsUsage-link tenants (links_shown by_tenant) c.self.inside.blob_bytes.items c.self.inside.charges.items c.self.invariant.0 c.args.tenant lt c.args.repo.now c.args.digest.now c.args.size own
          (rw (← c.self.view_is) at c.requires.size) (rw (← c.self.view_is) at c.requires.room) (nat_lt 1 c.in-Ok.count) held c.index.result.now c.bytes_with.result c.index.ensures c.bytes_with.ensures),
      IsOwned-link tenants by_tenant c.self.invariant.1 c.self.inside.manifests c.self.inside.charges.items c.args.tenant s at c.args.repo.now own c.link.new.self c.args.digest.now c.args.size known c.in_ok-link.ensures.ok,
      rw links (Counts-insert tenants (links_shown by_tenant) c.self.inside.holders.items c.self.invariant.2 c.args.tenant c.index_mut.result.now counted c.increment.new.holders c.args.repo.now c.args.digest.now c.args.size own absent c.in-Ok.ensures.ok),
      c.self.invariant.3,
    )

pub returns-in-Ok : goal.returns-in-Ok
returns-in-Ok c =
    let tenants = tenants_shown c.self.inside.tenants.items in
    let by_tenant = c.self.inside.repos.items in
    let own = rw (← c.self.view_is) at c.requires.own in
    let s = c.index_mut-repos.result.now in
    let at = owned_at tenants by_tenant c.self.invariant.1 c.args.tenant (rw (← c.self.view_is) at c.requires.there) s c.index_mut-repos.ensures.value in
    let absent = no_value (get (links_shown by_tenant) (c.args.repo.now, c.args.digest.now))
    (ap is_some (links-there tenants by_tenant c.self.invariant.1 c.args.tenant s at c.args.repo.now own c.args.digest.now) ∙ was_new c.in_ok-link.field-0 _ c.in_ok-link.ensures.new c.if-not-branch.false) in
    let links = links-insert tenants by_tenant c.self.invariant.1 c.args.tenant s at c.args.repo.now own c.args.digest.now c.args.size c.link.new.self (ap (λ (x : OwnRepos). x.links) c.in_ok-link.ensures.ok) in
    let repos = repos-same tenants by_tenant c.self.invariant.1 c.args.tenant s at c.link.new.self (ap (λ (x : OwnRepos). x.repos) c.in_ok-link.ensures.ok) in
    rw (← c.self.view_is) (link_new (linked_of tenants by_tenant c.self.inside.manifests c.self.inside.charges.items) c.args.repo.now c.args.digest.now c.args.size (links_shown (set by_tenant c.args.tenant c.link.new.self)) absent links
    ∙ ap Ok (ap (λ r. (true, record { tenants = tenants; repos = r; links = links_shown (set by_tenant c.args.tenant c.link.new.self); manifests = c.self.inside.manifests; charges = c.self.inside.charges.items })) (sym repos)))

-- the link that was added is removed again
pub invariant_of-self-in-Err : goal.invariant_of-self-in-Err
invariant_of-self-in-Err c =
    let tenants = tenants_shown c.self.inside.tenants.items in
    let by_tenant = c.self.inside.repos.items in
    let lt = rw (← c.self.view_is) at c.requires.there in
    let own = rw (← c.self.view_is) at c.requires.own in
    let s = c.index_mut-repos.result.now in
    let at = owned_at tenants by_tenant c.self.invariant.1 c.args.tenant lt s c.index_mut-repos.ensures.value in
    let back = unlinked_again s c.link.new.self c.unlink.new.self c.args.repo.now c.args.digest.now c.args.size c.in_ok-link.ensures.ok c.unlink.ensures.gone (was_new c.in_ok-link.field-0 _ c.in_ok-link.ensures.new c.if-not-branch.false) in
    let counted = holders_at tenants (links_shown by_tenant) c.self.inside.holders.items c.self.invariant.2 c.args.tenant lt c.index_mut.result.now c.index_mut.ensures.value in
    let links = links-same tenants by_tenant c.self.invariant.1 c.args.tenant s at c.unlink.new.self (ap (λ (x : OwnRepos). x.links) back) in (
      rw links c.self.invariant.0,
      IsOwned-same tenants by_tenant c.self.invariant.1 c.self.inside.manifests c.self.inside.charges.items c.args.tenant s at c.args.repo.now own c.unlink.new.self back,
      rw links (Counts-same tenants (links_shown by_tenant) c.self.inside.holders.items c.self.invariant.2 c.args.tenant c.index_mut.result.now counted c.increment.new.holders c.in-Err.ensures.err),
      c.self.invariant.3,
    )

pub returns-in-Err : goal.returns-in-Err
returns-in-Err c =
    let tenants = tenants_shown c.self.inside.tenants.items in
    let by_tenant = c.self.inside.repos.items in
    let s = c.index_mut-repos.result.now in
    let at = owned_at tenants by_tenant c.self.invariant.1 c.args.tenant (rw (← c.self.view_is) at c.requires.there) s c.index_mut-repos.ensures.value in
    let back = unlinked_again s c.link.new.self c.unlink.new.self c.args.repo.now c.args.digest.now c.args.size c.in_ok-link.ensures.ok c.unlink.ensures.gone (was_new c.in_ok-link.field-0 _ c.in_ok-link.ensures.new c.if-not-branch.false) in
    let repos = repos-same tenants by_tenant c.self.invariant.1 c.args.tenant s at c.unlink.new.self (ap (λ (x : OwnRepos). x.repos) back) in
    let links = links-same tenants by_tenant c.self.invariant.1 c.args.tenant s at c.unlink.new.self (ap (λ (x : OwnRepos). x.links) back) in (
      (λ other. absurd (other c.in-Err.ensures.refused)),
      (λ i. record { tenants = tenants; repos = repos i; links = links i; manifests = c.self.inside.manifests; charges = c.self.inside.charges.items }) ∙ c.self.view_is,
    )
