use Rattle.std.proofs.Common.{◌≡◌, ap, arith, subst}
use Rattle.blob_digest.specs.Outcomes.{Does}
use Rattle.blob_digest.specs.Tenants.{Limits}
use Rattle.link_table.specs.Linked.{limits_in}
use Rattle.link_table.specs.TenantRepos.{appear_on}
use Rattle.link_table.specs.Tenancy.{limits_shown, tenants_shown}
use Rattle.link_table.proofs.TenantLists.{limits_supported}
use Rattle.link_table.proofs.TenantRepos.{links-same}
use Rattle.link_table.proofs.Tables.{owned_at, grown, appear_does, IsOwned-appear}
use Rattle.link_table.proofs.links.Links.appear.Goals as goal

pub appear-requires : goal.appear-requires
appear-requires c =
    let tenants = tenants_shown c.self.inside.tenants.items in
    let is : limits_shown c.limits-limit.result ≡ limits_in tenants c.args.tenant = rw (← c.self.view_is) at c.limits-limit.ensures in
    let supported = (limits_supported tenants c.self.invariant.0.accepted.limits.limits c.args.tenant).repos in
    omega (arith, ap (λ (l : Limits). l.repos) is, supported)

pub invariant_of-self : goal.invariant_of-self
invariant_of-self c =
    let tenants = tenants_shown c.self.inside.tenants.items in
    let by_tenant = c.self.inside.repos.items in
    let owned = c.self.invariant.1 in
    let s = c.index_mut.result.now in
    let at = owned_at tenants by_tenant owned c.args.tenant (rw (← c.self.view_is) at c.requires.there) s c.index_mut.ensures.value in
    let is = grown c.limits-limit.result.repos s c.appear.new.self c.args.repo.now c.appear.result c.appear.ensures in
    let links = links-same tenants by_tenant owned c.args.tenant s at c.appear.new.self is.links in (
      rw links c.self.invariant.0,
      IsOwned-appear tenants by_tenant owned c.self.inside.manifests c.self.inside.charges.items c.args.tenant s at c.args.repo.now (rw (← c.self.view_is) at c.requires.own) c.appear.new.self is,
      rw links c.self.invariant.2,
      c.self.invariant.3,
    )

pub returns : goal.returns
returns c =
    let tenants = tenants_shown c.self.inside.tenants.items in
    let by_tenant = c.self.inside.repos.items in
    let owned = c.self.invariant.1 in
    let s = c.index_mut.result.now in
    let at = owned_at tenants by_tenant owned c.args.tenant (rw (← c.self.view_is) at c.requires.there) s c.index_mut.ensures.value in
    let is : limits_shown c.limits-limit.result ≡ limits_in tenants c.args.tenant = rw (← c.self.view_is) at c.limits-limit.ensures in
    let done = subst (λ n. Does (λ b. b) c.appear.result s c.appear.new.self (appear_on n s c.args.repo.now)) (ap (λ (l : Limits). l.repos) is) c.appear.ensures in
    rw (← c.self.view_is) (appear_does tenants by_tenant owned c.self.inside.manifests c.self.inside.charges.items c.args.tenant s at c.args.repo.now (rw (← c.self.view_is) at c.requires.own) c.appear.new.self c.appear.result done)
