use Rattle.std.proofs.Common.{ap, sym, ◌∙◌, is_some, arith}
use Rattle.link_table.specs.Tenancy.{tenants_shown}
use Rattle.link_table.specs.TenantRepos.{OwnRepos}
use Rattle.link_table.proofs.TenantRepos.{links-same, repos-there, repos-remove}
use Rattle.link_table.proofs.Tables.{owned_at, no_links, IsOwned-vanish}
use Rattle.link_table.proofs.TenantLists.{own_within}
use Rattle.link_table.proofs.links.Links.vanish.Goals as goal

pub index_mut-requires : goal.index_mut-requires
index_mut-requires c = omega (arith, c.self.invariant.1.one_each, own_within (tenants_shown c.self.inside.tenants.items) c.args.tenant c.args.repo.now (rw (← c.self.view_is) at c.requires.own))

pub vanish-requires-clause-there : goal.vanish-requires-clause-there
vanish-requires-clause-there c =
    let tenants = tenants_shown c.self.inside.tenants.items in
    let own = rw (← c.self.view_is) at c.requires.own in
    let s = c.index_mut.result.now in
    let at = owned_at tenants c.self.inside.repos.items c.self.invariant.1 c.args.tenant (own_within tenants c.args.tenant c.args.repo.now own) s c.index_mut.ensures.value in
    ap is_some (sym (repos-there tenants c.self.inside.repos.items c.self.invariant.1 c.args.tenant s at c.args.repo.now own)) ∙ (rw (← c.self.view_is) at c.requires.there)

pub vanish-requires-clause-unlinked : goal.vanish-requires-clause-unlinked
vanish-requires-clause-unlinked c =
    let tenants = tenants_shown c.self.inside.tenants.items in
    let own = rw (← c.self.view_is) at c.requires.own in
    let s = c.index_mut.result.now in
    let at = owned_at tenants c.self.inside.repos.items c.self.invariant.1 c.args.tenant (own_within tenants c.args.tenant c.args.repo.now own) s c.index_mut.ensures.value in
    no_links tenants c.self.inside.repos.items c.self.invariant.1 c.self.inside.manifests c.self.inside.charges.items c.args.tenant s at c.args.repo.now own (rw (← c.self.view_is) at c.requires.unlinked)

pub invariant_of-self : goal.invariant_of-self
invariant_of-self c =
    let tenants = tenants_shown c.self.inside.tenants.items in
    let own = rw (← c.self.view_is) at c.requires.own in
    let s = c.index_mut.result.now in
    let at = owned_at tenants c.self.inside.repos.items c.self.invariant.1 c.args.tenant (own_within tenants c.args.tenant c.args.repo.now own) s c.index_mut.ensures.value in
    let none = no_links tenants c.self.inside.repos.items c.self.invariant.1 c.self.inside.manifests c.self.inside.charges.items c.args.tenant s at c.args.repo.now own (rw (← c.self.view_is) at c.requires.unlinked) in
    let links = links-same tenants c.self.inside.repos.items c.self.invariant.1 c.args.tenant s at c.vanish.new.self (ap (λ (x : OwnRepos). x.links) c.vanish.ensures) in (
      rw links c.self.invariant.0,
      IsOwned-vanish tenants c.self.inside.repos.items c.self.invariant.1 c.self.inside.manifests c.self.inside.charges.items c.args.tenant s at c.args.repo.now own c.vanish.new.self none c.vanish.ensures,
      rw links c.self.invariant.2,
      c.self.invariant.3,
    )

pub returns : goal.returns
returns c =
    let tenants = tenants_shown c.self.inside.tenants.items in
    let by_tenant = c.self.inside.repos.items in
    let own = rw (← c.self.view_is) at c.requires.own in
    let s = c.index_mut.result.now in
    let at = owned_at tenants by_tenant c.self.invariant.1 c.args.tenant (own_within tenants c.args.tenant c.args.repo.now own) s c.index_mut.ensures.value in
    let repos = repos-remove tenants by_tenant c.self.invariant.1 c.args.tenant s at c.args.repo.now own c.vanish.new.self (ap (λ (x : OwnRepos). x.repos) c.vanish.ensures) in
    let links = links-same tenants by_tenant c.self.invariant.1 c.args.tenant s at c.vanish.new.self (ap (λ (x : OwnRepos). x.links) c.vanish.ensures) in
    rw (← c.self.view_is) (λ i. record { tenants = tenants; repos = repos i; links = links i; manifests = c.forget.ensures i; charges = c.self.inside.charges.items })
