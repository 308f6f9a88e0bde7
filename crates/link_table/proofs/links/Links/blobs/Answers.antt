use Rattle.std.proofs.Common.{ap, sym, ◌∙◌, arith}
use Rattle.link_table.specs.Linked.{Linked, blobs_in}
use Rattle.link_table.specs.Tenancy.{tenants_shown}
use Rattle.link_table.proofs.TenantRepos.{blobs-there, blobs-nobody}
use Rattle.link_table.proofs.Tables.{owned_at}
use Rattle.link_table.proofs.TenantLists.{tenant_of-rows, is_repo_of_tenant-found, own_within, nobodys}
use Rattle.link_table.proofs.links.Links.blobs.Goals as goal

pub index-requires : goal.index-requires
index-requires c =
    let tenants = tenants_shown c.self.inside.tenants.items in
    let own = is_repo_of_tenant-found tenants c.args.repo.now c.in-Some.t (tenant_of-rows c.self.inside.tenants.items c.args.repo.now c.tenant.result.now c.tenant.ensures.value ∙ sym (c.in-Some.ensures ∙ c.self.invariant.3 c.tenant.result.now)) in
    omega (arith, c.self.invariant.1.one_each, own_within tenants c.in-Some.t c.args.repo.now own)

pub returns-in-Some : goal.returns-in-Some
returns-in-Some c =
    let tenants = tenants_shown c.self.inside.tenants.items in
    let own = is_repo_of_tenant-found tenants c.args.repo.now c.in-Some.t (tenant_of-rows c.self.inside.tenants.items c.args.repo.now c.tenant.result.now c.tenant.ensures.value ∙ sym (c.in-Some.ensures ∙ c.self.invariant.3 c.tenant.result.now)) in
    let at = owned_at tenants c.self.inside.repos.items c.self.invariant.1 c.in-Some.t (own_within tenants c.in-Some.t c.args.repo.now own) c.index.result.now c.index.ensures in
    c.blobs.ensures ∙ sym (blobs-there tenants c.self.inside.repos.items c.self.invariant.1 c.in-Some.t c.index.result.now at c.args.repo.now own)
    ∙ ap (λ (l : Linked). blobs_in l c.args.repo.now) c.self.view_is

pub returns-in-None : goal.returns-in-None
returns-in-None c =
    let tenants = tenants_shown c.self.inside.tenants.items in
    let none = tenant_of-rows c.self.inside.tenants.items c.args.repo.now c.tenant.result.now c.tenant.ensures.value ∙ sym (c.in-None.ensures ∙ c.self.invariant.3 c.tenant.result.now) in
    sym (blobs-nobody tenants c.self.inside.repos.items c.self.invariant.1 c.args.repo.now (nobodys tenants c.args.repo.now none))
    ∙ ap (λ (l : Linked). blobs_in l c.args.repo.now) c.self.view_is
