use Rattle.std.proofs.Common.{ap, sym, ◌∙◌}
use Rattle.std.specs.Option.{ok_or}
use Rattle.blob_digest.specs.declared.refusal.Refusal.TheVariants.{NameUnknown}
use Rattle.link_table.proofs.TenantLists.{tenant_of-rows, is_repo_of_tenant-found}
use Rattle.link_table.proofs.links.Links.tenant.Goals as goal

pub returns-in-Some-clause-known : goal.returns-in-Some-clause-known
returns-in-Some-clause-known c =
    let found = c.in-Some.ensures ∙ c.self.invariant.3 c.tenant.result.now in
    rw (← c.self.view_is) (ap (λ o. ok_or o NameUnknown) (found ∙ sym (tenant_of-rows c.self.inside.tenants.items c.args.repo.now c.tenant.result.now c.tenant.ensures.value)))

pub returns-in-Some-clause-own : goal.returns-in-Some-clause-own
returns-in-Some-clause-own c =
    let found = c.in-Some.ensures ∙ c.self.invariant.3 c.tenant.result.now in
    rw (← c.self.view_is) (is_repo_of_tenant-found _ c.args.repo.now c.in-Some.t (tenant_of-rows c.self.inside.tenants.items c.args.repo.now c.tenant.result.now c.tenant.ensures.value ∙ sym found))

pub returns-in-None-clause-known : goal.returns-in-None-clause-known
returns-in-None-clause-known c =
    let found = c.in-None.ensures ∙ c.self.invariant.3 c.tenant.result.now in
    rw (← c.self.view_is) (ap (λ o. ok_or o NameUnknown) (found ∙ sym (tenant_of-rows c.self.inside.tenants.items c.args.repo.now c.tenant.result.now c.tenant.ensures.value)))
