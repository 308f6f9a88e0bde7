use Rattle.std.proofs.Common.{arith, length, false, ◌≡◌, ◌==◌, ◌≤◌, ◌^◌}
use Rattle.std.proofs.lemmas.Bool.{false≢true}
use Rattle.std.proofs.lemmas.Bool.Decides.{nat_tests}
use Rattle.std.proofs.lemmas.List.{length-map}
use Rattle.std.proofs.lemmas.List.Elements.{All-map}
use Rattle.blob_digest.specs.Tenants.{AreSupported}
use Rattle.link_table.specs.Tenancy.{tenant_shown}
use Rattle.link_table.proofs.TenantLists.{All-unmap}
use Rattle.link_table.proofs.tenants.are_within_limits.Goals as goal

pub returns-then-not-are_quotas : goal.returns-then-not-are_quotas
returns-then-not-are_quotas c = (
  λ h. absurd (false≢true h),
  λ limits. absurd (false≢true (c.if-not-are_quotas.ensures.1 (All-unmap (λ t. t.quota ≤ 2 ^ 50) tenant_shown c.args.tenants.now limits.quotas))),
)

pub returns : goal.returns
returns c = (
  λ h. record {
    some = rw (length-map c.args.tenants.now tenant_shown) (let e : false ≡ (length c.args.tenants.now == 0) = c.if-is_empty.ensures in grind (arith, nat_tests));
    few = rw (length-map c.args.tenants.now tenant_shown) (omega arith);
    quotas = All-map (λ t. t.quota ≤ 2 ^ 50) tenant_shown c.args.tenants.now (c.are_quotas.ensures.0 c.if-not-are_quotas.false);
    limits = All-map (λ t. AreSupported t.limits) tenant_shown c.args.tenants.now (c.are_all_supported.ensures.0 h);
  },
  λ limits. c.are_all_supported.ensures.1 (All-unmap (λ t. AreSupported t.limits) tenant_shown c.args.tenants.now limits.limits),
)
