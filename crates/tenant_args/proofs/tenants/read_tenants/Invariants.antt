use Rattle.std.proofs.Common.{◌≡◌, ◌≤◌, count_by, length, map, take}
use Rattle.std.specs.List.{All}
use Rattle.spec_lib.specs.Texts.{Text, same_text}
use Rattle.blob_digest.specs.Names.{IsComponent}
use Rattle.blob_digest.specs.Tenants.{AreSupported}
use Rattle.link_table.specs.Tenancy.{tenants_shown, max_quota, max_tenants}
use Rattle.tenant_args.specs.Tenants.{SpellTenants}
use Rattle.tenant_args.proofs.tenants.read_tenants.Given as goal

-- the arguments so far spell the tenants so far, which a store accepts
abbrev pub invariant-loop-word : goal.invariant-loop-word
invariant-loop-word l = record {
  spelled : SpellTenants l.shares (map (λ w. w.now) (take l.word-index l.words)) (tenants_shown l.tenants.items);
  few : length l.tenants.items ≤ max_tenants;
  count : length l.tenants.items ≡ l.word-index;
  components : All (λ t. IsComponent t.name) (tenants_shown l.tenants.items);
  quotas : All (λ t. t.quota ≤ max_quota) (tenants_shown l.tenants.items);
  limits : All (λ t. AreSupported t.limits) (tenants_shown l.tenants.items);
  apart : (name : Text) → count_by (λ t. same_text t.name name) (tenants_shown l.tenants.items) ≤ 1;
}
