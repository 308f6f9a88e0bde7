use Rattle.std.proofs.Common.{◌≡◌, ◌<◌, ◌∙◌, ◌∷◌, [], arith, false, inl, inr, length, refl, rules, string_bytes, sym, true, vec_len}
use Rattle.std.proofs.lemmas.List.{map-append}
use Rattle.std.specs.List.{list_any}
use Rattle.spec_lib.specs.Texts.{same_text}
use Rattle.link_table.specs.Tenancy.{limits_shown, tenant_shown}
use Rattle.tenant_args.specs.Tenants.{most_tenants}
use Rattle.tenant_args.proofs.TenantLists.{any_named}
use Rattle.tenant_args.proofs.tenants.add_tenant.Goals as goal

pub returns-then-has_name-clause-refused : goal.returns-then-has_name-clause-refused
returns-then-has_name-clause-refused c =
    let found : list_any (λ t. same_text (string_bytes t.name) c.in-Some.name.now) c.args.tenants.now.items ≡ true = rw (← c.deref.ensures.value) (sym c.has_name.ensures ∙ c.if-has_name.true) in
    inr (refl, inr (inl (record { name = c.in-Some.name.now; quota = c.in-Some.quota; share = c.in-Some.share; limits = limits_shown c.in-Some.limits }, c.in-Some.ensures, any_named c.args.tenants.now.items c.in-Some.name.now ∙ found)))

pub returns-clause-added : goal.returns-clause-added
returns-clause-added c =
    let none : list_any (λ t. same_text (string_bytes t.name) c.in-Some.name.now) c.args.tenants.now.items ≡ false = rw (← c.deref.ensures.value) (sym c.has_name.ensures ∙ c.if-has_name.false) in
    let size : length c.args.tenants.now.items ≡ vec_len c.args.tenants.now = search rules in
    let few : length c.args.tenants.now.items < most_tenants c.args.shares = omega (arith, size, c.if-len-most.false, c.len.ensures, c.most_tenants-most.ensures) in
    let name : string_bytes c.in_ok-name.name ≡ c.in-Some.name.now = search rules in
    (record { name = c.in-Some.name.now; quota = c.in-Some.quota; share = c.in-Some.share; limits = limits_shown c.in-Some.limits }, c.in-Some.ensures, any_named c.args.tenants.now.items c.in-Some.name.now ∙ none, few, rw c.in_ok-push.ensures.items (map-append tenant_shown c.args.tenants.now.items (record { name = c.in_ok-name.name; quota = c.in-Some.quota; share = c.in-Some.share; limits = c.in-Some.limits } ∷ []) ∙ rw name refl))
