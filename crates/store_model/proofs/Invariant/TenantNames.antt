-- Which tenant owns a repository depends on the names of the tenants alone.
use Rattle.std.proofs.Common.{◌≡◌, ℕ, List, length, map, Some, sym, ap, ◌∙◌}
use Rattle.std.specs.Prelude.{count_by, nat_eq, position}
use Rattle.std.specs.Option.{option_eq}
use Rattle.std.proofs.lemmas.List.{length-map}
use Rattle.spec_lib.specs.Sets as set
use Rattle.spec_lib.specs.Texts.{Text, same_text, text_cmp}
use Rattle.spec_lib.proofs.Rows.{position-map}
use Rattle.store_model.specs.Catalog.{Tenant, is_repo_of_tenant, tenant_name, tenant_of, tenant_repo_count}

module _ (ts us : List Tenant) (names : map (λ t. t.name) ts ≡ map (λ t. t.name) us) where
  pub same_tenant : (r : Text) → tenant_of ts r ≡ tenant_of us r
  same_tenant r =
      sym (position-map (λ n. same_text n (tenant_name r)) (λ (t : Tenant). t.name) ts) ∙ ap (position (λ n. same_text n (tenant_name r))) names
      ∙ position-map (λ n. same_text n (tenant_name r)) (λ (t : Tenant). t.name) us

  pub same_owner : (t : ℕ) (r : Text) → is_repo_of_tenant ts t r ≡ is_repo_of_tenant us t r
  same_owner t r = ap (λ o. option_eq nat_eq o (Some t)) (same_tenant r)

  pub same_repo_count : (repos : set.Set text_cmp) (t : ℕ) → tenant_repo_count ts repos t ≡ tenant_repo_count us repos t
  same_repo_count repos t = λ i. count_by (λ r. same_owner t r i) (set.items repos)

  pub same_length : length ts ≡ length us
  same_length = sym (length-map ts (λ (t : Tenant). t.name)) ∙ ap length names ∙ length-map us (λ (t : Tenant). t.name)
