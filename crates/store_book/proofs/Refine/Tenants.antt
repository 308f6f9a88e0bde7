-- The tenants by their numbers.
use Rattle.std.proofs.Common.{◌≡◌, ℕ, ◌+◌, ◌<◌, ◌≤◌, List, [], length, take, Option, Some, None, refl, sym, ap, ◌∙◌, arith}
use Rattle.std.specs.Prelude.{slice_get}
use Rattle.std.specs.List.{flat_map, enumerate_from}
use Rattle.std.specs.Option.{option_map, option_map_or}
use Rattle.std.proofs.lemmas.List.FromFn.{length-enumerate_from}
use Rattle.link_table.specs.Linked.{Tenant, quota_in}
use Rattle.spec_lib.proofs.Lists.{there_at}
use Rattle.spec_lib.proofs.Writing.{at_number}
use Rattle.store_book.specs.Internal.Lines.{tenant_in}
use Rattle.std.proofs.lemmas.List.{take_all}
use Rattle.blob_digest.specs.Tenants.{no_tenant}

-- the tenant with a number, and the number
pub numbered : (tenants : List Tenant) (t : ℕ) → t < length tenants → slice_get (enumerate_from 0 tenants) t ≡ Some (t, tenant_in tenants t)
numbered tenants t lt =
    let x = there_at tenants t lt in
    let zero_more : 0 + t ≡ t = omega arith in
    at_number tenants 0 t x.0 x.1 ∙ (λ j. Some (zero_more j, option_map_or (λ y. y) (sym x.1 j) no_tenant))

pub name_is : (tenants : List Tenant) (t : ℕ) (name : List ℕ) → option_map (λ x. x.name) (slice_get tenants t) ≡ Some name → name ≡ (tenant_in tenants t).name
name_is tenants t name h = by_value (slice_get tenants t) h
  where
    by_value : (o : Option Tenant) → option_map (λ x. x.name) o ≡ Some name → name ≡ (option_map_or (λ y. y) o no_tenant).name
    by_value None e = cc
    by_value (Some x) e = cc

pub quota_is : (tenants : List Tenant) (t : ℕ) → quota_in tenants t ≡ (tenant_in tenants t).quota
quota_is tenants t = by_value (slice_get tenants t)
  where
    by_value : (o : Option Tenant) → option_map_or (λ x. x.quota) o 0 ≡ (option_map_or (λ y. y) o no_tenant).quota
    by_value None = refl
    by_value (Some x) = refl

-- all tenants
pub all_numbered : {A : Type 0} (f : ℕ × Tenant → List A) (tenants : List Tenant) (n : ℕ) → length tenants ≤ n → flat_map f (take n (enumerate_from 0 tenants)) ≡ flat_map f (enumerate_from 0 tenants)
all_numbered f tenants n h = ap (flat_map f) (take_all n (enumerate_from 0 tenants) (let same = length-enumerate_from 0 tenants in omega arith))
