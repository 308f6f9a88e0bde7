-- The limits of the tenants of a well-formed catalog.
use Rattle.std.proofs.Common.{◌≡◌, ℕ, List, [], ◌∷◌, Option, Some, None, refl, subst, arith}
use Prim.Native.Nat.{zero, suc}
use Rattle.std.specs.Prelude.{slice_get}
use Rattle.std.specs.Option.{option_map_or}
use Rattle.std.specs.List.{AllByRecursion}
use Rattle.blob_digest.specs.Tenants.{AreSupported, no_tenant}
use Rattle.store_model.specs.Catalog.{Catalog, Tenant, limits_of}
use Rattle.store_model.specs.Invariant.{WellFormed}

-- an element of a list whose elements all have a property has it
pub each_at : {A : Type 0} (P : A → Type 0) (xs : List A) (k : ℕ) (x : A) → AllByRecursion P xs → slice_get xs k ≡ Some x → P x
each_at P [] k x all at = cc
each_at P (y ∷ xs) zero x all at = let same : y ≡ x = cc in subst P same all.0
each_at P (y ∷ xs) (suc k) x all at = each_at P xs k x all.1 at

-- the limits of a tenant are supported
pub limits_supported : (C : Catalog) → WellFormed C → (t : ℕ) → AreSupported (limits_of C t)
limits_supported C lawful t = at (slice_get C.tenants t) refl
  where
    at : (o : Option Tenant) → slice_get C.tenants t ≡ o → AreSupported (option_map_or (λ x. x.limits) o no_tenant.limits)
    at None e = record { repos = omega arith; manifests = omega arith; sessions = omega arith }
    at (Some x) e = each_at (λ (y : Tenant). AreSupported y.limits) C.tenants t x lawful.limits.limits e
