-- The lists of tenants that a table accepts, and the errors for the others.
use Rattle.std.specs.Prelude.{◌≡◌, ◌<◌, ◌≤◌, ◌^◌, ℕ, Bool, List, length, map, count_by, string_bytes}
use Rattle.std.specs.Ordering.{is_lt}
use Rattle.std.specs.List.{All}
use Rattle.std.specs.List.Sorted.{IsPermutation, IsStrictlySortedBy}
use Rattle.spec_lib.specs.Texts.{Text, text_cmp, same_text}
use Rattle.blob_digest.specs.Names.{IsComponent}
use Rattle.blob_digest.specs.Tenants.{Tenant, Limits, AreSupported}
use Rattle.blob_digest.specs.declared.refusal.Refusal.{Refusal}
use Rattle.blob_digest.specs.declared.refusal.Refusal.TheVariants.{NameInvalid, LimitReached, Memory}
use Rattle.link_table.specs.declared.tenants.TenantLimits.{TenantLimits}
use Rattle.link_table.specs.declared.tenants.TenantSettings.{TenantSettings}
use Rattle.link_table.specs.Linked.{Linked, initial_links}

-- no name occurs twice
abbrev pub AreApart : List Tenant → Type 0
AreApart ts = (name : Text) → count_by (λ t. same_text t.name name) ts ≤ 1

-- each name is one component of a repository's name (OCI Distribution Specification 1.1, "Pulling manifests"), and no name occurs twice
pub record HasNames (ts : List Tenant) : Type 0 where
  pub components : All (λ t. IsComponent t.name) ts
  pub apart : AreApart ts

-- the maximum number of tenants
abbrev pub max_tenants : ℕ
max_tenants = 4096

-- the maximum quota in bytes
abbrev pub max_quota : ℕ
max_quota = 2 ^ 50

-- 1 to 4,096 tenants, with quotas of at most 2^50 bytes and supported limits
pub record IsWithinLimits (ts : List Tenant) : Type 0 where
  pub some : 0 < length ts
  pub few : length ts ≤ max_tenants
  pub quotas : All (λ t. t.quota ≤ max_quota) ts
  pub limits : All (λ t. AreSupported t.limits) ts

-- the error for a list of tenants: `NameInvalid` for a name, else `LimitReached` for a limit, else `Memory`
abbrev pub RefusesTenants : Refusal → List Tenant → Type 0
RefusesTenants NameInvalid given = ¬ (HasNames given)
RefusesTenants LimitReached given = HasNames given × (¬ (IsWithinLimits given))
RefusesTenants Memory given = HasNames given × IsWithinLimits given
RefusesTenants _ given = ⊥

-- the names of the tenants are components, no name occurs twice, and the tenants are within the limits
pub record AreTenants (ts : List Tenant) : Type 0 where
  pub apart : AreApart ts
  pub components : All (λ t. IsComponent t.name) ts
  pub limits : IsWithinLimits ts

-- the tenants are in the strict order of their names
abbrev pub DoNamesRise : List Tenant → Type 0
DoNamesRise ts = IsStrictlySortedBy text_cmp (map (λ t. t.name) ts)

-- the table has the given tenants in the order of their names, and nothing else
pub record Opens (given : List Tenant) (l : Linked) : Type 0 where
  pub names : HasNames given
  pub limits : IsWithinLimits given
  pub same : IsPermutation given l.tenants
  pub tenants : AreTenants l.tenants
  pub rising : DoNamesRise l.tenants
  pub empty : l ≡ initial_links l.tenants

-- the limits of a tenant
abbrev pub limits_shown : TenantLimits → Limits
limits_shown l = record { repos = l.repos; manifests = l.manifests; sessions = l.sessions }

-- a tenant's name, quota, share and limits
abbrev pub tenant_shown : TenantSettings → Tenant
tenant_shown t = record { name = string_bytes t.name; quota = t.quota; share = t.share; limits = limits_shown t.limits }

-- the tenants that rows show
abbrev pub tenants_shown : List TenantSettings → List Tenant
tenants_shown ts = map tenant_shown ts

-- the test says whether the name of x is below that of y
abbrev pub IsNameBelow : TenantSettings → TenantSettings → Bool → Type 0
IsNameBelow x y b = b ≡ is_lt (text_cmp (string_bytes x.name) (string_bytes y.name))

-- both lists have the same tenants, in any order
abbrev pub SameTenants : List TenantSettings → List TenantSettings → Type 0
SameTenants xs ys = IsPermutation (tenants_shown xs) (tenants_shown ys)
