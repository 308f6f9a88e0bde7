-- The book of a new store, and the errors of opening one.
use Rattle.std.specs.Prelude.{◌≡◌, ◌<◌, ◌≤◌, ◌^◌, ℕ, None, List, replicate}
use Rattle.std.specs.List.Sorted.{IsPermutation}
use Rattle.blob_digest.specs.Slots.{greatest_slots}
use Rattle.blob_digest.specs.declared.refusal.Refusal.{Refusal}
use Rattle.blob_digest.specs.declared.refusal.Refusal.TheVariants.{NameInvalid, LimitReached, Memory}
pub use Rattle.link_table.specs.Tenancy.{DoNamesRise, HasNames, IsWithinLimits, max_quota, max_tenants, tenant_shown, tenants_shown}
use Rattle.slot_table.specs.declared.phase.Phase.TheVariants as phase
use Rattle.store_book.specs.BookState.{BookState}
use Rattle.store_book.specs.declared.config.Config.{Config}
use Rattle.store_model.specs.Catalog.{Tenant, Catalog, opening, ContentRules}

-- 1 to 2^24 slots, and blobs of at most 2^40 bytes
pub record IsSized (slots max_blob : ℕ) : Type 0 where
  pub some : 0 < slots
  pub few : slots ≤ greatest_slots
  pub blobs : max_blob ≤ 2 ^ 40

-- the catalog has the given tenants in the order of their names, and nothing else
pub record OpensCatalog (given : List Tenant) (slots : ℕ) (contents : ContentRules) (C : Catalog) : Type 0 where
  pub same : IsPermutation given C.tenants
  pub rising : DoNamesRise C.tenants
  pub empty : C ≡ opening C.tenants slots contents

-- the configuration is valid, the catalog is the opening one, and each slot is free in its first generation
pub record OpensBook (given : List Tenant) (count : ℕ) (contents : ContentRules) (first : ℕ) (book : BookState) : Type 0 where
  pub names : HasNames given
  pub limits : IsWithinLimits given
  pub sized : IsSized count contents.max_blob
  pub catalog : OpensCatalog given count contents book.catalog
  pub slots : book.slots ≡ replicate count (record { generation = first; phase = phase.Free; digest = None; bound = 0; looks = 0 })

-- the error fits this configuration: a fault in the names first, then in the limits, and out of memory at any time
abbrev pub RefusesBook : Refusal → List Tenant → ℕ → ℕ → Type 0
RefusesBook NameInvalid given slots max_blob = ¬ (HasNames given)
RefusesBook LimitReached given slots max_blob = HasNames given × (¬ (IsWithinLimits given × IsSized slots max_blob))
RefusesBook Memory given slots max_blob = Unit {0}
RefusesBook _ given slots max_blob = ⊥

-- how a store with this configuration keeps contents
abbrev pub rules_of : Config → ContentRules
rules_of config = record { max_blob = config.max_blob; on_disk = config.on_disk }

-- the book is that of a new store with this configuration
abbrev pub OpensFrom : Config → BookState → Type 0
OpensFrom config book = OpensBook (tenants_shown config.tenants.items) config.slots (rules_of config) config.first_generation book

-- this error may be returned for this configuration
abbrev pub RefusesConfig : Refusal → Config → Type 0
RefusesConfig e config = RefusesBook e (tenants_shown config.tenants.items) config.slots config.max_blob
