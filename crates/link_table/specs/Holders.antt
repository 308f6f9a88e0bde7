-- The number of each tenant's repositories that contain each digest.
use Rattle.std.specs.Prelude.{◌≡◌, ◌≢◌, ℕ, ◌+◌, ◌&&◌, if◌then◌else◌, Bool, List, length, count_by, slice_get, unwrap_or, Some}
use Rattle.std.specs.Option.{option_map_or}
use Rattle.std.specs.List.{All}
use Rattle.std.specs.FinMap as fmap
use Rattle.spec_lib.specs.Texts.{Text, text_cmp, same_text}
use Rattle.blob_digest.specs.Keys.{Link, link_cmp}
use Rattle.link_table.specs.Linked.{Tenant, is_repo_of_tenant}

-- the map has no entry with the count 0
abbrev pub HasNoZero : fmap.FinMap text_cmp ℕ → Type 0
HasNoZero holders = (d : Text) → fmap.get holders d ≢ Some 0

-- a tenant's count of the repositories that contain a digest
abbrev pub count_in : fmap.FinMap text_cmp ℕ → Text → ℕ
count_in holders d = unwrap_or (fmap.get holders d) 0

-- there are n maps, all of them empty
abbrev pub AreEmptyMaps : ℕ → List (fmap.FinMap text_cmp ℕ) → Type 0
AreEmptyMaps n maps = (length maps ≡ n) × All (λ h. h ≡ fmap.empty) maps

-- the new map counts one more repository for this digest
abbrev pub CountsOneMore : fmap.FinMap text_cmp ℕ → fmap.FinMap text_cmp ℕ → Text → Type 0
CountsOneMore old new digest = (d : Text) → count_in new d ≡ count_in old d + (if same_text digest d then 1 else 0)

-- the new map counts one repository less for this digest
abbrev pub CountsOneLess : fmap.FinMap text_cmp ℕ → fmap.FinMap text_cmp ℕ → Text → Type 0
CountsOneLess old new digest = (d : Text) → count_in new d + (if same_text digest d then 1 else 0) ≡ count_in old d

-- the count of a tenant, by its number, of its repositories that contain a digest
abbrev pub count_of : List (fmap.FinMap text_cmp ℕ) → ℕ → Text → ℕ
count_of holders t d = option_map_or (λ m. count_in m d) (slice_get holders t) 0

-- the entry links this digest in a repository of this tenant
abbrev pub is_link_of : List Tenant → ℕ → Text → Link × ℕ → Bool
is_link_of tenants t d e = same_text e.0.1 d && is_repo_of_tenant tenants t e.0.0

-- each tenant has a map that counts its links to each digest
pub record Counts (tenants : List Tenant) (links : fmap.FinMap link_cmp ℕ) (holders : List (fmap.FinMap text_cmp ℕ)) : Type 0 where
  pub one_each : length holders ≡ length tenants
  pub counted : (t : ℕ) (d : Text) → count_of holders t d ≡ count_by (is_link_of tenants t d) (fmap.entries links)
