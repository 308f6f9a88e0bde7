-- The stored sums of each tenant's usage.
use Rattle.std.specs.Prelude.{◌≡◌, ℕ, ◌+◌, ◌<◌, ◌^◌, List, length, slice_index}
use Rattle.std.specs.FinMap as fmap
use Rattle.blob_digest.specs.Keys.{link_cmp}
use Rattle.link_table.specs.Linked.{Tenant, HasOneSize, blobs, total_size, is_repo_of_tenant}
use Rattle.link_table.specs.Tenancy.{AreTenants}

-- `blob_bytes` has for each tenant the sum of the sizes of its repositories' digests, each counted once
pub record KeepsUsage (tenants : List Tenant) (links : fmap.FinMap link_cmp ℕ) (blob_bytes charges : List ℕ) : Type 0 where
  pub accepted : AreTenants tenants
  pub one_each : (length blob_bytes ≡ length tenants) × (length charges ≡ length tenants)
  pub one_size : HasOneSize links
  pub summed : (t : ℕ) → t < length tenants → slice_index blob_bytes t ≡ total_size (blobs (is_repo_of_tenant tenants t) links)
  pub small : (t : ℕ) → t < length tenants → slice_index blob_bytes t + slice_index charges t < 2 ^ 64
