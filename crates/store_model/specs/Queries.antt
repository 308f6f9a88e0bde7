-- The queries of a catalog. A query changes nothing, is not counted, and is no event of a run.
use Rattle.std.specs.Prelude.{ℕ, ◌+◌, ◌-◌, Result, Ok, length}
use Rattle.std.specs.FinMap as fmap
use Rattle.blob_digest.specs.declared.refusal.Refusal.{Refusal}
use Rattle.spec_lib.specs.Texts.{Text}
use Rattle.store_model.specs.Catalog.{Catalog, held_count, quota_of, share_of, tenant_repo_count, used_bytes}
use Rattle.store_model.specs.Commands.{◌>>=◌, tenant, linked_blob, get_manifest}
use Rattle.store_model.specs.declared.slot_use.SlotUse.{SlotUse}
use Rattle.store_model.specs.declared.usage.Usage.{Usage}

-- the size of a blob that a repository contains (OCI Distribution Specification 1.1, "Checking if content exists in the registry")
abbrev pub stat : Catalog → Text → Text → Result ℕ Refusal
stat C repo digest = do
  _ ← tenant C repo
  b ← linked_blob C repo digest
  Ok (length b.bytes)

-- the size of a repository's manifest
abbrev pub stat_manifest : Catalog → Text → Text → Result ℕ Refusal
stat_manifest C repo name = do
  bytes ← get_manifest C repo name
  Ok (length bytes)

-- the use and the quota of a repository's tenant
abbrev pub usage : Catalog → Text → Result Usage Refusal
usage C repo = do
  t ← tenant C repo
  Ok (record { used = used_bytes C t; quota = quota_of C t })

-- the number of the distinct blobs of a repository's tenant, and its share
abbrev pub slot_use : Catalog → Text → Result SlotUse Refusal
slot_use C repo = do
  t ← tenant C repo
  Ok (record { blobs = held_count C t; share = share_of C t })

-- the number of the repositories of a repository's tenant
abbrev pub repo_count : Catalog → Text → Result ℕ Refusal
repo_count C repo = do
  t ← tenant C repo
  Ok (tenant_repo_count C.tenants C.repos t)

-- the number of slots that are neither used nor retired
abbrev pub free_slots : Catalog → ℕ
free_slots C = C.slots - (fmap.len C.residents + C.retired)
