-- Shares of the slots: if the tenants' shares fit the slots, linked blobs alone never fill the store.
use Rattle.std.specs.Prelude.{◌≡◌, ℕ, ◌+◌, ◌<◌, ◌≤◌, Option, Err, count_by, sum_by}
use Rattle.std.specs.FinMap as fmap
use Rattle.blob_digest.specs.declared.range.ByteRange.{ByteRange}
use Rattle.blob_digest.specs.declared.refusal.Refusal.TheVariants.{StoreFull}
use Rattle.spec_lib.specs.Texts.{Text}
use Rattle.store_model.specs.Catalog.{Catalog, HandRecord}
use Rattle.store_model.specs.Commands.{close, finish}
use Rattle.store_model.specs.Invariant.{Sound}
use Rattle.store_model.specs.Sweep.{IsSweep, is_orphan}
use Rattle.store_model.specs.declared.swept.Swept.{Swept}

-- all tenants' shares together are at most the slots
abbrev pub SharesFit : Catalog → Type 0
SharesFit C = sum_by (λ t. t.share) C.tenants ≤ C.slots

-- the number of stored blobs that no repository contains
abbrev pub orphan_count : Catalog → ℕ
orphan_count C = count_by (λ e. is_orphan C e.0) (fmap.entries C.residents)

-- some close or finish fails with `StoreFull` in the catalog
pub data IsFull (C : Catalog) : Type 0 where
  AtClose : (repo : Text) (number : ℕ) (digest : Text) (range : Option ByteRange) (last : Text) →
      close C repo number digest range last ≡ Err StoreFull → IsFull C
  AtFinish : (hand : HandRecord) (digest : Text) → finish C hand digest ≡ Err StoreFull → IsFull C

-- If the shares fit the slots and the store is full for a tenant, an orphan or a retired slot takes the place.
abbrev pub FullStoresHaveOrphans : Type 0
FullStoresHaveOrphans = (C : Catalog) → Sound C → SharesFit C → IsFull C → 0 < orphan_count C + C.retired

-- Directly after a sweep it is a slot that leases hold, or a retired one.
abbrev pub SweptStoresAreFullByLeases : Type 0
SweptStoresAreFullByLeases = (C C' : Catalog) (swept : Swept) → Sound C → SharesFit C → IsSweep C swept C' → IsFull C' →
    0 < swept.held + C'.retired
