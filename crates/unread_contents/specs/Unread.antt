-- A store with contents on disk that has not read them since its start. Its commands depend on a stored content by its length alone.
use Rattle.std.specs.Prelude.{◌≡◌, ◌<◌, ◌⊎◌, ℕ, true, List, [], ◌∷◌, ◌++◌, Option, Some, None, Ok, length}
use Rattle.std.specs.List.{Contains}
use Rattle.std.specs.FinMap as fmap
use Rattle.content_files.specs.Notes.{is_read}
use Rattle.blob_digest.specs.Digests.{is_digest_of}
use Rattle.spec_lib.specs.Texts.{Text}
use Rattle.store_model.specs.Catalog.{Catalog, Resident, Tenant}
use Rattle.store_model.specs.Histories.{CommandCall, LeadsTo, State, Step, initial_state}
use Rattle.store_model.specs.HistoryIsolation.{AreOwnReplies, catalog_after_requests, isolated_steps, requests_of, steps_of, uploads_of_history}
use Rattle.store_model.specs.Invariant.{Sound}
use Rattle.store_model.specs.Noninterference.{AreTenantsAlike, NoCollision, TenantView, tenant_view}
use Rattle.store_model.specs.Restarts.{stored_contents, with_others}
use Rattle.store_model.specs.Runs.{Bytes, Lease}

-- ---- contents: lists of numbers, of which those below 256 are bytes that were read

-- the second content is as long as the first one, and has its bytes where they were read
abbrev pub IsReadAs : Text → Text → Type 0
IsReadAs [] [] = Unit {0}
IsReadAs (known ∷ rest) (b ∷ bytes) = (known < 256 → known ≡ b) × IsReadAs rest bytes
IsReadAs known content = ⊥

-- two contents are as long, and have the same bytes where both were read
abbrev pub AgreeWhereRead : Text → Text → Type 0
AgreeWhereRead [] [] = Unit {0}
AgreeWhereRead (a ∷ one) (b ∷ other) = (a < 256 → b < 256 → a ≡ b) × AgreeWhereRead one other
AgreeWhereRead one other = ⊥

-- Contents that agree are as long, and the same if all of both was read.
abbrev pub ReadContentsAreTheSame : Type 0
ReadContentsAreTheSame = (one other : Text) → AgreeWhereRead one other → (length one ≡ length other) × (is_read one ≡ true → is_read other ≡ true → one ≡ other)

-- ---- catalogs

-- The second blob is the first one with its content read.
pub record IsReadBlob (known full : Resident) : Type 0 where
  pub content : IsReadAs known.bytes full.bytes
  pub rest : full ≡ record known { bytes = full.bytes }

-- both are missing, or the second one is the first one with its content read
abbrev pub AreReadBlobs : Option Resident → Option Resident → Type 0
AreReadBlobs None None = Unit {0}
AreReadBlobs (Some known) (Some full) = IsReadBlob known full
AreReadBlobs known full = ⊥

-- The second catalog is the first one with its contents read.
pub record IsReadCatalog (C F : Catalog) : Type 0 where
  pub residents : (digest : Text) → AreReadBlobs (fmap.get C.residents digest) (fmap.get F.residents digest)
  pub rest : F ≡ record C { residents = F.residents }

-- each stored content has the digest that it is stored under
abbrev pub HaveTheirDigests : Catalog → Type 0
HaveTheirDigests F = (digest : Text) (b : Resident) → fmap.get F.residents digest ≡ Some b → is_digest_of digest b.bytes ≡ true

-- A sound catalog with its contents read is sound, if they have their digests.
abbrev pub ReadCatalogsAreSound : Type 0
ReadCatalogsAreSound = (C F : Catalog) → C.contents.on_disk ≡ true → IsReadCatalog C F → HaveTheirDigests F → Sound C → Sound F

-- ---- steps and views that are the same but for contents

-- The steps are leases of one blob, which return related contents.
pub record AreLeases (related : Text → Text → Type 0) (x y : Step) : Type 0 where
  pub repo : Text
  pub digest : Text
  pub one : Text
  pub other : Text
  pub first : x ≡ CommandCall (Lease repo digest) (Ok (Bytes one))
  pub second : y ≡ CommandCall (Lease repo digest) (Ok (Bytes other))
  pub contents : related one other

-- two steps are the same, but for the content that a lease returns
abbrev pub AreStepsUpTo : (Text → Text → Type 0) → Step → Step → Type 0
AreStepsUpTo related x y = (x ≡ y) ⊎ AreLeases related x y

-- two lists of steps are the same, but for the contents that leases return
abbrev pub AreHistoriesUpTo : (Text → Text → Type 0) → List Step → List Step → Type 0
AreHistoriesUpTo related [] [] = Unit {0}
AreHistoriesUpTo related (x ∷ xs) (y ∷ ys) = AreStepsUpTo related x y × AreHistoriesUpTo related xs ys
AreHistoriesUpTo related xs ys = ⊥

-- two lists have the same digests, with related contents
abbrev pub AreContentsUpTo : (Text → Text → Type 0) → List (Text × Text) → List (Text × Text) → Type 0
AreContentsUpTo related [] [] = Unit {0}
AreContentsUpTo related (x ∷ xs) (y ∷ ys) = (x.0 ≡ y.0) × related x.1 y.1 × AreContentsUpTo related xs ys
AreContentsUpTo related xs ys = ⊥

-- Two views of a tenant are the same, but for the contents of its blobs.
pub record AreViewsUpTo (related : Text → Text → Type 0) (v w : TenantView) : Type 0 where
  pub blobs : AreContentsUpTo related v.blobs w.blobs
  pub rest : w ≡ record v { blobs = w.blobs }

-- ---- histories

-- A history of the store F, with the same steps but for the contents that leases return. It leads to the same state with its contents read.
pub record HasReadHistory (F : Catalog) (steps : List Step) (s : State) : Type 0 where
  pub full_steps : List Step
  pub full : State
  pub run : LeadsTo F full_steps full
  pub same_steps : AreHistoriesUpTo IsReadAs steps full_steps
  pub catalog : IsReadCatalog s.catalog full.catalog
  pub totals : full.totals ≡ s.totals

-- Each history of a store with contents on disk is one of the same store with its contents read.
abbrev pub HistoriesAreRead : Type 0
HistoriesAreRead = (C F : Catalog) (steps : List Step) (s : State) → C.contents.on_disk ≡ true → IsReadCatalog C F → LeadsTo C steps s → HasReadHistory F steps s

-- ---- isolation

-- A tenant's steps, and its view at the end, are those of its isolated history from the catalog D, but for contents, which are related.
pub record IsIsolatedUpTo (related : Text → Text → Type 0) (C D : Catalog) (t : ℕ) (steps : List Step) (s : State) : Type 0 where
  pub replies : AreHistoriesUpTo related (steps_of C.tenants t steps) (isolated_steps D (requests_of (steps_of C.tenants t steps)))
  pub tenant_view : AreViewsUpTo related (tenant_view s.catalog t) (tenant_view (catalog_after_requests D (requests_of (steps_of C.tenants t steps))) t)

-- No two uploads have different contents with the same digest. An upload of a stored digest has the bytes of the stored content that were read.
pub record NoCollisionOnDisk (C : Catalog) (uploads : List (Text × Text)) : Type 0 where
  pub no_collision : NoCollision uploads
  pub stored : (digest content : Text) (b : Resident) → fmap.get C.residents digest ≡ Some b → Contains uploads (digest, content) → IsReadAs b.bytes content

-- The steps lead from a sound catalog, with contents on disk, to a state. Their uploads do not collide with each other or with a stored content.
-- No reply to the tenant is one that others may cause.
pub record IsFairOnDisk (C : Catalog) (t : ℕ) (steps : List Step) (s : State) : Type 0 where
  pub on_disk : C.contents.on_disk ≡ true
  pub sound : Sound C
  pub run : LeadsTo C steps s
  pub uploads : NoCollisionOnDisk C (uploads_of_history (initial_state C) steps s run)
  pub own_replies : AreOwnReplies C.tenants t (initial_state C) steps s run

-- A tenant's replies and its view at the end are those of its isolated history, but for bytes that were not read in one of both, whatever settings the others have in it.
abbrev pub TenantsAreIsolatedOnDisk : Type 0
TenantsAreIsolatedOnDisk = (C : Catalog) (others : List Tenant) (t : ℕ) (steps : List Step) (s : State) →
    AreTenantsAlike t C.tenants others → IsFairOnDisk C t steps s → IsIsolatedUpTo AgreeWhereRead C (with_others C others) t steps s

-- The steps lead from a sound catalog, with contents on disk, to a state. F is this catalog with its contents read, which have their digests.
-- No two contents of F and of the uploads differ and have the same digest. No reply to the tenant is one that others may cause.
pub record IsFairAsRead (C F : Catalog) (t : ℕ) (steps : List Step) (s : State) : Type 0 where
  pub on_disk : C.contents.on_disk ≡ true
  pub sound : Sound C
  pub read : IsReadCatalog C F
  pub digests : HaveTheirDigests F
  pub run : LeadsTo C steps s
  pub no_collision : NoCollision (stored_contents F ++ uploads_of_history (initial_state C) steps s run)
  pub own_replies : AreOwnReplies C.tenants t (initial_state C) steps s run

-- A tenant's replies and its view at the end are those of its isolated history from F, but for bytes that were not read, whatever settings the others have in it.
abbrev pub TenantsReadTheirContents : Type 0
TenantsReadTheirContents = (C F : Catalog) (others : List Tenant) (t : ℕ) (steps : List Step) (s : State) →
    AreTenantsAlike t C.tenants others → IsFairAsRead C F t steps s → IsIsolatedUpTo IsReadAs C (with_others F others) t steps s
