-- The invariant of a catalog, and the theorems about counts, uses and references.
use Rattle.std.specs.Prelude.{◌≡◌, ◌≢◌, ℕ, ◌+◌, ◌<◌, ◌≤◌, ◌^◌, true, false, Some, Err, List, [], length, IsSome, sum_by, count_by, slice_index}
use Rattle.std.specs.List.{AllByRecursion}
use Rattle.std.specs.Ordering.{eq_by_cmp}
use Rattle.std.specs.FinMap as fmap
use Rattle.blob_digest.specs.Digests.{sha256_text}
use Rattle.spec_lib.specs.Sets as set
use Rattle.oci_manifest.specs.Manifests.{refs_of, max_manifest}
use Rattle.std.specs.declared.cmp.Ordering.TheVariants.{Less}
use Rattle.blob_digest.specs.Slots.{greatest_slots}
use Rattle.blob_digest.specs.declared.refusal.Refusal.TheVariants.{Referenced}
use Rattle.store_model.specs.Commands.{refers, delete, is_named}
use Rattle.spec_lib.specs.Texts.{Text, same_text, text_cmp}
use Rattle.store_model.specs.Catalog.{Link, SessionNumber, Session, Resident, Catalog, tenant_of, quota_of, share_of, link_count, blob_length, used_bytes, held_digests, held_count, session_charges_of, open_sessions, manifests_of, charged_length, Tenant, is_repo_of_tenant, tenant_repo_count, link_cmp}
use Rattle.store_model.specs.Sessions.{at_home}
use Rattle.blob_digest.specs.Tenants.{AreSupported, greatest_limits}

-- an open session is well-formed
pub record IsWellFormedSession (known : List Tenant) (present : set.Set text_cmp) (longest : ℕ) (next : List ℕ) (key : SessionNumber) (s : Session) : Type 0 where
  -- its repository exists
  pub repo : set.contains present s.repo ≡ true
  -- its repository belongs to its tenant
  pub tenant : is_repo_of_tenant known key.0 s.repo ≡ true
  -- it has no empty chunk
  pub chunks : AllByRecursion (λ c. c ≢ []) (at_home s.chunks)
  -- the bytes received and reserved are within the limit on blobs
  pub small : charged_length s ≤ longest
  -- its number is positive
  pub positive : 0 < key.1
  -- its number was given before
  pub number : key.1 < slice_index next key.0

-- a manifest is stored under the digest of its bytes in a repository that contains each of its references
pub record IsWellFormedManifest (present : set.Set text_cmp) (links : set.Set link_cmp) (l : Link) (bytes : Text) : Type 0 where
  pub repo : set.contains present l.0 ≡ true
  pub name : l.1 ≡ sha256_text bytes
  pub small : length bytes ≤ max_manifest
  pub refs : (refs : List Text) × (refs_of bytes ≡ Some refs) × AllByRecursion (λ d. set.contains links (l.0, d) ≡ true) refs

-- a link is of an existing repository and a stored blob that is not condemned
pub record IsWellFormedLink (present : set.Set text_cmp) (residents : fmap.FinMap text_cmp Resident) (l : Link) : Type 0 where
  pub repo : set.contains present l.0 ≡ true
  pub kept : (b : Resident) × (fmap.get residents l.1 ≡ Some b) × (b.condemned ≡ false)

-- no name of a tenant occurs twice, and the tenants are within the limits of a store
pub record AreWithinLimits (known : List Tenant) (longest : ℕ) : Type 0 where
  pub tenants : (0 < length known) × (length known ≤ 4096)
  pub names_apart : (name : Text) → count_by (λ t. same_text t.name name) known ≤ 1
  pub max_blob : longest ≤ 2 ^ 40
  pub quotas : AllByRecursion (λ t. t.quota ≤ 2 ^ 50) known
  pub limits : AllByRecursion (λ t. AreSupported t.limits) known

-- each repository belongs to a tenant, no tenant has more than the greatest limit, and no name is longer than 255 bytes
pub record AreWellFormedRepositories (known : List Tenant) (present : set.Set text_cmp) : Type 0 where
  pub owned : (r : Text) → set.contains present r ≡ true → IsSome (tenant_of known r)
  pub few : (t : ℕ) → tenant_repo_count known present t ≤ greatest_limits.repos
  pub short_names : (r : Text) → set.contains present r ≡ true → length r ≤ 255

-- each tenant has a next session number, from 1 to 2^32
pub record AreWellFormedNumbers (known : List Tenant) (next : List ℕ) : Type 0 where
  pub one_each : length next ≡ length known
  pub from_one : (t : ℕ) → t < length known → 0 < slice_index next t
  pub few : (t : ℕ) → slice_index next t ≤ 2 ^ 32

-- a session of a catalog is well-formed
abbrev pub WellFormedSession : Catalog → SessionNumber → Session → Type 0
WellFormedSession C = IsWellFormedSession C.tenants C.repos C.contents.max_blob C.next

-- a manifest of a catalog is well-formed
abbrev pub WellFormedManifest : Catalog → Link → Text → Type 0
WellFormedManifest C = IsWellFormedManifest C.repos C.links

-- a link of a catalog is well-formed
abbrev pub WellFormedLink : Catalog → Link → Type 0
WellFormedLink C = IsWellFormedLink C.repos C.residents

-- A catalog is well-formed; each part of this reads only some fields of the catalog.
pub record WellFormed (C : Catalog) : Type 0 where
  pub content : (d : Text) (b : Resident) → fmap.get C.residents d ≡ Some b → is_named C.contents d b.bytes ≡ true
  pub links : (l : Link) → set.contains C.links l ≡ true → WellFormedLink C l
  pub manifests : (l : Link) (bytes : Text) → fmap.get C.manifests l ≡ Some bytes → WellFormedManifest C l bytes
  pub sessions : (key : SessionNumber) (s : Session) → fmap.get C.sessions key ≡ Some s → WellFormedSession C key s
  pub repositories : AreWellFormedRepositories C.tenants C.repos
  pub numbering : AreWellFormedNumbers C.tenants C.next
  pub limits : AreWithinLimits C.tenants C.contents.max_blob
  pub few_sessions : (t : ℕ) → open_sessions C t ≤ greatest_limits.sessions
  pub few_manifests : (r : Text) → manifests_of C r ≤ greatest_limits.manifests

-- No tenant's use exceeds its quota.
abbrev pub KeepsQuotas : Catalog → Type 0
KeepsQuotas C = (t : ℕ) → t < length C.tenants → used_bytes C t ≤ quota_of C t

-- No tenant's repositories contain more distinct blobs than its share.
abbrev pub KeepsShares : Catalog → Type 0
KeepsShares C = (t : ℕ) → t < length C.tenants → held_count C t ≤ share_of C t

-- The stored blobs and the retired slots are at most as many as the slots, of which there are 1 to 2^24.
pub record FitSlots (slots : ℕ) (residents : fmap.FinMap text_cmp Resident) (retired : ℕ) : Type 0 where
  pub some : 0 < slots
  pub few : slots ≤ greatest_slots
  pub fit : fmap.len residents + retired ≤ slots

-- the blobs and retired slots of a catalog fit its slots
abbrev pub FitsSlots : Catalog → Type 0
FitsSlots C = FitSlots C.slots C.residents C.retired

-- A catalog is sound: it is well-formed, no tenant exceeds its quota or its share, and its blobs fit the slots.
pub record Sound (C : Catalog) : Type 0 where
  pub lawful : WellFormed C
  pub quotas : KeepsQuotas C
  pub shares : KeepsShares C
  pub slots : FitsSlots C

-- ---- counts and uses

-- In every well-formed catalog, the number of repositories that contain a digest is the number of links to it.
abbrev pub CountsAreLinks : Type 0
CountsAreLinks = (C : Catalog) → WellFormed C → (d : Text) → link_count C d ≡ count_by (λ l. eq_by_cmp text_cmp d l.1) (set.items C.links)

-- In every well-formed catalog, a tenant's use is the total size of its distinct linked blobs plus its sessions' bytes.
abbrev pub UsesAreDistinct : Type 0
UsesAreDistinct = (C : Catalog) → WellFormed C → (t : ℕ) → used_bytes C t ≡ sum_by (blob_length C) (set.items (held_digests C t)) + session_charges_of C t

-- ---- blobs that can't be deleted

-- the manifest of this name in a repository refers to a digest
abbrev pub RefersTo : Catalog → Text → Text → Text → Type 0
RefersTo C repo name digest = (bytes : Text) × (fmap.get C.manifests (repo, name) ≡ Some bytes) × (refers bytes digest ≡ true)

-- the name is the least one of the repository's manifests that refer to a digest
pub record IsLeastReferrer (C : Catalog) (repo digest name : Text) : Type 0 where
  pub refers : RefersTo C repo name digest
  pub least : (other : Text) → RefersTo C repo other digest → text_cmp other name ≢ Less

-- A delete of a blob to which a manifest of the repository refers fails with `Referenced`, naming the least such manifest.
abbrev pub ReferencedStays : Type 0
ReferencedStays = (C : Catalog) → WellFormed C → (repo digest name : Text) → RefersTo C repo name digest →
    (least : Text) × IsLeastReferrer C repo digest least × (delete C repo digest ≡ Err (Referenced least))
