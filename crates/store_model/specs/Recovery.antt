-- The catalog of a restarted store, the survival of crashes, and rewritten logs.
use Rattle.std.specs.Prelude.{◌≡◌, ℕ, ◌≤◌, ◌^◌, Bool, false, IfSome, List, ◌∷◌, ◌++◌, flat_map, length, map, ◌<◌, Some}
use Rattle.std.specs.List.{AllByRecursion, enumerate_from, list_any}
use Rattle.std.specs.FinMap as fmap
use Rattle.blob_digest.specs.Slots.{greatest_slots}
use Rattle.spec_lib.specs.Sets as set
use Rattle.spec_lib.specs.Texts.{Text, text_cmp}
use Rattle.store_model.specs.Catalog.{Catalog, HandRecord, Resident, Session, SessionNumber, Tenant, charged_length, held_count, opening, quota_of, share_of, used_bytes, ContentRules}
use Rattle.store_model.specs.Durable.{Agrees, AreReturnedAsTaken, BlobLinked, BlobStored, Change, ChunkReceived, DurableState, IsTornLog, ManifestPut, NumberSet, RepoAdded, SessionOpened, TakenSessions, after_changes, changes_of, initial_durable}
use Rattle.store_model.specs.Histories.{CommandCall, FinishCall, LeadsTo, PutBackCall, State, Step}
use Rattle.store_model.specs.Invariant.{Sound, WellFormed}
use Rattle.store_model.specs.Runs.{repo_of}
use Rattle.store_model.specs.Sessions.{HasNoOpenReserve, at_home}
use Rattle.blob_digest.specs.Tenants.{AreSupported}

-- ---- the catalog of a restarted store

-- whether some repository links a digest
abbrev pub is_linked : DurableState → Text → Bool
is_linked D digest = list_any (λ r. set.contains D.links (r, digest)) (set.items D.repos)

-- the contents of the linked digests
abbrev pub linked_contents : DurableState → fmap.FinMap text_cmp Text
linked_contents D = fmap.retain_keys D.contents (is_linked D)

-- a stored blob with these bytes, neither condemned nor leased
abbrev pub restored_blob : Text → Resident
restored_blob bytes = record { bytes = bytes; condemned = false; lent = false }

-- the stored blobs of a restarted store: those of the linked digests
abbrev pub restored_blobs : DurableState → fmap.FinMap text_cmp Resident
restored_blobs D =
    fmap.from_entries (map {B = Text × Resident} (λ e. (e.0, restored_blob e.1)) (fmap.entries (linked_contents D)))

-- the catalog of a store that was restarted with this number of slots and this limit on blobs
abbrev pub restored_catalog : DurableState → ℕ → ContentRules → Catalog
restored_catalog D slots contents = record {
  tenants = D.tenants;
  slots = slots;
  contents = contents;
  repos = D.repos;
  links = D.links;
  manifests = D.manifests;
  sessions = D.sessions;
  next = D.next;
  residents = restored_blobs D;
  retired = 0;
}

-- the restored catalog is sound, agrees with the durable state, and no tenant uses more than in the catalog C
pub record IsRestored (D : DurableState) (C : Catalog) (slots : ℕ) (contents : ContentRules) : Type 0 where
  pub sound : Sound (restored_catalog D slots contents)
  pub agrees : Agrees fmap.empty D (restored_catalog D slots contents)
  pub uses : (t : ℕ) → used_bytes (restored_catalog D slots contents) t ≤ used_bytes C t

-- A store restarts with a durable state that agrees with a sound catalog, if neither the slots nor the limit on blobs are lowered, and contents lie
-- where they did.
abbrev pub StoresRestart : Type 0
StoresRestart = (taken : TakenSessions) (D : DurableState) (C : Catalog) → Agrees taken D C → Sound C →
    (slots : ℕ) (contents : ContentRules) → C.slots ≤ slots → slots ≤ greatest_slots → C.contents.max_blob ≤ contents.max_blob → contents.max_blob ≤ 2 ^ 40 → contents.on_disk ≡ C.contents.on_disk →
    IsRestored D C slots contents

-- ---- other settings

-- the durable state with other tenants
abbrev pub with_tenants : DurableState → List Tenant → DurableState
with_tenants D tenants = record D { tenants = tenants }

-- the tenant's restored use is within its quota
abbrev pub FitsQuota : DurableState → ℕ → ContentRules → ℕ → Type 0
FitsQuota D slots contents t =
    used_bytes (restored_catalog D slots contents) t ≤ quota_of (restored_catalog D slots contents) t

-- the tenant's restored blobs are within its share
abbrev pub FitsShare : DurableState → ℕ → ContentRules → ℕ → Type 0
FitsShare D slots contents t =
    held_count (restored_catalog D slots contents) t ≤ share_of (restored_catalog D slots contents) t

-- A durable state fits these tenants, slots and limit on blobs.
pub record CanRestore (D : DurableState) (tenants : List Tenant) (slots : ℕ) (contents : ContentRules) : Type 0 where
  -- the tenants have the same names; only their quotas, shares and limits may differ
  pub names : map (λ t. t.name) tenants ≡ map (λ t. t.name) D.tenants
  pub quotas : AllByRecursion (λ t. t.quota ≤ 2 ^ 50) tenants
  pub limits : AllByRecursion (λ t. AreSupported t.limits) tenants
  pub some : (0 < slots) × (slots ≤ greatest_slots)
  -- the linked blobs fit the slots
  pub fit : fmap.len (restored_blobs D) ≤ slots
  pub limit : contents.max_blob ≤ 2 ^ 40
  -- each open session is within the limit on blobs
  pub small : (key : SessionNumber) (s : Session) →
      fmap.get D.sessions key ≡ Some s → charged_length s ≤ contents.max_blob
  -- no tenant exceeds its quota
  pub uses : (t : ℕ) → t < length tenants → FitsQuota (with_tenants D tenants) slots contents t
  -- no tenant exceeds its share
  pub shares : (t : ℕ) → t < length tenants → FitsShare (with_tenants D tenants) slots contents t

-- the restored catalog is sound and agrees with the durable state
abbrev pub IsSoundRestart : DurableState → ℕ → ContentRules → Type 0
IsSoundRestart D slots contents =
    Sound (restored_catalog D slots contents) × Agrees fmap.empty D (restored_catalog D slots contents)

-- A store restarts with other settings that its durable state fits, if contents lie where they did.
abbrev pub StoresRestartWithOtherSettings : Type 0
StoresRestartWithOtherSettings = (taken : TakenSessions) (D : DurableState) (C : Catalog) →
    Agrees taken D C → WellFormed C → (tenants : List Tenant) (slots : ℕ) (contents : ContentRules) →
    CanRestore D tenants slots contents → contents.on_disk ≡ C.contents.on_disk → IsSoundRestart (with_tenants D tenants) slots contents

-- ---- crashes

-- a chunk that was filled into the hand has the reserved length
abbrev pub FillsReserve : HandRecord → Type 0
FillsReserve h = IfSome h.last (λ b. length b ≡ h.reserved)

-- the repository name of a command has at most 255 bytes, and a returned hand's chunk has the reserved length
abbrev pub IsWellFormedStep : Step → Type 0
IsWellFormedStep (CommandCall command reply) = length (repo_of command) ≤ 255
IsWellFormedStep (PutBackCall h reply) = FillsReserve h
IsWellFormedStep (FinishCall h d reply) = FillsReserve h × HasNoOpenReserve h
IsWellFormedStep step = Unit {0}

-- A store whose log kept these changes restarts with its state after some first steps of the history.
pub record SurvivesCrash (D : DurableState) (C : Catalog) (done later : List Step) (kept : List Change) : Type 0 where
  pub cut : IsTornLog D C done later kept
  pub restored : IsRestored (after_changes D (changes_of D.tenants done ++ kept)) cut.at.catalog C.slots C.contents

-- A store that opened with a sound catalog and an agreeing durable state survives a crash in which its log lost its last records.
abbrev pub StoresSurviveCrashes : Type 0
StoresSurviveCrashes = (D : DurableState) (C : Catalog) (done later : List Step) (s : State)
    (kept lost : List Change) → Agrees fmap.empty D C → Sound C → LeadsTo C (done ++ later) s →
    AreReturnedAsTaken fmap.empty (done ++ later) → AllByRecursion IsWellFormedStep (done ++ later) →
    changes_of D.tenants later ≡ kept ++ lost → SurvivesCrash D C done later kept

-- The initial durable state agrees with the catalog of a new store.
abbrev pub NewStoresAgree : Type 0
NewStoresAgree = (tenants : List Tenant) (slots : ℕ) (contents : ContentRules) →
    Agrees fmap.empty (initial_durable tenants) (opening tenants slots contents)

-- ---- rewritten logs

-- the changes that rebuild an open session
abbrev pub session_changes : SessionNumber × Session → List Change
session_changes e = SessionOpened e.1.repo e.0 ∷ map (ChunkReceived e.0) (at_home e.1.chunks)

-- the rewritten log: changes that rebuild the durable state from the initial one
abbrev pub rewritten_log : DurableState → List Change
rewritten_log D =
    map RepoAdded (set.items D.repos)
    ++ flat_map session_changes (fmap.entries D.sessions)
    ++ map (λ e. NumberSet e.0 e.1) (enumerate_from 0 D.next)
    ++ map (λ e. BlobStored e.0 e.1) (fmap.entries (linked_contents D))
    ++ map (λ l. BlobLinked l.0 l.1) (set.items D.links)
    ++ map (λ e. ManifestPut e.0.0 e.1) (fmap.entries D.manifests)

-- the durable state after the rewritten log
abbrev pub rewritten_state : DurableState → DurableState
rewritten_state D = after_changes (initial_durable D.tenants) (rewritten_log D)

-- the rewritten log rebuilds the durable state except for contents without a link, and agrees with the catalog C
pub record IsRewritten (taken : TakenSessions) (D : DurableState) (C : Catalog) : Type 0 where
  pub same : rewritten_state D ≡ record D { contents = linked_contents D }
  pub agrees : Agrees taken (rewritten_state D) C

-- If a durable state agrees with a well-formed catalog, so does its rewritten log.
abbrev pub RewrittenLogsAgree : Type 0
RewrittenLogsAgree = (taken : TakenSessions) (D : DurableState) (C : Catalog) →
    Agrees taken D C → WellFormed C → IsRewritten taken D C
