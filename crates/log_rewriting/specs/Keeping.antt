-- What a filter keeps of a log, and the changes that it gives in place of one.
use Rattle.std.specs.Prelude.{◌≡◌, true, if◌then◌else◌, ℕ, Bool, false, List, [], ◌∷◌, Option, Some, codes, slice_get}
use Rattle.std.specs.List.{list_all}
use Rattle.std.specs.Option.{option_map_or}
use Rattle.std.specs.declared.cmp.Ordering.{Ordering}
use Rattle.std.specs.BTreeMap as tree
use Rattle.std.specs.BTreeSet as tree_set
use Rattle.std.specs.Cmp.Lexicographic.{slice_cmp}
use Rattle.std.specs.Ordering.{nat_cmp, ordering_then}
use Rattle.blob_digest.specs.Names.{tenant_name}
use Rattle.log_records.specs.Changes.{BlobLinked, BlobUnlinked, Change, ChunkNoted, ChunkReceived, ManifestDeleted, ManifestPut, RepoRemoved, SealNoted, SessionDropped, SessionOpened, SessionSealed, change_view}
use Rattle.log_rewriting.specs.declared.blobs.Blob.{Blob}
use Rattle.log_rewriting.specs.declared.filter.Filter.{Filter}
use Rattle.log_rewriting.specs.declared.kept.Kept.{Kept}
use Rattle.log_rewriting.specs.declared.kept.Kept.TheVariants as kept
use Rattle.log_rewriting.specs.declared.place.Place.{Place}
use Rattle.log_rewriting.specs.declared.place.Place.TheVariants as place
use Rattle.log_rewriting.specs.declared.seals.LastSeal.{LastSeal}

-- the changes in place of one, as a list
abbrev pub kept_view : Kept → List Change
kept_view kept.Nothing = []
kept_view (kept.One c) = change_view c ∷ []
kept_view (kept.Two c d) = change_view c ∷ change_view d ∷ []

-- the order of sessions: by the number of the tenant, then by their own
abbrev pub session_cmp : ℕ × ℕ → ℕ × ℕ → Ordering
session_cmp x y = ordering_then (nat_cmp x.0 y.0) (nat_cmp x.1 y.1)

-- the set has the session
abbrev pub HasSession : tree_set.BTreeSet (ℕ × ℕ) → ℕ × ℕ → Type 0
HasSession s k = tree_set.contains session_cmp s k ≡ true

-- the set has each of the sessions
abbrev pub HasSessions : tree_set.BTreeSet (ℕ × ℕ) → List (ℕ × ℕ) → Type 0
HasSessions s ks = list_all (tree_set.contains session_cmp s) ks ≡ true

-- the session whose seal made a blob: the number of its tenant, and its own
abbrev pub blob_session : (ℕ × List ℕ) × Blob → ℕ × ℕ
blob_session e = (e.0.0, e.1.seal.number)

-- the session of the last seal of a digest: the number of its tenant, and its own
abbrev pub last_session : List ℕ × LastSeal → ℕ × ℕ
last_session e = (e.1.tenant, e.1.seal.number)

-- the second set has each session of the first
abbrev pub KeepsSessions : tree_set.BTreeSet (ℕ × ℕ) → tree_set.BTreeSet (ℕ × ℕ) → Type 0
KeepsSessions s t = (k : ℕ × ℕ) → HasSession s k → HasSession t k

-- the filter keeps each of the sessions
abbrev pub KeepsEach : Filter → List (ℕ × ℕ) → Type 0
KeepsEach F ks = HasSessions F.sessions ks

-- whether a tenant's session is kept
abbrev pub is_kept : Filter → List ℕ → ℕ → Bool
is_kept F tenant number =
    option_map_or
    (λ t. tree_set.contains session_cmp F.sessions (t, number))
    (tree.get_by (λ k. slice_cmp nat_cmp tenant k.items) F.tenants) false

-- what is kept in place of the record at an offset
abbrev pub place_at : Filter → ℕ → Option Place
place_at F offset = tree.get_by (nat_cmp offset) F.places

-- the name of a repository, by its number
abbrev pub name_of : Filter → ℕ → List ℕ
name_of F repo = option_map_or (λ name. name.items) (slice_get F.names.items repo) []

-- the change, if its session is kept
abbrev pub if_kept : Bool → Change → List Change
if_kept b change = if b then change ∷ [] else []

-- a session is opened; if it is not kept, it is abandoned at once
abbrev pub kept_opened : Filter → List ℕ → ℕ → List Change
kept_opened F repo number =
    SessionOpened repo number
    ∷ (if is_kept F (tenant_name repo) number then [] else SessionDropped (tenant_name repo) number ∷ [])

-- the kept link of a record; then another repository's link may be removed
abbrev pub kept_link : Filter → Option Place → List ℕ → List Change
kept_link F (Some (place.Link repo unlinked)) digest =
    BlobLinked (name_of F repo) digest ∷ option_map_or (λ u. BlobUnlinked (name_of F u) digest ∷ []) unlinked []
kept_link F p digest = []

-- a seal that is kept; then a repository's link may be removed
abbrev pub kept_seal : Filter → Option Place → List ℕ → Change → List Change
kept_seal F (Some (place.Link repo (Some u))) digest seal = seal ∷ BlobUnlinked (name_of F u) digest ∷ []
kept_seal F p digest seal = seal ∷ []

-- a seal of a session that is kept, or the kept link of its record
abbrev pub kept_sealed : Filter → Bool → Option Place → List ℕ → Change → List Change
kept_sealed F b p digest seal = if b then kept_seal F p digest seal else kept_link F p digest

-- an image index without manifests
abbrev pub empty_index : List ℕ
empty_index = codes "{\"schemaVersion\":2,\"mediaType\":\"application/vnd.oci.image.index.v1+json\",\"manifests\":[]}"

-- its digest
abbrev pub empty_index_digest : List ℕ
empty_index_digest = codes "sha256:dff9de10919148711140d349bf03f1a99eb06f94b03e51715ccebfa7cdc518e2"

-- a repository is created: a manifest that refers to nothing is put into it and deleted
abbrev pub empty_repo : List ℕ → List Change
empty_repo repo = ManifestPut repo empty_index ∷ ManifestDeleted repo empty_index_digest ∷ []

-- the kept manifest of a record, or its repository
abbrev pub kept_manifest : Option Place → List ℕ → List ℕ → List Change
kept_manifest (Some place.Manifest) repo bytes = ManifestPut repo bytes ∷ []
kept_manifest (Some place.Repo) repo bytes = empty_repo repo
kept_manifest p repo bytes = []

-- the link of a record, or its repository
abbrev pub kept_mount : Filter → Option Place → List ℕ → List ℕ → List Change
kept_mount F (Some place.Repo) repo digest = empty_repo repo
kept_mount F p repo digest = kept_link F p digest

-- the changes of the rewritten log in place of a change whose record is at an offset
abbrev pub kept_changes : Filter → Change → ℕ → List Change
kept_changes F (SessionOpened repo number) offset = kept_opened F repo number
kept_changes F (ChunkReceived tenant number bytes) offset =
    if_kept (is_kept F tenant number) (ChunkReceived tenant number bytes)
kept_changes F (ChunkNoted tenant number notes) offset =
    if_kept (is_kept F tenant number) (ChunkNoted tenant number notes)
kept_changes F (SessionSealed tenant number digest last) offset =
    kept_sealed F (is_kept F tenant number) (place_at F offset) digest (SessionSealed tenant number digest last)
kept_changes F (SealNoted tenant number digest notes) offset =
    kept_sealed F (is_kept F tenant number) (place_at F offset) digest (SealNoted tenant number digest notes)
kept_changes F (BlobLinked repo digest) offset = kept_mount F (place_at F offset) repo digest
kept_changes F (ManifestPut repo bytes) offset = kept_manifest (place_at F offset) repo bytes
kept_changes F (RepoRemoved repo) offset = RepoRemoved repo ∷ []
kept_changes F change offset = []
