-- The durable state of a store, the changes of it that a log records, and the theorems about a log and the history that it records.
use Rattle.std.specs.Prelude.{◌≡◌, ◌≢◌, ℕ, ◌+◌, true, Option, Some, None, Ok, List, [], ◌∷◌, ◌++◌, length, map, sum_by, fold, filter_map, slice_set, if◌then◌else◌}
use Rattle.std.specs.Option.{option_map_or}
use Rattle.std.specs.FinMap as fmap
use Rattle.std.specs.List.{AllByRecursion}
use Rattle.blob_digest.specs.Digests.{sha256_text}
use Rattle.spec_lib.specs.Sets as set
use Rattle.spec_lib.specs.Texts.{Text, text_cmp}
use Rattle.store_model.specs.Catalog.{Catalog, CheckedIn, CheckedOutWith, Chunks, HandRecord, Link, Resident, Session, SessionNumber, Tenant, link_cmp, opening, session_number_cmp, tenant_of, ContentRules}
use Rattle.store_model.specs.Histories.{AreSteps, CommandCall, FinishCall, LeadsTo, PutBackCall, State, Step, TakeCall}
use Rattle.store_model.specs.Runs.{Abandon, Answer, Append, Close, Command, Delete, DeleteManifest, Event, Mount, Mounting, Number, PutManifest, RemoveRepo, Start}
use Rattle.store_model.specs.Sessions.{Sessions, after_append_in, content_in}
use Rattle.store_model.specs.WholeCommands.{AreWholeCommands}
use Rattle.store_model.specs.declared.mount.Mount.{Mount as MountResult}
use Rattle.store_model.specs.declared.mount.Mount.TheVariants as mount

-- ---- the durable state

-- the durable state of a store: all that a restart restores
pub record DurableState : Type 0 where
  -- the tenants, in the order of their numbers
  pub tenants : List Tenant
  -- the repositories
  pub repos : set.Set text_cmp
  -- the links: pairs of a repository and a digest that it contains
  pub links : set.Set link_cmp
  -- the manifests, by repository and digest
  pub manifests : fmap.FinMap link_cmp Text
  -- the open sessions with all chunks that they received, also those that are checked out
  pub sessions : Sessions
  -- each tenant's next session number
  pub next : List ℕ
  -- the contents of blobs, by digest; a content without a link has no meaning
  pub contents : fmap.FinMap text_cmp Text

-- the durable state of a new store
abbrev pub initial_durable : List Tenant → DurableState
initial_durable tenants = record {
  tenants = tenants;
  repos = set.empty_set;
  links = set.empty_set;
  manifests = fmap.empty;
  sessions = fmap.empty;
  next = map (λ _. 1) tenants;
  contents = fmap.empty;
}

-- ---- changes

-- a change of the durable state: the meaning of one record of a log; only rewritten logs have the last three
pub data Change : Type 0 where
  -- a session of a repository was opened under a key
  SessionOpened : Text → SessionNumber → Change
  -- a session received a chunk
  ChunkReceived : SessionNumber → Text → Change
  -- a session became a blob with this digest, and its repository links it; the last chunk is given
  SessionSealed : SessionNumber → Text → Text → Change
  -- a session was abandoned
  SessionDropped : SessionNumber → Change
  -- a repository linked a stored blob
  BlobLinked : Text → Text → Change
  -- a repository removed its link to a blob
  BlobUnlinked : Text → Text → Change
  -- a manifest was put into a repository
  ManifestPut : Text → Text → Change
  -- the manifest with this digest was deleted from a repository
  ManifestDeleted : Text → Text → Change
  -- a repository was removed
  RepoRemoved : Text → Change
  -- a repository exists
  RepoAdded : Text → Change
  -- a tenant has this next session number
  NumberSet : ℕ → ℕ → Change
  -- a digest has this content
  BlobStored : Text → Text → Change

-- a checked-in session of a repository
abbrev pub checked_in_session : Text → List Text → Session
checked_in_session repo chunks = record { repo = repo; chunks = CheckedIn chunks }

-- the durable state after a repository's session became a blob that the repository links
abbrev pub after_seal : DurableState → SessionNumber → Text → Text → Session → DurableState
after_seal D key digest last s = record D {
  links = set.insert D.links (s.repo, digest);
  sessions = fmap.remove D.sessions key;
  contents = fmap.insert D.contents digest (content_in D.sessions key last);
}

-- the durable state after a repository and a manifest in it were added
abbrev pub with_new_manifest : DurableState → Text → Text → DurableState
with_new_manifest D repo bytes = record D {
  repos = set.insert D.repos repo;
  manifests = fmap.insert D.manifests (repo, sha256_text bytes) bytes;
}

-- the durable state after a change
abbrev pub after_change : DurableState → Change → DurableState
after_change D (SessionOpened repo key) = record D {
  repos = set.insert D.repos repo;
  sessions = fmap.insert D.sessions key (checked_in_session repo []);
  next = slice_set D.next key.0 (key.1 + 1);
}
after_change D (ChunkReceived key bytes) = record D { sessions = after_append_in D.sessions key bytes }
after_change D (SessionSealed key digest last) =
    option_map_or (after_seal D key digest last) (fmap.get D.sessions key) D
after_change D (SessionDropped key) = record D { sessions = fmap.remove D.sessions key }
after_change D (BlobLinked repo digest) = record D {
  repos = set.insert D.repos repo;
  links = set.insert D.links (repo, digest);
}
after_change D (BlobUnlinked repo digest) = record D { links = set.remove D.links (repo, digest) }
after_change D (ManifestPut repo bytes) =
    if fmap.contains_key D.manifests (repo, sha256_text bytes) then D else with_new_manifest D repo bytes
after_change D (ManifestDeleted repo digest) = record D { manifests = fmap.remove D.manifests (repo, digest) }
after_change D (RepoRemoved repo) = record D { repos = set.remove D.repos repo }
after_change D (RepoAdded repo) = record D { repos = set.insert D.repos repo }
after_change D (NumberSet t n) = record D { next = slice_set D.next t n }
after_change D (BlobStored digest bytes) = record D { contents = fmap.insert D.contents digest bytes }

-- the durable state after a list of changes, one after another
abbrev pub after_changes : DurableState → List Change → DurableState
after_changes D changes = fold after_change D changes

-- ---- the changes of a history

-- the key of a repository's session with this number
abbrev pub session_key : List Tenant → Text → ℕ → SessionNumber
session_key tenants repo number = (option_map_or (λ t. t) (tenant_of tenants repo) 0, number)

-- the change of an append, or none if its chunk is empty
abbrev pub chunk_change : SessionNumber → Text → Option Change
chunk_change key [] = None
chunk_change key (b ∷ bytes) = Some (ChunkReceived key (b ∷ bytes))

-- the change of a mount: a link, or a new session if the blob was not found
abbrev pub mount_change : List Tenant → Text → Text → MountResult → Change
mount_change tenants repo digest mount.Mounted = BlobLinked repo digest
mount_change tenants repo digest (mount.Session number) = SessionOpened repo (session_key tenants repo number)

-- the change of an accepted command, or none if it changes nothing durable
abbrev pub command_change : List Tenant → Command → Answer → Option Change
command_change tenants (Start r) (Number n) = Some (SessionOpened r (session_key tenants r n))
command_change tenants (Append r n g b) a = chunk_change (session_key tenants r n) b
command_change tenants (Close r n d g b) a = Some (SessionSealed (session_key tenants r n) d b)
command_change tenants (Abandon r n) a = Some (SessionDropped (session_key tenants r n))
command_change tenants (Mount r d from) (Mounting m) = Some (mount_change tenants r d m)
command_change tenants (Delete r d) a = Some (BlobUnlinked r d)
command_change tenants (PutManifest r b) a = Some (ManifestPut r b)
command_change tenants (DeleteManifest r m) a = Some (ManifestDeleted r m)
command_change tenants (RemoveRepo r) a = Some (RepoRemoved r)
command_change tenants command a = None

-- the chunk that was filled into a hand, or the empty one
abbrev pub filled_chunk : HandRecord → Text
filled_chunk h = option_map_or (λ b. b) h.last []

-- the change of a step, or none: a failed step, a query, a lease, a sweep and a check-out change nothing durable
abbrev pub change_of : List Tenant → Step → Option Change
change_of tenants (CommandCall command (Ok a)) = command_change tenants command a
change_of tenants (PutBackCall h (Ok n)) = chunk_change h.key (filled_chunk h)
change_of tenants (FinishCall h d (Ok n)) = Some (SessionSealed h.key d (filled_chunk h))
change_of tenants step = None

-- the changes of a list of steps
abbrev pub changes_of : List Tenant → List Step → List Change
changes_of tenants steps = filter_map (change_of tenants) steps

-- ---- hands that are returned as they were taken

-- the repository and the chunks that each session had when it was checked out last
abbrev pub TakenSessions : Type 0
TakenSessions = fmap.FinMap session_number_cmp (Text × List Text)

-- the taken sessions after a step
abbrev pub taken_after_step : TakenSessions → Step → TakenSessions
taken_after_step taken (TakeCall r n g len (Ok h)) = fmap.insert taken h.key (h.repo, h.chunks)
taken_after_step taken step = taken

-- the taken sessions after a list of steps
abbrev pub taken_after_steps : TakenSessions → List Step → TakenSessions
taken_after_steps taken steps = fold taken_after_step taken steps

-- a hand that is checked in or finished has the repository and the chunks with which its session was checked out
abbrev pub IsReturnedAsTaken : TakenSessions → Step → Type 0
IsReturnedAsTaken taken (PutBackCall h reply) = fmap.get taken h.key ≡ Some (h.repo, h.chunks)
IsReturnedAsTaken taken (FinishCall h d reply) = fmap.get taken h.key ≡ Some (h.repo, h.chunks)
IsReturnedAsTaken taken step = Unit {0}

-- every hand of a list of steps is returned as it was taken
abbrev pub AreReturnedAsTaken : TakenSessions → List Step → Type 0
AreReturnedAsTaken taken [] = Unit {0}
AreReturnedAsTaken taken (step ∷ steps) =
    IsReturnedAsTaken taken step × AreReturnedAsTaken (taken_after_step taken step) steps

-- ---- agreement of a durable state and a catalog

-- the durable chunks are those of the checked-in session of a repository, or those with which it was checked out
abbrev pub AgreesOnChunks : Option (Text × List Text) → Text → Chunks → List Text → Type 0
AgreesOnChunks taken repo (CheckedIn chunks) durable = chunks ≡ durable
AgreesOnChunks taken repo (CheckedOutWith received reserved) durable =
    (received ≡ sum_by length durable) × (taken ≡ Some (repo, durable))

-- the durable session is the catalog's, with no empty chunk, or neither exists
abbrev pub AgreesOnSession : Option (Text × List Text) → Option Session → Option Session → Type 0
AgreesOnSession taken durable None = durable ≡ None
AgreesOnSession taken durable (Some s) =
    (chunks : List Text) × (durable ≡ Some (checked_in_session s.repo chunks))
    × AllByRecursion (λ c. c ≢ []) chunks × AgreesOnChunks taken s.repo s.chunks chunks

-- a digest has a stored blob, whose bytes are the durable content
abbrev pub AgreesOnContent : fmap.FinMap text_cmp Text → fmap.FinMap text_cmp Resident → Text → Type 0
AgreesOnContent contents residents digest =
    (b : Resident) × (fmap.get residents digest ≡ Some b) × (fmap.get contents digest ≡ Some b.bytes)

-- the durable state and the catalog have the same session under a key, or none
abbrev pub AgreesOnKey : TakenSessions → DurableState → Catalog → SessionNumber → Type 0
AgreesOnKey taken D C key = AgreesOnSession (fmap.get taken key) (fmap.get D.sessions key) (fmap.get C.sessions key)

-- a repository of the catalog
abbrev pub IsRepo : Catalog → Text → Type 0
IsRepo C repo = set.contains C.repos repo ≡ true

-- a link of the catalog
abbrev pub IsLink : Catalog → Link → Type 0
IsLink C l = set.contains C.links l ≡ true

-- A durable state agrees with a catalog whose checked-out sessions were taken so.
pub record Agrees (taken : TakenSessions) (D : DurableState) (C : Catalog) : Type 0 where
  pub tenants : D.tenants ≡ C.tenants
  pub repos : D.repos ≡ C.repos
  pub links : D.links ≡ C.links
  pub manifests : D.manifests ≡ C.manifests
  pub next : D.next ≡ C.next
  pub sessions : (key : SessionNumber) → AgreesOnKey taken D C key
  -- of each linked digest the content is the stored blob's
  pub contents : (l : Link) → IsLink C l → AgreesOnContent D.contents C.residents l.1
  -- each link is of an existing repository
  pub linked_in : (l : Link) → IsLink C l → IsRepo C l.0
  -- each session is of an existing repository
  pub uploaded_to : (key : SessionNumber) (s : Session) → fmap.get C.sessions key ≡ Some s → IsRepo C s.repo

-- ---- the theorems

-- the durable state after the changes of the steps agrees with a catalog
abbrev pub AgreesAfter : TakenSessions → DurableState → List Step → Catalog → Type 0
AgreesAfter taken D steps C = Agrees (taken_after_steps taken steps) (after_changes D (changes_of D.tenants steps)) C

-- A durable state that agrees with a state also agrees with it after further steps, if their changes are applied to it.
abbrev pub LogsExtend : Type 0
LogsExtend = (taken : TakenSessions) (D : DurableState) (s : State) (steps : List Step) (s' : State) →
    Agrees taken D s.catalog → AreSteps s steps s' → AreReturnedAsTaken taken steps → AgreesAfter taken D steps s'.catalog

-- The changes of a legal history of a new store, applied to the initial durable state, agree with the catalog at the end.
abbrev pub LogsAgree : Type 0
LogsAgree = (tenants : List Tenant) (slots : ℕ) (contents : ContentRules) (steps : List Step) (s : State) →
    LeadsTo (opening tenants slots contents) steps s → AreReturnedAsTaken fmap.empty steps →
    AgreesAfter fmap.empty (initial_durable tenants) steps s.catalog

-- The kept changes are those of some first steps, and the durable state after them agrees with the catalog after these steps.
pub record IsTornLog (D : DurableState) (C : Catalog) (done later : List Step) (kept : List Change) : Type 0 where
  pub first : List Step
  pub rest : List Step
  pub at : State
  pub split : later ≡ first ++ rest
  pub records : changes_of D.tenants first ≡ kept
  pub leads : LeadsTo C (done ++ first) at
  pub agrees : Agrees (taken_after_steps fmap.empty (done ++ first)) (after_changes D (changes_of D.tenants done ++ kept)) at.catalog

-- If a log loses its last records, it is the log of the first steps of its history: at least of all steps whose records were kept.
abbrev pub TornLogsAgree : Type 0
TornLogsAgree = (D : DurableState) (C : Catalog) (done later : List Step) (s : State)
    (kept lost : List Change) → Agrees fmap.empty D C → LeadsTo C (done ++ later) s →
    AreReturnedAsTaken fmap.empty (done ++ later) →
    changes_of D.tenants later ≡ kept ++ lost → IsTornLog D C done later kept

-- In a beginning of a history of whole commands every hand is returned as it was taken.
abbrev pub WholeCommandsReturnHands : Type 0
WholeCommandsReturnHands = (steps later : List Step) (events : List Event) →
    AreWholeCommands fmap.empty (steps ++ later) events → AreReturnedAsTaken fmap.empty steps
