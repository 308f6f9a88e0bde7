-- Isolation of tenants in runs: a tenant's replies, and its view at the end, are those of its own commands alone.
use Rattle.std.specs.Prelude.{◌≡◌, ◌≢◌, ℕ, ◌==◌, false, Result, Ok, Err, List, [], ◌∷◌, ◌++◌, map, filter, slice_get, if◌then◌else◌}
use Rattle.std.specs.List.{AllByRecursion, Contains}
use Rattle.std.specs.FinMap as fmap
use Rattle.blob_digest.specs.declared.refusal.Refusal.{Refusal}
use Rattle.blob_digest.specs.declared.refusal.Refusal.TheVariants.{Memory, TooManyReaders, StoreFull}
use Rattle.spec_lib.specs.Sets as set
use Rattle.spec_lib.specs.Texts.{Text, text_cmp}
use Rattle.store_model.specs.Catalog.{Tenant, Session, Catalog, link_cmp, session_number_cmp, is_repo_of_tenant, is_repo_of, tenant_holds, next_number_of, opening, ContentRules}
use Rattle.spec_lib.specs.Outcomes.{◌>>=◌}
use Rattle.store_model.specs.Commands.{Outcome, tenant, session, content_in, close_by, is_named}
use Rattle.store_model.specs.Runs.{Command, Close, Answer, Number, repo_of, outcome, map_outcome, Event, CommandEvent, SweepEvent, SweepPartEvent, IsRun}
use Rattle.store_model.specs.BookText.{book_text}

-- ---- a tenant's commands, replies and view

-- a tenant's events
abbrev pub events_of : List Tenant → ℕ → List Event → List Event
events_of tenants t [] = []
events_of tenants t (CommandEvent command reply ∷ es) = if is_repo_of_tenant tenants t (repo_of command) then CommandEvent command reply ∷ events_of tenants t es else events_of tenants t es
events_of tenants t (SweepEvent swept ∷ es) = events_of tenants t es
events_of tenants t (SweepPartEvent swept ∷ es) = events_of tenants t es

-- the commands of a list of events
abbrev pub commands_of : List Event → List Command
commands_of [] = []
commands_of (CommandEvent command reply ∷ es) = command ∷ commands_of es
commands_of (SweepEvent swept ∷ es) = commands_of es
commands_of (SweepPartEvent swept ∷ es) = commands_of es

-- the replies of a list of events
abbrev pub replies : List Event → List (Result Answer Refusal)
replies [] = []
replies (CommandEvent command reply ∷ es) = reply ∷ replies es
replies (SweepEvent swept ∷ es) = replies es
replies (SweepPartEvent swept ∷ es) = replies es

-- the digests that a tenant's repositories contain, in order, each with its bytes
abbrev pub blobs_of : Catalog → ℕ → List (Text × Text)
blobs_of C t = map (λ e. (e.0, e.1.bytes)) (filter (λ e. tenant_holds C t e.0) (fmap.entries C.residents))

-- a tenant's view of a catalog
pub record TenantView : Type 0 where
  pub repos : set.Set text_cmp
  pub links : set.Set link_cmp
  pub manifests : fmap.FinMap link_cmp Text
  pub sessions : fmap.FinMap session_number_cmp Session
  pub next : ℕ
  pub blobs : List (Text × Text)

-- the tenant t's view of the catalog C
abbrev pub tenant_view : Catalog → ℕ → TenantView
tenant_view C t = record {
  repos = fmap.retain_keys C.repos (is_repo_of C t);
  links = fmap.retain_keys C.links (λ l. is_repo_of C t l.0);
  manifests = fmap.retain_keys C.manifests (λ l. is_repo_of C t l.0);
  sessions = fmap.retain_keys C.sessions (λ n. n.0 == t);
  next = next_number_of C t;
  blobs = blobs_of C t;
}

-- ---- a tenant's isolated run

-- a check for a slot that always succeeds
abbrev pub always_has_slot : Catalog → Text → Result (Unit {0}) Refusal
always_has_slot C digest = Ok tt

-- the outcome of a command if it fails neither for lack of a slot, nor for too many readers, nor for lack of memory
abbrev pub isolated_outcome : Catalog → Command → Outcome Answer
isolated_outcome C (Close r n d g b) = map_outcome Number (close_by always_has_slot C r n d g b)
isolated_outcome C command = outcome false C command

-- the reply of an outcome
abbrev pub reply_of : Outcome Answer → Result Answer Refusal
reply_of (Ok x) = Ok x.0
reply_of (Err e) = Err e

-- the catalog after an outcome
abbrev pub catalog_after : Catalog → Outcome Answer → Catalog
catalog_after C (Ok x) = x.1
catalog_after C (Err e) = C

-- the replies of commands in an isolated run
abbrev pub isolated_replies : Catalog → List Command → List (Result Answer Refusal)
isolated_replies C [] = []
isolated_replies C (command ∷ cs) = reply_of (isolated_outcome C command) ∷ isolated_replies (catalog_after C (isolated_outcome C command)) cs

-- the catalog at the end of an isolated run
abbrev pub isolated_catalog : Catalog → List Command → Catalog
isolated_catalog C [] = C
isolated_catalog C (command ∷ cs) = isolated_catalog (catalog_after C (isolated_outcome C command)) cs

-- ---- the premises

-- the reply is not one that other tenants may cause: `Memory`, `StoreFull` or `TooManyReaders`
abbrev pub IsUnaffectedByOthers : Event → Type 0
IsUnaffectedByOthers (CommandEvent command (Err e)) = (e ≢ Memory) × (e ≢ StoreFull) × (e ≢ TooManyReaders)
IsUnaffectedByOthers (CommandEvent command (Ok a)) = Unit {0}
IsUnaffectedByOthers (SweepEvent swept) = Unit {0}
IsUnaffectedByOthers (SweepPartEvent swept) = Unit {0}

-- the content of a close: its session's bytes followed by its last chunk, or an error if it has no session
abbrev pub close_content : Catalog → Text → ℕ → Text → Result Text Refusal
close_content C repo number last = do
  t ← tenant C repo
  _ ← session C t repo number
  Ok (content_in C.sessions (t, number) last)

-- the digest and the content, if the content has the digest
abbrev pub uploaded_pair : ContentRules → Text → Result Text Refusal → List (Text × Text)
uploaded_pair rules digest (Ok whole) = if is_named rules digest whole then (digest, whole) ∷ [] else []
uploaded_pair rules digest (Err e) = []

-- the digest and content of a close, if the content has the digest
abbrev pub uploads_of_command : Catalog → Command → List (Text × Text)
uploads_of_command C (Close r n d g b) = uploaded_pair C.contents d (close_content C r n b)
uploads_of_command C command = []

-- the digest and content of an event, if it is such a close
abbrev pub uploads_of_event : Catalog → Event → List (Text × Text)
uploads_of_event C (CommandEvent command r) = uploads_of_command C command
uploads_of_event C (SweepEvent swept) = []
uploads_of_event C (SweepPartEvent swept) = []

-- the digests and contents of all closes of a run
abbrev pub uploads_of_run : (es : List Event) (C C' : Catalog) → IsRun C es C' → List (Text × Text)
uploads_of_run [] C C' run = []
uploads_of_run (e ∷ es) C C' run = uploads_of_event C e ++ uploads_of_run es run.0 C' run.2

-- no digest is paired with two different contents
abbrev pub NoCollision : List (Text × Text) → Type 0
NoCollision pairs = (digest a b : Text) → Contains pairs (digest, a) → Contains pairs (digest, b) → a ≡ b

-- ---- the settings of other tenants

-- Two lists of tenants have the same names, and the tenant t has the same quota, share and limits in both.
pub record AreTenantsAlike (t : ℕ) (tenants others : List Tenant) : Type 0 where
  pub names : map (λ x. x.name) tenants ≡ map (λ x. x.name) others
  pub settings : slice_get tenants t ≡ slice_get others t

-- ---- the theorem

-- The events are a run of a new store in which no two closes have different contents with the same digest.
pub record IsCollisionFreeRun (tenants : List Tenant) (slots : ℕ) (contents : ContentRules) (es : List Event) (C' : Catalog) : Type 0 where
  pub run : IsRun (opening tenants slots contents) es C'
  pub no_collision : NoCollision (uploads_of_run es (opening tenants slots contents) C' run)

-- a tenant's replies and its view at the end are those of its isolated run in a new store with the tenants `others`
pub record IsIsolated (tenants others : List Tenant) (slots : ℕ) (contents : ContentRules) (t : ℕ) (es : List Event) (C' : Catalog) : Type 0 where
  pub replies : replies (events_of tenants t es) ≡ isolated_replies (opening others slots contents) (commands_of (events_of tenants t es))
  pub tenant_view : tenant_view C' t ≡ tenant_view (isolated_catalog (opening others slots contents) (commands_of (events_of tenants t es))) t

-- If no reply to a tenant is one that others may cause, its replies and its view at the end are those of its isolated run, whatever settings the others have in it.
abbrev pub TenantsAreIsolated : Type 0
TenantsAreIsolated = (tenants others : List Tenant) (slots : ℕ) (contents : ContentRules) (t : ℕ) (es : List Event) (C' : Catalog) → AreTenantsAlike t tenants others →
    IsCollisionFreeRun tenants slots contents es C' → AllByRecursion IsUnaffectedByOthers (events_of tenants t es) → IsIsolated tenants others slots contents t es C'

-- The store's text is the same after two such runs in which each tenant makes the same commands in the same order.
abbrev pub TextsAreTheSame : Type 0
TextsAreTheSame = (tenants : List Tenant) (slots : ℕ) (contents : ContentRules) (es fs : List Event) (C' D' : Catalog) →
    IsCollisionFreeRun tenants slots contents es C' → AllByRecursion IsUnaffectedByOthers es → IsCollisionFreeRun tenants slots contents fs D' → AllByRecursion IsUnaffectedByOthers fs →
    ((t : ℕ) → commands_of (events_of tenants t es) ≡ commands_of (events_of tenants t fs)) → book_text C' ≡ book_text D'
