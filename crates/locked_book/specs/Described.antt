-- The changes that the records of a log describe, and the descriptions of changes.
use Rattle.std.specs.Prelude.{◌≡◌, ℕ, Bool, List, Option, get_or, position}
use Rattle.std.specs.Option.{option_map, option_map_or}
use Rattle.blob_digest.specs.Tenants.{no_tenant}
use Rattle.content_files.specs.Chunks.{read_notes}
use Rattle.locked_book.specs.Logging.{is_noted, logged_chunk, logged_seal, logged_step}
use Rattle.log_records.specs.Changes as logged
use Rattle.noted_logs.specs.Noted.{as_kept}
use Rattle.spec_lib.specs.Texts.{Text, same_text}
use Rattle.store_model.specs.Catalog.{Tenant}
use Rattle.store_model.specs.Durable.{BlobLinked, BlobStored, BlobUnlinked, Change, ChunkReceived, ManifestDeleted, ManifestPut, NumberSet, RepoAdded, RepoRemoved, SessionDropped, SessionOpened, SessionSealed, change_of, session_key}
use Rattle.store_model.specs.Histories.{Step}

-- the place of the tenant with this name
abbrev pub place : List Tenant → Text → ℕ
place tenants name = option_map_or (λ t. t) (position (λ x. same_text x.name name) tenants) 0

-- the change that a description describes, with a chunk as a log keeps it
abbrev pub described : List Tenant → Bool → logged.Change → Change
described tenants files (logged.SessionOpened repo n) = SessionOpened repo (session_key tenants repo n)
described tenants files (logged.ChunkReceived tenant n bytes) = ChunkReceived (place tenants tenant, n) (as_kept files bytes)
described tenants files (logged.SessionSealed tenant n digest last) = SessionSealed (place tenants tenant, n) digest (as_kept files last)
described tenants files (logged.SessionDropped tenant n) = SessionDropped (place tenants tenant, n)
described tenants files (logged.BlobLinked repo digest) = BlobLinked repo digest
described tenants files (logged.BlobUnlinked repo digest) = BlobUnlinked repo digest
described tenants files (logged.ManifestPut repo bytes) = ManifestPut repo bytes
described tenants files (logged.ManifestDeleted repo digest) = ManifestDeleted repo digest
described tenants files (logged.RepoAdded repo) = RepoAdded repo
described tenants files (logged.RepoRemoved repo) = RepoRemoved repo
described tenants files (logged.NumberSet tenant n) = NumberSet (place tenants tenant) n
described tenants files (logged.BlobStored digest bytes) = BlobStored digest (as_kept files bytes)
described tenants files (logged.ChunkNoted tenant n notes) = ChunkReceived (place tenants tenant, n) (read_notes notes)
described tenants files (logged.SealNoted tenant n digest notes) = SessionSealed (place tenants tenant, n) digest (read_notes notes)
described tenants files (logged.BlobNoted tenant n digest notes) = BlobStored digest (read_notes notes)

-- the tenant at a position, or one without a name
abbrev pub tenant_at : List Tenant → ℕ → Tenant
tenant_at tenants t = get_or tenants t (no_tenant)

-- the name of the tenant at a position
abbrev pub name_at : List Tenant → ℕ → Text
name_at tenants t = (tenant_at tenants t).name

-- a change as a log describes it: with the tenant's name in place of its position, and with bytes or notes
abbrev pub logged_change : List Tenant → Bool → Change → logged.Change
logged_change tenants noted (SessionOpened repo key) = logged.SessionOpened repo key.1
logged_change tenants noted (ChunkReceived key bytes) = logged_chunk noted (name_at tenants key.0) key.1 bytes
logged_change tenants noted (SessionSealed key digest last) = logged_seal noted (name_at tenants key.0) key.1 digest last
logged_change tenants noted (SessionDropped key) = logged.SessionDropped (name_at tenants key.0) key.1
logged_change tenants noted (BlobLinked repo digest) = logged.BlobLinked repo digest
logged_change tenants noted (BlobUnlinked repo digest) = logged.BlobUnlinked repo digest
logged_change tenants noted (ManifestPut repo bytes) = logged.ManifestPut repo bytes
logged_change tenants noted (ManifestDeleted repo digest) = logged.ManifestDeleted repo digest
logged_change tenants noted (RepoRemoved repo) = logged.RepoRemoved repo
logged_change tenants noted (RepoAdded repo) = logged.RepoAdded repo
logged_change tenants noted (NumberSet t n) = logged.NumberSet (name_at tenants t) n
logged_change tenants noted (BlobStored digest bytes) = logged.BlobStored digest bytes

-- the log describes the step's change, if it has one
abbrev pub IsLogged : Option ℕ → List Tenant → Step → Type 0
IsLogged longest tenants step =
    logged_step longest step ≡ option_map (logged_change tenants (is_noted longest step)) (change_of tenants step)
