-- What the log records of a step, and which steps it promises to be durable.
use Rattle.std.specs.Prelude.{◌≡◌, ℕ, ◌+◌, ◌||◌, ◌&&◌, nat_lt, Bool, true, false, List, [], ◌∷◌, Option, None, Some, Result, Ok, Err, is_some, length, sum_by}
use Rattle.std.specs.Option.{option_map_or}
use Rattle.content_files.specs.Chunks.{chunk_notes}
use Rattle.blob_digest.specs.Names.{tenant_name}
use Rattle.blob_digest.specs.declared.refusal.Refusal.{Refusal}
use Rattle.log_records.specs.Changes as logged
use Rattle.log_records.specs.Records.{record_bytes}
use Rattle.spec_lib.specs.Texts.{Text}
use Rattle.store_model.specs.Catalog.{HandRecord}
use Rattle.store_model.specs.Durable.{filled_chunk}
use Rattle.store_model.specs.Histories.{CommandCall, FinishCall, PutBackCall, Step}
use Rattle.store_model.specs.Runs.{Abandon, Answer, Append, Close, Command, Delete, DeleteManifest, Mount as MountCommand, Mounting, Number, PutManifest, RemoveRepo, Start}
use Rattle.store_model.specs.declared.mount.Mount.{Mount}
use Rattle.store_model.specs.declared.mount.Mount.TheVariants as mount
use Rattle.locked_book.specs.declared.call.Call.{Call}
use Rattle.locked_book.specs.declared.call.Call.TheVariants as call
use Rattle.locked_book.specs.declared.policy.LogPolicy.{LogPolicy}
use Rattle.locked_book.specs.declared.policy.LogPolicy.TheVariants as policy

-- ---- the records of changes

-- a chunk as the log describes it: with its bytes or, if it is noted, with the notes of its pieces
abbrev pub logged_chunk : Bool → Text → ℕ → Text → logged.Change
logged_chunk false tenant number bytes = logged.ChunkReceived tenant number bytes
logged_chunk true tenant number bytes = logged.ChunkNoted tenant number (chunk_notes bytes)

-- a close as the log describes it: with the bytes of the last chunk or, if it is noted, with the notes of its pieces
abbrev pub logged_seal : Bool → Text → ℕ → Text → Text → logged.Change
logged_seal false tenant number digest last = logged.SessionSealed tenant number digest last
logged_seal true tenant number digest last = logged.SealNoted tenant number digest (chunk_notes last)

-- a chunk as the log describes it, or none if it is empty
abbrev pub logged_if_any : Bool → Text → ℕ → Text → Option logged.Change
logged_if_any noted tenant number [] = None
logged_if_any noted tenant number (b ∷ bytes) = Some (logged_chunk noted tenant number (b ∷ bytes))

-- a mount as the log describes it: the link, or the session that it opened
abbrev pub logged_mount : Text → Text → Mount → logged.Change
logged_mount repo digest mount.Mounted = logged.BlobLinked repo digest
logged_mount repo digest (mount.Session number) = logged.SessionOpened repo number

-- an accepted command as the log describes it, or none if it changes nothing durable
abbrev pub logged_command : Command → Answer → Option logged.Change
logged_command (Start r) (Number n) = Some (logged.SessionOpened r n)
logged_command (Append r n g b) a = logged_if_any false (tenant_name r) n b
logged_command (Close r n d g b) a = Some (logged_seal false (tenant_name r) n d b)
logged_command (Abandon r n) a = Some (logged.SessionDropped (tenant_name r) n)
logged_command (MountCommand r d from) (Mounting m) = Some (logged_mount r d m)
logged_command (Delete r d) a = Some (logged.BlobUnlinked r d)
logged_command (PutManifest r b) a = Some (logged.ManifestPut r b)
logged_command (DeleteManifest r m) a = Some (logged.ManifestDeleted r m)
logged_command (RemoveRepo r) a = Some (logged.RepoRemoved r)
logged_command command a = None

-- the length of a hand's session with its new chunk
abbrev pub hand_length : HandRecord → ℕ
hand_length h = sum_by length h.chunks + length (filled_chunk h)

-- the length of the session that a step gives a chunk or closes
abbrev pub length_after : Step → ℕ
length_after (PutBackCall h result) = hand_length h
length_after (FinishCall h digest result) = hand_length h
length_after step = 0

-- whether a content of this length lies in a file; without a longest one, all contents are in memory
abbrev pub is_beyond : Option ℕ → ℕ → Bool
is_beyond None len = false
is_beyond (Some longest) len = nat_lt longest len

-- whether the log has the notes of a step's chunk in place of its bytes
abbrev pub is_noted : Option ℕ → Step → Bool
is_noted longest step = is_beyond longest (length_after step)

-- a step as the log describes it, or none if it changes nothing durable; a session is named by its tenant's name and its number
abbrev pub logged_step : Option ℕ → Step → Option logged.Change
logged_step longest (CommandCall command (Ok a)) = logged_command command a
logged_step longest (PutBackCall h (Ok n)) = logged_if_any (is_noted longest (PutBackCall h (Ok n))) (tenant_name h.repo) h.key.1 (filled_chunk h)
logged_step longest (FinishCall h d (Ok n)) = Some (logged_seal (is_noted longest (FinishCall h d (Ok n))) (tenant_name h.repo) h.key.1 d (filled_chunk h))
logged_step longest step = None

-- the record of what the log describes, or nothing
abbrev pub change_bytes : Option logged.Change → List ℕ
change_bytes change = option_map_or record_bytes change []

-- the record of a step, or nothing if the step changes nothing durable
abbrev pub step_bytes : Option ℕ → Step → List ℕ
step_bytes longest step = change_bytes (logged_step longest step)

-- what the log of a store with this policy gets of these bytes: a store without a log has no records
abbrev pub logged_by : LogPolicy → List ℕ → List ℕ
logged_by policy.NoLog bytes = []
logged_by p bytes = bytes

-- what the log of a store with this policy records of a step
abbrev pub recorded_bytes : LogPolicy → Option ℕ → Step → List ℕ
recorded_bytes p longest step = logged_by p (step_bytes longest step)

-- ---- promises

-- whether an accepted command changes something durable
abbrev pub is_changing : Command → Bool
is_changing (Start r) = true
is_changing (Append r n g b) = true
is_changing (Close r n d g b) = true
is_changing (Abandon r n) = true
is_changing (MountCommand r d from) = true
is_changing (Delete r d) = true
is_changing (PutManifest r b) = true
is_changing (DeleteManifest r m) = true
is_changing (RemoveRepo r) = true
is_changing command = false

-- whether a step changes something durable in another way than by a chunk
abbrev pub is_change : Step → Bool
is_change (CommandCall command (Ok a)) = is_changing command
is_change (FinishCall h d (Ok n)) = true
is_change step = false

-- whether a step adds a chunk to a session
abbrev pub is_chunk : Step → Bool
is_chunk (PutBackCall h (Ok n)) = is_some h.last
is_chunk step = false

-- whether a store with this policy has a log
abbrev pub has_log : LogPolicy → Bool
has_log policy.NoLog = false
has_log p = true

-- whether a store with this policy promises that changes other than chunks are durable
abbrev pub promises_changes : LogPolicy → Bool
promises_changes policy.Closes = true
promises_changes policy.Each = true
promises_changes p = false

-- whether a store with this policy promises that chunks are durable
abbrev pub promises_chunks : LogPolicy → Bool
promises_chunks policy.Each = true
promises_chunks p = false

-- whether a store with this policy promises that a step is durable before its reply is sent
abbrev pub promises : LogPolicy → Step → Bool
promises p step = (promises_changes p && is_change step) || (promises_chunks p && is_chunk step)

-- ---- the records that are made before their steps

-- the record of a chunk, or nothing if the chunk is empty
abbrev pub chunk_record_bytes : Bool → Text → ℕ → Text → List ℕ
chunk_record_bytes noted tenant number bytes = change_bytes (logged_if_any noted tenant number bytes)

-- what the log records of a chunk of a tenant's session
abbrev pub chunk_bytes : LogPolicy → Bool → Text → ℕ → Text → List ℕ
chunk_bytes p noted tenant number bytes = logged_by p (chunk_record_bytes noted tenant number bytes)

-- what the log records of the close of a tenant's session with a last chunk
abbrev pub seal_bytes : LogPolicy → Bool → Text → ℕ → Text → Text → List ℕ
seal_bytes p noted tenant number digest last = logged_by p (record_bytes (logged_seal noted tenant number digest last))

-- the record of a mount: of the link, or of the session that it opened
abbrev pub mount_bytes : Text → Text → Mount → List ℕ
mount_bytes repo digest m = record_bytes (logged_mount repo digest m)

-- what the log records of a put of a manifest
abbrev pub manifest_bytes : LogPolicy → Text → Text → List ℕ
manifest_bytes p repo bytes = logged_by p (record_bytes (logged.ManifestPut repo bytes))

-- what the log records of a check-in that succeeds
abbrev pub check_in_bytes : LogPolicy → Option ℕ → HandRecord → List ℕ
check_in_bytes p longest hand = recorded_bytes p longest (PutBackCall hand (Ok 0))

-- what the log records of a finish that succeeds
abbrev pub finish_bytes : LogPolicy → Option ℕ → HandRecord → Text → List ℕ
finish_bytes p longest hand digest = recorded_bytes p longest (FinishCall hand digest (Ok 0))

-- these bytes if a call succeeded, or none
abbrev pub bytes_if_ok : {A : Type 0} → Result A Refusal → List ℕ → List ℕ
bytes_if_ok (Ok a) bytes = bytes
bytes_if_ok (Err e) bytes = []

-- ---- names

-- the hand is of the session with this number in the repository
abbrev pub IsHandOf : Text → ℕ → HandRecord → Type 0
IsHandOf repo number hand = (hand.repo ≡ repo) × (hand.key.1 ≡ number)

-- ---- calls by what is recorded of them

-- the record of the call is made from the call alone: it has no body
abbrev pub IsSmall : Call → Type 0
IsSmall (call.PutBack hand result) = ⊥
IsSmall (call.Finish hand digest result) = ⊥
IsSmall (call.PutManifest repo manifest result) = ⊥
IsSmall c = Unit {0}

-- nothing is recorded of the call, whatever its result is
abbrev pub IsUnrecorded : Call → Type 0
IsUnrecorded (call.Status repo number result) = Unit {0}
IsUnrecorded (call.Take repo number range len result) = Unit {0}
IsUnrecorded (call.PutBack hand result) = hand.now.value.last ≡ None
IsUnrecorded (call.RefuseManifest repo bytes e) = Unit {0}
IsUnrecorded (call.GetManifest repo digest result) = Unit {0}
IsUnrecorded (call.Lease repo digest result) = Unit {0}
IsUnrecorded (call.Sweep swept) = Unit {0}
IsUnrecorded (call.SweepPart swept) = Unit {0}
IsUnrecorded c = ⊥
