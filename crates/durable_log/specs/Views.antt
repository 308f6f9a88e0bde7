-- Writers, the backlog and the device, as contracts see them, and how calls change them.
use Rattle.std.specs.Prelude.{◌≡◌, ◌≢◌, ℕ, ◌+◌, ◌<◌, ◌≤◌, ◌^◌, Bool, true, false, List, [], ◌∷◌, ◌++◌, All, Contains, length}
use Rattle.atomic_table.specs.Seated.{TableId}
use Rattle.ghost_log.specs.declared.view.Entry.{Entry}
use Rattle.ghost_log.specs.Entries.{IsPrefix, entry, events_by}
use Rattle.ghost_log.specs.Calls as calls
use Rattle.durable_log.specs.Encoding.{encode}

-- a writer: its number, the prefix of the history that it has seen, its own events, and a prefix of the history that it knows to be durable
pub record Trace (E : Type 0) : Type 0 where
  pub number : ℕ
  pub seen : List (Entry E)
  pub own : List E
  pub durable : List (Entry E)

-- bytes in segments, the number of bytes that fit into the last segment, and the number of segments that fit
pub record SegmentsView : Type 0 where
  pub bytes : List ℕ
  pub room : ℕ
  pub slots : ℕ

-- whether the log records, the number of bytes of its history, and those of them that the device has not taken over
pub record PendingView : Type 0 where
  pub recording : Bool
  pub position : ℕ
  pub segments : SegmentsView

-- the pending bytes are counted, they are among the bytes of the history, and there are none if the log does not record
abbrev pub HoldsPending : Bool → ℕ → ℕ → List ℕ → Type 0
HoldsPending recording position count bytes = (count ≡ length bytes) × (count ≤ position) × (recording ≡ false → bytes ≡ [])

-- the backlog: the history, the number of its writers, the prefix of it that the device took over, the bytes of the rest, and the number of durable bytes
pub record BacklogView (E : Type 0) : Type 0 where
  pub history : List (Entry E)
  pub writers : ℕ
  pub taken : List (Entry E)
  pub pending : PendingView
  pub synced : ℕ

-- the device: the prefix of the history that it took over, its bytes that are not written yet, the bytes on the disk, those of them that are durable, and
-- whether a call on the disk has failed
pub record DeviceView (E : Type 0) : Type 0 where
  pub taken : List (Entry E)
  pub buffer : List ℕ
  pub written : List ℕ
  pub durable : List ℕ
  pub failed : Bool

-- no list that begins with these bytes is this one
abbrev pub BeginsNot : List ℕ → List ℕ → Type 0
BeginsNot bytes front = (rest : List ℕ) → bytes ≢ front ++ rest

-- ---- a record has room

-- a record of n bytes fits into the last segment, and the history stays below 2 ^ 64 bytes
pub record HasRoom (p : PendingView) (n : ℕ) : Type 0 where
  pub memory : n ≤ p.segments.room
  pub position : p.position + n < 2 ^ 64

-- a segment of n bytes can be added, and the history stays below 2 ^ 64 bytes
pub record HasSlot (p : PendingView) (n : ℕ) : Type 0 where
  pub memory : 0 < p.segments.slots
  pub position : p.position + n < 2 ^ 64

-- the log recorded these bytes
pub record Records (old : PendingView) (bytes : List ℕ) (new : PendingView) : Type 0 where
  pub recording : old.recording ≡ true
  pub bytes_after : new.segments.bytes ≡ old.segments.bytes ++ bytes
  pub position : new.position ≡ old.position + length bytes

-- the log recorded these bytes, or it does not record
abbrev pub RecordsIfOpen : PendingView → List ℕ → PendingView → Type 0
RecordsIfOpen old bytes new = new.recording ≡ true → Records old bytes new

-- ---- what calls do

-- the pending bytes are unchanged, and the device took over nothing
abbrev pub KeepsPending : {E : Type 0} → BacklogView E → BacklogView E → Type 0
KeepsPending old new = (new.pending ≡ old.pending) × (new.taken ≡ old.taken)

-- the log records if it did
abbrev pub StaysOpen : {E : Type 0} → BacklogView E → BacklogView E → Type 0
StaysOpen old new = new.pending.recording ≡ old.pending.recording

-- a new ghost log of this name
abbrev pub IsNewLog : {E : Type 0} → calls.Log E → TableId → Type 0
IsNewLog log name = (log.name ≡ name) × (log.entries ≡ []) × (log.writers ≡ 0)

-- no event and no writer was added
abbrev pub KeepsHistory : {E : Type 0} → BacklogView E → BacklogView E → Type 0
KeepsHistory old new = (new.history ≡ old.history) × (new.writers ≡ old.writers)

-- the device took over nothing, and no more bytes became durable
abbrev pub KeepsProgress : {E : Type 0} → BacklogView E → BacklogView E → Type 0
KeepsProgress old new = (new.taken ≡ old.taken) × (new.synced ≡ old.synced)

-- nothing was recorded, and the log records if it did
abbrev pub KeepsBytes : PendingView → PendingView → Type 0
KeepsBytes old new = (new.recording ≡ old.recording) × (new.position ≡ old.position) × (new.segments.bytes ≡ old.segments.bytes)

-- one event was added at the end
abbrev pub AddsEvent : {E : Type 0} → ℕ → E → BacklogView E → BacklogView E → Type 0
AddsEvent number event old new = (new.history ≡ old.history ++ entry number event ∷ []) × (new.writers ≡ old.writers)

-- all pending bytes of a history moved into the device's buffer
abbrev pub TakesAll : {E : Type 0} → BacklogView E → DeviceView E → BacklogView E → Type 0
TakesAll old device new = (device.taken ≡ old.history) × (device.buffer ≡ old.pending.segments.bytes) × (new.taken ≡ old.history) × (new.pending.segments.bytes ≡ [])

-- the disk has the same bytes
abbrev pub KeepsDisk : {E : Type 0} → DeviceView E → DeviceView E → Type 0
KeepsDisk old new = (new.written ≡ old.written) × (new.durable ≡ old.durable)

-- no call on the disk has failed, and nothing is left to write
abbrev pub IsReady : {E : Type 0} → DeviceView E → Type 0
IsReady d = (d.failed ≡ false) × (d.buffer ≡ [])

-- the last of the lists, or the first list if there is no other
abbrev pub last_of : {A : Type 0} → List A → List (List A) → List A
last_of d [] = d
last_of d (x ∷ xs) = last_of x xs

-- the history as a ghost log of this name
abbrev pub log_of : {E : Type 0} → TableId → BacklogView E → calls.Log E
log_of name b = record { name = name; entries = b.history; writers = b.writers }

-- the writer as a writer of the ghost log of this name
abbrev pub writer_of : {E : Type 0} → TableId → Trace E → calls.Writer E
writer_of name t = record { name = name; number = t.number; seen = t.seen; own = t.own }

-- The writer has seen a prefix of the history, its own events are those under its number, in order, and no event has a number that no writer has.
abbrev pub AgreesWith : {E : Type 0} → TableId → BacklogView E → Trace E → Type 0
AgreesWith name b t = calls.Agrees (log_of name b) (writer_of name t)

-- the writer after it added one event to this history
abbrev pub trace_with : {E : Type 0} → E → List (Entry E) → Trace E → Trace E
trace_with event history t = record { number = t.number; seen = history ++ entry t.number event ∷ []; own = t.own ++ event ∷ []; durable = t.durable }

-- the writer after it has seen this whole history
abbrev pub trace_seeing : {E : Type 0} → List (Entry E) → Trace E → Trace E
trace_seeing history t = record { number = t.number; seen = history; own = t.own; durable = t.durable }

-- the writer has added nothing, and has seen at least what it had seen
pub record Waits {E : Type 0} (old new : Trace E) : Type 0 where
  pub seen : IsPrefix old.seen new.seen
  pub own : new.own ≡ old.own
  pub number : new.number ≡ old.number

-- all that the writer had seen is durable, and so are its own events, each once and in order
pub record Commits {E : Type 0} (old new : Trace E) : Type 0 where
  pub covers : IsPrefix old.seen new.durable
  pub own : events_by new.number new.durable ≡ new.own

-- The writer's own events are those that are durable, in order, and then some that the log does not promise to be durable.
pub record IsCommitted {E : Type 0} (promises : E → Bool) (t : Trace E) : Type 0 where
  pub rest : List E
  pub own : t.own ≡ events_by t.number t.durable ++ rest
  pub unpromised : All (λ e. promises e ≡ false) rest

-- After the durable ones, the writer has an own event that the log promises to be durable.
pub record IsUnconfirmed {E : Type 0} (promises : E → Bool) (t : Trace E) : Type 0 where
  pub rest : List E
  pub own : t.own ≡ events_by t.number t.durable ++ rest
  pub event : E
  pub among : Contains rest event
  pub promised : promises event ≡ true

-- all that the device took over is durable
abbrev pub IsSynced : {E : Type 0} → (E → List ℕ) → List ℕ → DeviceView E → Type 0
IsSynced bytes base d = IsPrefix (base ++ encode bytes d.taken) d.durable

-- all that the writer had seen is durable, and it is committed
abbrev pub Confirms : {E : Type 0} → (E → Bool) → Trace E → Trace E → Type 0
Confirms promises old new = Commits old new × IsCommitted promises new
