-- What holds of the backlog and of the device between calls.
use Rattle.std.specs.Prelude.{◌≡◌, ◌<◌, ℕ, Bool, Option, IfSome, true, false, List, [], ◌∷◌, ◌++◌, length}
use Rattle.ghost_log.specs.Calls as calls
use Rattle.ghost_log.specs.declared.view.Entry.{Entry}
use Rattle.ghost_log.specs.Entries.{IsPrefix, events_by}
use Rattle.durable_log.specs.Encoding.{encode}
use Rattle.durable_log.specs.Names.{Names}
use Rattle.durable_log.specs.Views.{BacklogView, DeviceView, IsCommitted, IsUnconfirmed, PendingView, Trace, last_of}

-- the last prefix of the history that the device marked
abbrev pub last_mark : {E : Type 0} → List (Entry (List (Entry E))) → List (Entry E)
last_mark marks = last_of [] (events_by 0 marks)

-- While the log records, the bytes of the history are those of the prefix that the device took over, and then the pending ones.
pub record IsBacklog {E : Type 0} (bytes : E → List ℕ) (history taken : List (Entry E)) (p : PendingView) : Type 0 where
  pub of : IsPrefix taken history
  pub rest : p.recording ≡ true → encode bytes taken ++ p.segments.bytes ≡ encode bytes history
  pub length_of : p.recording ≡ true → length (encode bytes history) ≡ p.position

-- The device wrote the bytes of what it took over, in order and without those in its buffer. If its disk failed, the last of them may be missing. What it
-- marked is durable.
pub record IsDevice {E : Type 0} (bytes : E → List ℕ) (base : List ℕ) (taken marked : List (Entry E)) (given : ℕ) (buffer written durable : List ℕ) (failed : Bool) : Type 0 where
  pub length_of : length (encode bytes taken) ≡ given
  pub in_order : IsPrefix written (base ++ encode bytes taken)
  pub exact : failed ≡ false → written ++ buffer ≡ base ++ encode bytes taken
  pub marked_of : IsPrefix marked taken
  pub safe : IsPrefix (base ++ encode bytes marked) durable
  pub down : IsPrefix durable written

-- a prefix of the history, whose bytes are among those of another
pub record IsWithin {E : Type 0} (bytes : E → List ℕ) (history kept h : List (Entry E)) : Type 0 where
  pub of : IsPrefix h history
  pub bytes_of : IsPrefix (encode bytes h) (encode bytes kept)

-- each mark is a prefix of the history, whose bytes are among those of another
abbrev pub AllWithin : {E : Type 0} → (E → List ℕ) → List (Entry E) → List (Entry E) → List (Entry (List (Entry E))) → Type 0
AllWithin bytes history kept [] = Unit {0}
AllWithin bytes history kept (e ∷ es) = IsWithin bytes history kept e.event × AllWithin bytes history kept es

-- the device's last mark has the durable bytes of the history, and the bytes of each mark are among them
pub record IsMarked {E : Type 0} (bytes : E → List ℕ) (history : List (Entry E)) (synced : ℕ) (marks : List (Entry (List (Entry E)))) : Type 0 where
  pub of : IsPrefix (last_mark marks) history
  pub length_of : length (encode bytes (last_mark marks)) ≡ synced
  pub each : AllWithin bytes history (last_mark marks) marks

-- The disk has bytes of the history in order. If no call on it has failed, it has all that the device took over, without those in the buffer.
pub record IsInOrder {E : Type 0} (bytes : E → List ℕ) (base : List ℕ) (d : DeviceView E) : Type 0 where
  pub in_order : IsPrefix d.written (base ++ encode bytes d.taken)
  pub exact : d.failed ≡ false → d.written ++ d.buffer ≡ base ++ encode bytes d.taken
  pub down : IsPrefix d.durable d.written

-- The disk has bytes of the history in order. If the log records and no call on the disk has failed, the bytes on the disk, those in the buffer and the
-- pending ones are those of the history, in this order and without a gap.
pub record IsWhole {E : Type 0} (bytes : E → List ℕ) (base : List ℕ) (d : DeviceView E) (b : BacklogView E) : Type 0 where
  pub of : IsPrefix d.taken b.history
  pub in_order : IsPrefix d.written (base ++ encode bytes d.taken)
  pub exact : d.failed ≡ false → b.pending.recording ≡ true → (d.written ++ d.buffer) ++ b.pending.segments.bytes ≡ base ++ encode bytes b.history

-- ---- the invariants of the types

-- a backlog is of its logs, and agrees with its marks
abbrev pub HoldsBacklog : {E : Type 0} → Names → (E → List ℕ) → calls.Log E → PendingView → ℕ → calls.Log (List (Entry E)) → calls.Log (List (Entry E)) → Type 0
HoldsBacklog names bytes history pending synced durable taken =
    (history.name ≡ names.history) × (durable.name ≡ names.durable_marks) × (taken.name ≡ names.taken_marks) × (0 < durable.writers)
    × IsBacklog bytes history.entries (last_mark taken.entries) pending × IsMarked bytes history.entries synced durable.entries

-- a device is of its logs, with their first markers, and agrees with its disk
abbrev pub HoldsDevice : {E : Type 0} → Names → (E → List ℕ) → calls.Writer (List (Entry E)) → calls.Writer (List (Entry E)) → ℕ → List ℕ → List ℕ → List ℕ → Bool → Type 0
HoldsDevice names bytes taker marker given buffer written durable failed =
    (taker.name ≡ names.taken_marks) × (taker.number ≡ 0) × (marker.name ≡ names.durable_marks) × (marker.number ≡ 0)
    × IsDevice bytes names.base (last_of [] taker.own) (last_of [] marker.own) given buffer written durable failed

-- the markers of a device that is not opened are the first ones of its logs, and have marked nothing
abbrev pub HoldsUnopened : {E : Type 0} → Names → calls.Writer (List (Entry E)) → calls.Writer (List (Entry E)) → Type 0
HoldsUnopened names marker taker =
    (marker.name ≡ names.durable_marks) × (marker.number ≡ 0) × (marker.own ≡ []) × (taker.name ≡ names.taken_marks) × (taker.number ≡ 0) × (taker.own ≡ [])

-- what a writer and its marker know
abbrev pub trace_of : {E : Type 0} → calls.Writer E → calls.Writer (List (Entry E)) → Trace E
trace_of writer marker = record { number = writer.number; seen = writer.seen; own = writer.own; durable = last_of [] marker.own }

-- a writer is of its logs, its position is that of what it has seen, and it is committed unless it is marked as unconfirmed
abbrev pub HoldsWriter : {E : Type 0} → Names → (E → List ℕ) → (E → Bool) → calls.Writer E → Option ℕ → Bool → calls.Writer (List (Entry E)) → Type 0
HoldsWriter names bytes promises writer position unconfirmed marker =
    (writer.name ≡ names.history) × (marker.name ≡ names.durable_marks) × (0 < marker.number)
    × IfSome position (λ n. n ≡ length (encode bytes writer.seen)) × (unconfirmed ≡ false → IsCommitted promises (trace_of writer marker))
    × (unconfirmed ≡ true → IsUnconfirmed promises (trace_of writer marker))
