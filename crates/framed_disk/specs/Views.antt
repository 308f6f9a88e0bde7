-- A framed disk, as contracts see it.
use Rattle.std.specs.Prelude.{◌≡◌, ◌⊎◌, ℕ, Bool, false, true, List, [], ◌∷◌, ◌++◌, IsErr, OnErr, Result, length}
use mathlib.Core.List.{IsPrefix}
use Rattle.log_frames.specs.Frames.{Frame, IsFrame, end_of, frame_of, payloads}
use Rattle.log_frames.specs.Headers.{log_bytes, start_of}

-- the id of the log, the frames whose write was attempted, those that are synced, the bytes that were written to the other disk and those that
-- are synced there, and whether a call has failed
pub record FramedView : Type 0 where
  pub id : ℕ
  pub frames : List Frame
  pub synced_frames : List Frame
  pub written : List ℕ
  pub synced : List ℕ
  pub failed : Bool

abbrev pub framed : ℕ → List Frame × List Frame → List ℕ → List ℕ → Bool → FramedView
framed id frames written synced failed = record { id = id; frames = frames.0; synced_frames = frames.1; written = written; synced = synced; failed = failed }

-- a disk that holds a log of these frames, all of them synced
abbrev pub opened : ℕ → List Frame → FramedView
opened id frames = framed id (frames, frames) (log_bytes id frames) (log_bytes id frames) false

-- the offset in the log up to which it is known to be synced: the end of the synced frames
abbrev pub synced_offset : FramedView → ℕ
synced_offset v = length (log_bytes v.id v.synced_frames)

-- the payloads whose write was attempted, and those that are synced
abbrev pub attempted : FramedView → List ℕ
attempted v = payloads v.frames

abbrev pub durable : FramedView → List ℕ
durable v = payloads v.synced_frames

-- after a call has failed, a call fails and changes nothing
abbrev pub FailsAfterFailure : {A E : Type 0} → Result A E → FramedView → FramedView → Type 0
FailsAfterFailure result old new = old.failed ≡ true → IsErr result × (new ≡ old)

-- a frame with this payload was added, which states the synced offset; nothing was synced
pub record AddsFrame (old : FramedView) (payload : List ℕ) (new : FramedView) : Type 0 where
  pub frames : new.frames ≡ old.frames ++ frame_of (synced_offset old) payload ∷ []
  pub id : new.id ≡ old.id
  pub synced_frames : new.synced_frames ≡ old.synced_frames
  pub synced : new.synced ≡ old.synced

-- the payloads are the same, and so are those that are synced
pub record KeepsPayloads (old new : FramedView) : Type 0 where
  pub id : new.id ≡ old.id
  pub all : payloads new.frames ≡ payloads old.frames
  pub synced_frames : new.synced_frames ≡ old.synced_frames

-- the frames are the same
pub record KeepsFrames (old new : FramedView) : Type 0 where
  pub id : new.id ≡ old.id
  pub frames : new.frames ≡ old.frames

-- the payloads are the same, and those that were synced are
pub record KeepsDurable (old new : FramedView) : Type 0 where
  pub id : new.id ≡ old.id
  pub all : attempted new ≡ attempted old
  pub durable : IsPrefix (durable old) (durable new)

-- the last of the frames states this offset
pub record LastStates (offset : ℕ) (frames : List Frame) : Type 0 where
  pub before : List Frame
  pub last : Frame
  pub whole : frames ≡ before ++ last ∷ []
  pub states : last.synced ≡ offset

-- the last frame states the synced offset
abbrev pub IsMarked : FramedView → Type 0
IsMarked v = LastStates (synced_offset v) v.frames

-- the log ends in order: all frames are synced, and the last one is a mark, which states that those before it are
pub record EndsInOrder (v : FramedView) : Type 0 where
  pub before : List Frame
  pub marked : v.frames ≡ before ++ frame_of (length (log_bytes v.id before)) [] ∷ []
  pub synced : v.synced_frames ≡ v.frames

-- a log has no room for a frame with this payload after the frames
abbrev pub HasNoRoom : FramedView → List ℕ → Type 0
HasNoRoom v payload = IsFrame (end_of v.id (start_of v.id) v.frames) (frame_of (synced_offset v) payload) → ⊥

-- an error: a call on the other disk has failed, now or before, or there is no room for the frame
abbrev pub FailsOrHasNoRoom : {A E : Type 0} → Result A E → FramedView → List ℕ → FramedView → Type 0
FailsOrHasNoRoom result old payload new = OnErr result ((new.failed ≡ true) ⊎ HasNoRoom old payload)
