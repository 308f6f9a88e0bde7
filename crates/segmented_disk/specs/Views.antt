-- A disk of segments, as contracts see it.
use Rattle.std.specs.Prelude.{◌≡◌, ◌⊎◌, ◌/◌, ℕ, Bool, true, List, [], ◌++◌, IsErr, Result, max, min}
use Rattle.framed_disk.specs.Views.{AddsFrame, FramedView, attempted, durable, opened}

-- what a folder has published: the payloads of the segments after which it has published the next one, the id of the last segment, and the
-- payloads up to which it was confirmed that this process owns the folder
pub record FolderView : Type 0 where
  pub ended : List ℕ
  pub last_id : ℕ
  pub confirmed : List ℕ

-- a folder that has published and confirmed nothing yet, whose last segment has this id
abbrev pub starting : ℕ → FolderView
starting id = record { ended = []; last_id = id; confirmed = [] }

-- the same folder after it has published the segment with this id after one with these payloads
abbrev pub after_publish : FolderView → List ℕ → ℕ → FolderView
after_publish f payloads id = record { ended = f.ended ++ payloads; last_id = id; confirmed = f.confirmed }

-- the same folder after it has confirmed all payloads up to these of the last segment
abbrev pub after_confirm : FolderView → List ℕ → FolderView
after_confirm f payloads = record { ended = f.ended; last_id = f.last_id; confirmed = f.ended ++ payloads }

-- the payloads of the segments that were closed before the disk was opened, what the folder has published since then, the last segment, the
-- payloads that are synced, and whether a call has failed
pub record SegmentedView : Type 0 where
  pub before : List ℕ
  pub folder : FolderView
  pub segment : FramedView
  pub synced : List ℕ
  pub failed : Bool

-- a disk whose synced payloads are those from before, and those that the folder has confirmed
abbrev pub segmented : List ℕ → FolderView → FramedView → Bool → SegmentedView
segmented before folder segment failed = record { before = before; folder = folder; segment = segment; synced = before ++ folder.confirmed; failed = failed }

-- the payloads of the closed segments
abbrev pub closed : SegmentedView → List ℕ
closed v = v.before ++ v.folder.ended

-- the payloads of all segments: those whose write was attempted
abbrev pub all_attempted : SegmentedView → List ℕ
all_attempted v = closed v ++ attempted v.segment

-- the same of those that are durable, which are all of the closed segments
abbrev pub all_durable : SegmentedView → List ℕ
all_durable v = closed v ++ durable v.segment

-- the length up to which the last segment is written, in bytes: a sixteenth of the closed ones, but at least 1 MiB and at most 64 MiB
abbrev pub length_limit : ℕ → ℕ
length_limit closed_length = max 1048576 (min 67108864 (closed_length / 16))

-- ---- one segment

-- all payloads of the segment are durable
abbrev pub IsDurable : FramedView → Type 0
IsDurable v = durable v ≡ attempted v

-- the segment is a log without a frame, whose header is durable
abbrev pub IsNewLog : FramedView → Type 0
IsNewLog v = v ≡ opened v.id []

-- ---- calls

-- the same disk after a call has failed
abbrev pub with_failure : SegmentedView → SegmentedView
with_failure v = record v { failed = true }

-- the payloads are the same, and so are those that are synced
pub record KeepsPayloads (old new : SegmentedView) : Type 0 where
  pub all : all_attempted new ≡ all_attempted old
  pub synced : new.synced ≡ old.synced

-- the folder has published a new log after the last segment, which is closed with all its payloads; the new log is the last segment
pub record StartsNext (old new : SegmentedView) : Type 0 where
  pub before : new.before ≡ old.before
  pub published : new.folder ≡ after_publish old.folder (attempted old.segment) new.segment.id
  pub segment : IsNewLog new.segment

-- a frame with the payload was added to the last segment
pub record AddsToLast (old : SegmentedView) (payload : List ℕ) (new : SegmentedView) : Type 0 where
  pub before : new.before ≡ old.before
  pub folder : new.folder ≡ old.folder
  pub segment : AddsFrame old.segment payload new.segment

-- the folder has published a new log after the last segment, which is closed with all its payloads; a frame with the payload is the first
-- one of the new log
pub record AddsToNext (old : SegmentedView) (payload : List ℕ) (new : SegmentedView) : Type 0 where
  pub before : new.before ≡ old.before
  pub published : new.folder ≡ after_publish old.folder (attempted old.segment) new.segment.id
  pub segment : AddsFrame (opened new.segment.id []) payload new.segment

-- the payload is in one frame, on the last segment or on a new one
abbrev pub AddsPayload : SegmentedView → List ℕ → SegmentedView → Type 0
AddsPayload old payload new = AddsToLast old payload new ⊎ AddsToNext old payload new

-- after a call has failed, a call fails and changes nothing
abbrev pub FailsAfterFailure : {A E : Type 0} → Result A E → SegmentedView → SegmentedView → Type 0
FailsAfterFailure result old new = old.failed ≡ true → IsErr result × (new ≡ old)
