-- What a crash leaves of a disk of segments.
use Rattle.std.specs.Prelude.{◌≡◌, ℕ, List, ◌++◌}
use mathlib.Core.List.{IsPrefix}
use Rattle.framed_disk.specs.Survivors.{IsLogReading}
use Rattle.log_frames.specs.Frames.{Frame, payloads}
use Rattle.segmented_disk.specs.Views.{SegmentedView, all_attempted, closed}

-- the payloads contain all that are synced, and are the first of those that were written
pub record AreAllPreserved (v : SegmentedView) (read : List ℕ) : Type 0 where
  pub kept : IsPrefix v.synced read
  pub made : IsPrefix read (all_attempted v)

-- however the bytes of the last segment are read as a log, the payloads of all segments are preserved
abbrev pub PreservesAll : SegmentedView → List ℕ → Type 0
PreservesAll v bytes = (frames : List Frame) (rest : List ℕ) → IsLogReading v.segment.id bytes frames rest → AreAllPreserved v (closed v ++ payloads frames)

-- the bytes of the last segment are read as a log; the content is the payloads of the closed segments, and then those of the log
pub record IsReadAs (v : SegmentedView) (bytes content : List ℕ) : Type 0 where
  pub frames : List Frame
  pub rest : List ℕ
  pub read : IsLogReading v.segment.id bytes frames rest
  pub payloads_are : content ≡ closed v ++ payloads frames
