-- What a crash leaves of a framed disk.
use Rattle.std.specs.Prelude.{◌≡◌, ℕ, List, ◌++◌}
use mathlib.Core.List.{IsPrefix}
use Rattle.log_frames.specs.Frames.{Frame, end_of, payloads}
use Rattle.log_frames.specs.Headers.{header_bytes, start_of}
use Rattle.log_frames.specs.Laws.{AreUnforged, CompletesNothing, IsCut, IsReading}
use Rattle.framed_disk.specs.Views.{FramedView}

-- the bytes are a header, and what follows it is read as these frames and a rest
pub record IsLogReading (id : ℕ) (bytes : List ℕ) (frames : List Frame) (rest : List ℕ) : Type 0 where
  pub body : List ℕ
  pub whole : bytes ≡ header_bytes id ++ body
  pub read : IsReading id (start_of id) body frames rest

-- the bytes can be read as a log
abbrev pub IsReadable : ℕ → List ℕ → Type 0
IsReadable id bytes = (frames : List Frame) × (rest : List ℕ) × IsLogReading id bytes frames rest

-- the bytes are read as a log whose payloads are this content
pub record IsReadAs (id : ℕ) (bytes content : List ℕ) : Type 0 where
  pub frames : List Frame
  pub rest : List ℕ
  pub read : IsLogReading id bytes frames rest
  pub payloads_are : content ≡ payloads frames

-- a crash may leave these bytes: they have all that are synced, and are a prefix of those that were written
pub record MayBeLeft (v : FramedView) (left : List ℕ) : Type 0 where
  pub kept : IsPrefix v.synced left
  pub made : IsPrefix left v.written

-- the frames contain all that are synced, and are the first of those that were written; so are their payloads
pub record ArePreserved (v : FramedView) (frames : List Frame) : Type 0 where
  pub kept : IsPrefix v.synced_frames frames
  pub made : IsPrefix frames v.frames
  pub kept_payloads : IsPrefix (payloads v.synced_frames) (payloads frames)
  pub made_payloads : IsPrefix (payloads frames) (payloads v.frames)

-- however the bytes are read as a log, the frames are preserved
abbrev pub Preserves : FramedView → List ℕ → Type 0
Preserves v bytes = (frames : List Frame) (rest : List ℕ) → IsLogReading v.id bytes frames rest → ArePreserved v frames

-- however the bytes are read as a log, nothing is left after the frames, or what is left is torn
abbrev pub LeavesCut : ℕ → List ℕ → Type 0
LeavesCut id bytes = (frames : List Frame) (rest : List ℕ) → IsLogReading id bytes frames rest → IsCut id (end_of id (start_of id) frames) rest

-- no payload of the disk contains a forged head
abbrev pub IsUnforged : FramedView → Type 0
IsUnforged v = AreUnforged v.id (start_of v.id) v.frames

-- the bytes behind complete nothing of what a crash left
abbrev pub AreHarmless : ℕ → List ℕ → List ℕ → Type 0
AreHarmless id left behind =
    (frames : List Frame) (rest : List ℕ) → IsLogReading id left frames rest → CompletesNothing id (end_of id (start_of id) frames) (rest ++ behind)
