-- What holds of a framed disk at all times.
use Rattle.std.specs.Prelude.{◌≡◌, ◌⊎◌, ◌≤◌, ℕ, false, List, ◌++◌, length}
use Rattle.std.specs.List.{AllByRecursion}
use mathlib.Core.List.{IsPrefix}
use Rattle.log_frames.specs.Frames.{AreFrames, Frame, end_of}
use Rattle.log_frames.specs.Headers.{log_bytes, start_of}
use Rattle.log_frames.specs.declared.cursor.Cursor.{Cursor}
use Rattle.framed_disk.specs.Views.{FramedView, LastStates, synced_offset}

-- the frame states no more than this
abbrev pub StatesAtMost : ℕ → Frame → Type 0
StatesAtMost n f = f.synced ≤ n

-- The bytes that were written are those of the frames, in order. A call that failed may have lost the end of them. The cursor is after the frames.
-- The bytes that are synced are those of the synced frames, no frame states that more is synced, and the offset is the end of the synced frames.
pub record IsFramed (v : FramedView) (cursor : Cursor) (offset stated : ℕ) : Type 0 where
  pub are : AreFrames v.id (start_of v.id) v.frames
  pub in_order : IsPrefix v.written (log_bytes v.id v.frames)
  pub exact : v.failed ≡ false → v.written ≡ log_bytes v.id v.frames
  pub at_end : v.failed ≡ false → cursor ≡ end_of v.id (start_of v.id) v.frames
  pub synced_of : IsPrefix v.synced_frames v.frames
  pub safe : v.synced ≡ log_bytes v.id v.synced_frames
  pub down : IsPrefix v.synced v.written
  pub known : offset ≡ synced_offset v
  pub last : v.failed ≡ false → (stated ≡ 0) ⊎ LastStates stated v.frames
  pub all : AllByRecursion (StatesAtMost (synced_offset v)) v.frames

-- the same without what only the code sees
pub record IsInOrder (v : FramedView) : Type 0 where
  pub are : AreFrames v.id (start_of v.id) v.frames
  pub in_order : IsPrefix v.written (log_bytes v.id v.frames)
  pub exact : v.failed ≡ false → v.written ≡ log_bytes v.id v.frames
  pub synced_of : IsPrefix v.synced_frames v.frames
  pub safe : v.synced ≡ log_bytes v.id v.synced_frames
  pub down : IsPrefix v.synced v.written
  pub all : AllByRecursion (StatesAtMost (synced_offset v)) v.frames
