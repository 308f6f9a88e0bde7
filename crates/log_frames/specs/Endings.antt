-- The frames that were read, and the reason why no further one was.
use Rattle.std.specs.Prelude.{◌≡◌, ℕ, ◌<◌, ⊤, List, [], ◌∷◌, Option, Some, None, IfSome, length, max}
use Rattle.std.specs.Io.KnownBytes.{Consumes, IsAtEnd}
use Rattle.log_frames.specs.Frames.{AreFrames, Frame, IsFrame, cursor_after, end_of, frame_bytes, frames_bytes}
use Rattle.log_frames.specs.Reads.{BeginsNoFrame}
use Rattle.log_frames.specs.Scans.{FindsIn, HasNoLaterHead, IsLaterHead}
use Rattle.log_frames.specs.declared.cursor.Cursor.{Cursor}
use Rattle.log_frames.specs.declared.head.FrameHead.{FrameHead}
use Rattle.log_frames.specs.declared.reading.Ending.{Ending}
use Rattle.log_frames.specs.declared.reading.Ending.TheVariants as ending
use Rattle.log_frames.specs.declared.reading.FramesRead.{FramesRead}

-- A write was cut off: there are bytes, no frame begins, and no head states that the log was synced beyond this place.
pub record IsTorn (id : ℕ) (c : Cursor) (bytes : List ℕ) : Type 0 where
  pub some : 0 < length bytes
  pub none : BeginsNoFrame id c bytes
  pub no_later : HasNoLaterHead id c.place c.place bytes

-- The log is damaged: no frame begins, and the head `h` of a later frame states that the log was synced beyond this place.
pub record IsDamaged (id : ℕ) (c : Cursor) (h : FrameHead) (bytes : List ℕ) : Type 0 where
  pub none : BeginsNoFrame id c bytes
  pub later : IsLaterHead id c.place c.place bytes h

-- what is known of a rest at which no frame begins
abbrev pub Judges : ℕ → ℕ → List ℕ → Option (List ℕ) → Ending → Type 0
Judges id place start input ending.End = ⊥
Judges id place start input ending.Torn = FindsIn id place start input None
Judges id place start input (ending.Damaged h) = FindsIn id place start input (Some h)
Judges id place start input ending.Refused = ⊥
Judges id place start input (ending.Failed kind) = ⊤
Judges id place start input ending.Memory = ⊤
Judges id place start input ending.TooLong = ⊤

-- the rest of the log at the end of a reading
abbrev pub EndsAt : ℕ → Cursor → Option (List ℕ) → Ending → Type 0
EndsAt id c rest ending.End = IsAtEnd rest
EndsAt id c rest ending.Torn = IfSome rest (IsTorn id c)
EndsAt id c rest (ending.Damaged h) = IfSome rest (IsDamaged id c h)
EndsAt id c rest ending.Refused = ⊤
EndsAt id c rest (ending.Failed kind) = ⊤
EndsAt id c rest ending.Memory = ⊤
EndsAt id c rest ending.TooLong = ⊤

-- the sink refused the frame at the cursor
pub record RefusesFrame {S : Type 0} (refuses : S → List ℕ → S → Type 0) (old new : S) (id : ℕ) (c : Cursor) (rest : Option (List ℕ)) : Type 0 where
  pub frame : Frame
  pub fits : IsFrame c frame
  pub refused : refuses old frame.payload new
  pub behind : Option (List ℕ)
  pub given : Consumes rest behind (frame_bytes id c frame)

-- the sink is unchanged, or it refused the frame at the cursor
abbrev pub LeavesSink : {S : Type 0} → (S → List ℕ → S → Type 0) → S → S → ℕ → Cursor → Option (List ℕ) → Ending → Type 0
LeavesSink refuses old new id c rest ending.End = new ≡ old
LeavesSink refuses old new id c rest ending.Torn = new ≡ old
LeavesSink refuses old new id c rest (ending.Damaged h) = new ≡ old
LeavesSink refuses old new id c rest ending.Refused = RefusesFrame refuses old new id c rest
LeavesSink refuses old new id c rest (ending.Failed kind) = new ≡ old
LeavesSink refuses old new id c rest ending.Memory = new ≡ old
LeavesSink refuses old new id c rest ending.TooLong = new ≡ old

-- no further frame was taken
abbrev pub EndsFrames : {S : Type 0} → (S → List ℕ → S → Type 0) → S → S → ℕ → Cursor → Option (List ℕ) → Ending → Type 0
EndsFrames refuses old new id c rest end = EndsAt id c rest end × LeavesSink refuses old new id c rest end

-- a frame was read and taken
pub record TakesFrame {S : Type 0} (takes : S → List ℕ → S → Type 0) (old new : S) (id : ℕ) (c : Cursor) (input rest : Option (List ℕ)) (stated : ℕ × Cursor) : Type 0 where
  pub frame : Frame
  pub fits : IsFrame c frame
  pub taken : takes old frame.payload new
  pub given : Consumes input rest (frame_bytes id c frame)
  pub synced : stated.0 ≡ frame.synced
  pub next : stated.1 ≡ cursor_after id c frame

-- frames were taken in their order, each once
abbrev pub Takes : {S : Type 0} → (S → List ℕ → S → Type 0) → S → List Frame → S → Type 0
Takes takes old [] new = new ≡ old
Takes {S} takes old (first ∷ frames) new = (mid : S) × takes old first.payload mid × Takes takes mid frames new

-- the greatest offset up to which one of the frames states that the file was synced, or 0
abbrev pub largest_synced : List Frame → ℕ
largest_synced [] = 0
largest_synced (f ∷ frames) = max f.synced (largest_synced frames)

-- The log begins with these frames, which were taken, and there is a reason why no further one was.
pub record FramesAreRead {S : Type 0} (takes refuses : S → List ℕ → S → Type 0) (old new : S) (id : ℕ) (start : Cursor) (log : Option (List ℕ)) (read : FramesRead) : Type 0 where
  pub frames : List Frame
  pub fit : AreFrames id start frames
  pub mid : S
  pub taken : Takes takes old frames mid
  pub rest : Option (List ℕ)
  pub given : Consumes log rest (frames_bytes id start frames)
  pub cursor : read.cursor ≡ end_of id start frames
  pub synced : read.synced ≡ largest_synced frames
  pub ends : EndsAt id (end_of id start frames) rest read.ending
  pub sink : LeavesSink refuses mid new id (end_of id start frames) rest read.ending
