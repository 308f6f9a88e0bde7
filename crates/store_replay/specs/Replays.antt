-- What a replay knows of a log.
use Rattle.std.specs.Prelude.{◌≡◌, ◌⊎◌, ◌-◌, ℕ, Bool, false, true, List, [], ◌∷◌, ◌++◌, Option, length, take}
use Rattle.std.specs.Io.KnownBytes.{Consumes}
use Rattle.durable_log.specs.Views.{DeviceView}
use Rattle.log_frames.specs.Endings.{EndsAt}
use Rattle.log_frames.specs.Frames.{AreFrames, Frame, IsFrame, cursor_after, end_of, frame_bytes, frames_bytes, payloads}
use Rattle.log_frames.specs.Headers.{start_of}
use Rattle.log_frames.specs.declared.cursor.Cursor.{Cursor}
use Rattle.log_frames.specs.declared.reading.Ending.{Ending}
use Rattle.store_model.specs.Histories.{Step}

-- a replay: whether it goes on, the bytes of the records that were played and compared, and the bytes that are left over
pub record ReplayView : Type 0 where
  pub goes_on : Bool
  pub replayed : List ℕ
  pub left : List ℕ

-- a new replay
abbrev pub fresh : ReplayView
fresh = record { goes_on = true; replayed = []; left = [] }

-- all bytes that the replay took
abbrev pub total : ReplayView → List ℕ
total v = v.replayed ++ v.left

-- the replay goes on, and has taken this payload
pub record TakesPayload (old : ReplayView) (payload : List ℕ) (new : ReplayView) : Type 0 where
  pub went_on : old.goes_on ≡ true
  pub goes_on : new.goes_on ≡ true
  pub total_after : total new ≡ total old ++ payload

-- the replay does not go on
abbrev pub Stops : ReplayView → List ℕ → ReplayView → Type 0
Stops old payload new = new.goes_on ≡ false

-- The device has more bytes than before: these, without those that are left over. They are durable.
pub record Continues (old new : DeviceView Step) (bytes left : List ℕ) : Type 0 where
  pub more : new.written ++ left ≡ old.written ++ bytes
  pub durable : new.durable ≡ new.written

-- these bytes are on the device's disk, all of them durable
pub record HasDurable (bytes : List ℕ) (d : DeviceView Step) : Type 0 where
  pub written : d.written ≡ bytes
  pub durable : d.durable ≡ bytes

-- ---- frames

-- a log that was replayed: its id, the frames that were read, the cursor after them, why there were no more, and the replay
pub record ReplayedView : Type 0 where
  pub id : ℕ
  pub frames : List Frame
  pub cursor : Cursor
  pub ending : Ending
  pub replay : ReplayView

-- The frames are those of a log with this id, and the cursor is after them. While the replay goes on, the bytes that it took are those that it
-- took before, from other logs, and then the payloads of the frames.
pub record IsReplayOf (id : ℕ) (before : List ℕ) (frames : List Frame) (c : Cursor) (v : ReplayView) : Type 0 where
  pub are : AreFrames id (start_of id) frames
  pub at_end : c ≡ end_of id (start_of id) frames
  pub taken : v.goes_on ≡ true → total v ≡ before ++ payloads frames

-- the same, whatever the replay took before
abbrev pub EndsWithReplayOf : ℕ → List Frame → Cursor → ReplayView → Type 0
EndsWithReplayOf id frames c v = (before : List ℕ) × IsReplayOf id before frames c v

-- the replayed bytes without the payloads of these frames at their end
abbrev pub replayed_before : ReplayView → List Frame → List ℕ
replayed_before v frames = take (length v.replayed - length (payloads frames)) v.replayed

-- the log that was read begins with these frames
abbrev pub BeginsWith : ℕ → Option (List ℕ) → Option (List ℕ) → List Frame → Type 0
BeginsWith id log rest frames = Consumes log rest (frames_bytes id (start_of id) frames)

-- the log begins with these frames, and what follows at the cursor is the reason why there are no more
pub record IsReadAs (id : ℕ) (log : Option (List ℕ)) (frames : List Frame) (c : Cursor) (ending : Ending) : Type 0 where
  pub rest : Option (List ℕ)
  pub begins : BeginsWith id log rest frames
  pub ends : EndsAt id c rest ending

-- a frame was read at the cursor, and replayed
pub record ReplaysFrame (id : ℕ) (c next : Cursor) (log rest : Option (List ℕ)) (before after : List Frame) (old new : ReplayView) : Type 0 where
  pub frame : Frame
  pub fits : IsFrame c frame
  pub at_end : next ≡ cursor_after id c frame
  pub given : Consumes log rest (frame_bytes id c frame)
  pub added : after ≡ before ++ frame ∷ []
  pub taken : TakesPayload old frame.payload new

-- no frame was added, for this reason, and the replay is unchanged or does not go on
pub record ReplaysNoFrame (id : ℕ) (c : Cursor) (log : Option (List ℕ)) (ending : Ending) (before after : List Frame) (old new : ReplayView) : Type 0 where
  pub frames : after ≡ before
  pub replay : (new ≡ old) ⊎ (new.goes_on ≡ false)
  pub ends : EndsAt id c log ending
