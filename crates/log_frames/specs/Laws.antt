-- How the bytes of a log are read, whatever became of them.
use Rattle.std.specs.Prelude.{◌≡◌, ◌≢◌, ◌⊎◌, ◌<◌, ◌≤◌, ◌^◌, ⊤, ℕ, List, [], ◌∷◌, ◌++◌, Some, length, take}
use Rattle.std.specs.List.{AllByRecursion}
use Rattle.log_frames.specs.Endings.{EndsAt, IsDamaged, IsTorn, Takes}
use Rattle.log_frames.specs.Frames.{AreFrames, Frame, IsFrame, cursor_after, end_of, frame_bytes, frames_bytes}
use Rattle.log_frames.specs.Headers.{log_bytes, start_of}
use Rattle.log_frames.specs.Reads.{BeginsNoFrame}
use Rattle.log_frames.specs.Scans.{HasNoLaterHead, IsLaterHead}
use Rattle.log_frames.specs.declared.cursor.Cursor.{Cursor}
use Rattle.log_frames.specs.declared.head.FrameHead.{FrameHead}
use Rattle.log_frames.specs.declared.reading.Ending.{Ending}
use Rattle.log_frames.specs.declared.reading.Ending.TheVariants as ending
use Rattle.log_frames.specs.declared.reading.FramesRead.{FramesRead}

-- The bytes are these frames from a cursor on, and a rest that begins with no frame.
pub record IsReading (id : ℕ) (c : Cursor) (bytes : List ℕ) (frames : List Frame) (rest : List ℕ) : Type 0 where
  pub fit : AreFrames id c frames
  pub whole : bytes ≡ frames_bytes id c frames ++ rest
  pub none : BeginsNoFrame id (end_of id c frames) rest

-- nothing is left at a cursor, or what is left is torn
abbrev pub IsCut : ℕ → Cursor → List ℕ → Type 0
IsCut id c rest = (rest ≡ []) ⊎ IsTorn id c rest

-- THE PREMISE ON THE SECRET ID. No frame contains, beyond its own beginning, the head of a later frame of this log. The payloads
-- are the clients', who do not know the id: they would have to guess a sum that is seeded with it.
abbrev pub AreUnforged : ℕ → Cursor → List Frame → Type 0
AreUnforged id c [] = ⊤
AreUnforged id c (f ∷ frames) = HasNoLaterHead id c.place c.place (frame_bytes id c f) × AreUnforged id (cursor_after id c f) frames

-- all first frames whose bytes are within the first n bytes are among the first `many`
abbrev pub HasAllWithin : ℕ → Cursor → List Frame → ℕ → ℕ → Type 0
HasAllWithin id c frames n many = (k : ℕ) → k ≤ length frames → length (frames_bytes id c (take k frames)) ≤ n → k ≤ many

-- Bytes are read in one way.
abbrev pub ReadsInOneWay : Type 0
ReadsInOneWay = (id : ℕ) (c : Cursor) (bytes : List ℕ) (frames others : List Frame) (rest left : List ℕ)
    → IsReading id c bytes frames rest
    → IsReading id c bytes others left
    → (frames ≡ others) × (rest ≡ left)

-- Logs with the same bytes have the same id and the same frames.
abbrev pub LogsAreUnique : Type 0
LogsAreUnique = (id other : ℕ) (frames others : List Frame)
    → id < 2 ^ 64
    → other < 2 ^ 64
    → AreFrames id (start_of id) frames
    → AreFrames other (start_of other) others
    → log_bytes id frames ≡ log_bytes other others
    → (id ≡ other) × (frames ≡ others)

-- Of the first n bytes of what was written, the frames are read that are whole, and no others. What is left is nothing or torn, if no
-- frame contains a forged head.
abbrev pub ReadsWhatIsWhole : Type 0
ReadsWhatIsWhole = (id : ℕ) (c : Cursor) (written found : List Frame) (rest : List ℕ) (n : ℕ)
    → AreFrames id c written
    → IsReading id c (take n (frames_bytes id c written)) found rest
    → (found ≡ take (length found) written) × HasAllWithin id c written n (length found) × (AreUnforged id c written → IsCut id (end_of id c found) rest)

-- THE PREMISE ON WHAT FOLLOWS A CUT. The bytes complete no frame at the cursor, and contain no head of a later frame of this log.
pub record CompletesNothing (id : ℕ) (c : Cursor) (bytes : List ℕ) : Type 0 where
  pub none : BeginsNoFrame id c bytes
  pub no_later : HasNoLaterHead id c.place c.place bytes

-- the first n bytes of what was written are the first `many` frames and a part of the next one
pub record IsFirstBytes (id : ℕ) (c : Cursor) (written : List Frame) (n many : ℕ) (part : List ℕ) : Type 0 where
  pub bytes : take n (frames_bytes id c written) ≡ frames_bytes id c (take many written) ++ part
  pub within : HasAllWithin id c written n many

-- the first `many` frames are read, and what is left is nothing or torn
pub record ReadsCut (id : ℕ) (c : Cursor) (written : List Frame) (n : ℕ) (more : List ℕ) (many : ℕ) (part : List ℕ) : Type 0 where
  pub reading : IsReading id c (take n (frames_bytes id c written) ++ more) (take many written) (part ++ more)
  pub cut : IsCut id (end_of id c (take many written)) (part ++ more)

-- The same if other bytes follow the first n bytes: the frames are read that are whole, and no others, and what is left is nothing or
-- torn, if the part of a frame and what follows it complete nothing.
abbrev pub ReadsPastTheCut : Type 0
ReadsPastTheCut = (id : ℕ) (c : Cursor) (written : List Frame) (n : ℕ) (more : List ℕ) → AreFrames id c written
    → (many : ℕ) × (part : List ℕ) × IsFirstBytes id c written n many part
    × (CompletesNothing id (end_of id c (take many written)) (part ++ more) → ReadsCut id c written n more many part)

-- bytes, each below 256
abbrev pub AreBytes : List ℕ → Type 0
AreBytes bytes = AllByRecursion (λ b. b < 256) bytes

-- an id and a sum of 64 bits
abbrev pub AreSums : ℕ → Cursor → Type 0
AreSums id c = (id < 2 ^ 64) × (c.sum < 2 ^ 64)

-- The cursor after the header of a log has a sum of 64 bits.
abbrev pub StartHasSums : Type 0
StartHasSums = (id : ℕ) → id < 2 ^ 64 → AreSums id (start_of id)

-- No two frames at one cursor differ in one byte: if one byte of a frame is changed, no frame begins there.
abbrev pub TellsOneByte : Type 0
TellsOneByte = (id : ℕ) (c : Cursor) (f other : Frame) (front back rest more : List ℕ) (x y : ℕ)
    → AreSums id c
    → IsFrame c f
    → IsFrame c other
    → AreBytes f.payload
    → AreBytes other.payload
    → length front < length (frame_bytes id c f)
    → x ≢ y
    → frame_bytes id c f ++ rest ≡ front ++ (x ∷ back)
    → frame_bytes id c other ++ more ≡ front ++ (y ∷ back)
    → ⊥

-- one byte of a frame was changed, from x to y
pub record IsChanged (id : ℕ) (c : Cursor) (f : Frame) (damaged : List ℕ) : Type 0 where
  pub front : List ℕ
  pub back : List ℕ
  pub x : ℕ
  pub y : ℕ
  pub written : frame_bytes id c f ≡ front ++ (x ∷ back)
  pub now : damaged ≡ front ++ (y ∷ back)
  pub other : x ≢ y

-- Frames are written, one byte of the next frame is changed, and in what follows there is the head of a later frame, which states that
-- the log was synced beyond that frame's place. Then the frames before are read, and the log is damaged.
abbrev pub TellsDamage : Type 0
TellsDamage = (id : ℕ) (c : Cursor) (before : List Frame) (f : Frame) (damaged behind : List ℕ) (h : FrameHead)
    → AreSums id c
    → AreFrames id c before
    → IsFrame (end_of id c before) f
    → AreBytes f.payload
    → AreBytes damaged
    → AreBytes behind
    → IsChanged id (end_of id c before) f damaged
    → IsLaterHead id (end_of id c before).place (cursor_after id (end_of id c before) f).place behind h
    → IsReading id c (frames_bytes id c before ++ (damaged ++ behind)) before (damaged ++ behind)
    × IsDamaged id (end_of id c before) h (damaged ++ behind)

-- a reading that came to an end of the log, or to a place at which no frame begins
abbrev pub IsFinished : Ending → Type 0
IsFinished ending.End = ⊤
IsFinished ending.Torn = ⊤
IsFinished (ending.Damaged h) = ⊤
IsFinished ending.Refused = ⊥
IsFinished (ending.Failed kind) = ⊥
IsFinished ending.Memory = ⊥
IsFinished ending.TooLong = ⊥

-- A finished reading took the frames of the bytes, all of them, and its ending is that of the rest.
abbrev pub ReadsExactly : {S : Type 0} → (S → List ℕ → S → Type 0) → S → S → ℕ → Cursor → List ℕ → FramesRead → Type 0
ReadsExactly takes old new id c bytes read = IsFinished read.ending
    → (frames : List Frame)
    × (rest : List ℕ)
    × IsReading id c bytes frames rest
    × Takes takes old frames new
    × (read.cursor ≡ end_of id c frames)
    × EndsAt id (end_of id c frames) (Some rest) read.ending

-- an ending at which the file may be cut
abbrev pub MayBeCut : Ending → Type 0
MayBeCut ending.End = ⊤
MayBeCut ending.Torn = ⊤
MayBeCut (ending.Damaged h) = ⊥
MayBeCut ending.Refused = ⊥
MayBeCut (ending.Failed kind) = ⊥
MayBeCut ending.Memory = ⊥
MayBeCut ending.TooLong = ⊥

-- A reading of the first n bytes of what was written takes the frames that are whole, and no others. The log is not damaged, if no frame
-- contains a forged head.
abbrev pub Recovers : {S : Type 0} → (S → List ℕ → S → Type 0) → S → S → ℕ → Cursor → List ℕ → Ending → Type 0
Recovers takes old new id c bytes end = (written : List Frame) (n : ℕ)
    → AreFrames id c written
    → bytes ≡ take n (frames_bytes id c written)
    → IsFinished end
    → (many : ℕ)
    × Takes takes old (take many written) new
    × HasAllWithin id c written n many
    × (AreUnforged id c written → MayBeCut end)
