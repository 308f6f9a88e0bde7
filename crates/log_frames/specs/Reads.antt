-- What a log goes on with.
use Rattle.std.specs.Prelude.{◌≡◌, ℕ, ◌+◌, ◌*◌, ◌<◌, ◌≤◌, List, ◌++◌, Option, IfSome, drop, length, max, take}
use Rattle.std.specs.Io.KnownBytes.{Consumes, IsAtEnd}
use Rattle.log_frames.specs.Frames.{Frame, IsFrame, cursor_after, frame_bytes, head_at}
use Rattle.log_frames.specs.Sums.{sum_words, tagged}
use Rattle.log_frames.specs.declared.cursor.Cursor.{Cursor}
use Rattle.log_frames.specs.declared.head.FrameHead.{FrameHead}
use Rattle.log_frames.specs.declared.next.NextFrame.{NextFrame}
use Rattle.log_frames.specs.declared.next.NextFrame.TheVariants as next

-- a buffer grows to at most twice the bytes that are there, `start` and those of the input, and 65,536 bytes
abbrev pub HasRoomFor : ℕ → Option (List ℕ) → ℕ → ℕ → Type 0
HasRoomFor start input old new = IfSome input (λ bytes. new ≤ max old (2 * (start + length bytes) + 65536))

-- the bytes begin with no frame of this cursor
abbrev pub BeginsNoFrame : ℕ → Cursor → List ℕ → Type 0
BeginsNoFrame id c bytes = (f : Frame) (rest : List ℕ) → IsFrame c f → bytes ≡ frame_bytes id c f ++ rest → ⊥

-- the input begins with no frame of this cursor
abbrev pub HasNoFrame : ℕ → Cursor → Option (List ℕ) → Type 0
HasNoFrame id c input = IfSome input (BeginsNoFrame id c)

-- the first bytes of the buffer are those that were read, and some were
pub record HasRead (old new : Option (List ℕ)) (buffer : List ℕ) (count : ℕ) : Type 0 where
  pub some : 0 < count
  pub held : count ≤ length buffer
  pub read : Consumes old new (take count buffer)

-- the payload of a frame that a buffer begins with
abbrev pub payload_in : FrameHead → List ℕ → List ℕ
payload_in h buffer = take h.length (drop 32 buffer)

-- the frame that a buffer begins with
abbrev pub frame_in : FrameHead → List ℕ → Frame
frame_in h buffer = record { synced = h.synced; payload = payload_in h buffer }

-- the buffer begins with a frame, which was read
pub record HasReadFrame (id : ℕ) (c : Cursor) (old new : Option (List ℕ)) (buffer : List ℕ) (h : FrameHead) (next : Cursor) : Type 0 where
  pub held : h.length + 40 ≤ length buffer
  pub head : h ≡ head_at c (frame_in h buffer)
  pub fits : IsFrame c (frame_in h buffer)
  pub read : Consumes old new (frame_bytes id c (frame_in h buffer))
  pub after : next ≡ cursor_after id c (frame_in h buffer)

-- what a log goes on with at a cursor
abbrev pub GoesOn : ℕ → Cursor → Option (List ℕ) → Option (List ℕ) → List ℕ → NextFrame → Type 0
GoesOn id c old new buffer (next.Frame h after) = HasReadFrame id c old new buffer h after
GoesOn id c old new buffer next.End = IsAtEnd old
GoesOn id c old new buffer (next.NoFrame count) = HasRead old new buffer count × HasNoFrame id c old

-- the sum of a frame whose head is these bytes
abbrev pub rest_sum : ℕ → List ℕ → List ℕ → ℕ
rest_sum sum head payload = sum_words sum (head ++ payload)

-- the payload of a frame whose head is these bytes, and the sum
abbrev pub rest_bytes : ℕ → List ℕ → List ℕ → List ℕ
rest_bytes sum head payload = tagged (rest_sum sum head payload) payload

-- the bytes after a head begin with no payload and its sum
abbrev pub HasNoRest : FrameHead → ℕ → List ℕ → List ℕ → Type 0
HasNoRest h sum head bytes = (payload rest : List ℕ) → length payload ≡ h.length → bytes ≡ rest_bytes sum head payload ++ rest → ⊥

-- the buffer, which begins with a head, goes on with a payload, which was read with its sum
pub record HasRest (h : FrameHead) (sum : ℕ) (head : List ℕ) (old new : Option (List ℕ)) (buffer : List ℕ) (next : Cursor) : Type 0 where
  pub held : h.length + 40 ≤ length buffer
  pub same : take 32 buffer ≡ head
  pub read : Consumes old new (rest_bytes sum head (payload_in h buffer))
  pub after : next ≡ record { place = h.place + h.length + 40; sum = rest_sum sum head (payload_in h buffer) }

-- the buffer, which begins with a head, goes on with the bytes that were read
pub record HasMore (head : List ℕ) (old new : Option (List ℕ)) (buffer : List ℕ) (count : ℕ) : Type 0 where
  pub least : 32 ≤ count
  pub held : count ≤ length buffer
  pub same : take 32 buffer ≡ head
  pub read : Consumes old new (drop 32 (take count buffer))

-- what follows a head
abbrev pub Completes : FrameHead → ℕ → List ℕ → Option (List ℕ) → Option (List ℕ) → List ℕ → NextFrame → Type 0
Completes h sum head old new buffer (next.Frame k after) = (k ≡ h) × HasRest h sum head old new buffer after
Completes h sum head old new buffer next.End = ⊥
Completes h sum head old new buffer (next.NoFrame count) = HasMore head old new buffer count × IfSome old (HasNoRest h sum head)
