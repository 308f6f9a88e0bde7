-- The bytes of frames.
use Rattle.std.specs.Prelude.{ℕ, List, [], ◌∷◌, ◌++◌, ◌+◌, ◌<◌, ◌≤◌, ◌^◌, ⊤, length}
use Rattle.std.specs.List.{flat_map}
use Rattle.std.specs.Int.{w64, to_le_bytes}
use Rattle.log_frames.specs.Sums.{sum_words, tagged}
use Rattle.log_frames.specs.declared.cursor.Cursor.{Cursor}
use Rattle.log_frames.specs.declared.head.FrameHead.{FrameHead}

-- the greatest length of a payload
abbrev pub max_payload : ℕ
max_payload = 2199023255552

-- the first 24 bytes of a head
unfoldable pub head_fields : FrameHead → List ℕ
head_fields h = to_le_bytes w64 h.place ++ to_le_bytes w64 h.synced ++ to_le_bytes w64 h.length

-- the sum of a head in a log with this id
abbrev pub head_sum : ℕ → FrameHead → ℕ
head_sum id h = sum_words id (head_fields h)

-- the 32 bytes of a head
abbrev pub head_bytes : ℕ → FrameHead → List ℕ
head_bytes id h = tagged (head_sum id h) (head_fields h)

-- the head of a frame that a log can contain
pub record IsHead (h : FrameHead) : Type 0 where
  pub synced : h.synced ≤ h.place
  pub length : h.length ≤ max_payload
  pub room : h.place + h.length + 40 < 2 ^ 64

-- a frame: how far the file was synced when the frame was written, and the payload
pub record Frame : Type 0 where
  pub synced : ℕ
  pub payload : List ℕ

-- the head at a cursor with these numbers
abbrev pub head_of : Cursor → ℕ → ℕ → FrameHead
head_of c synced length = record { place = c.place; synced = synced; length = length }

-- the head of a frame at a cursor
abbrev pub head_at : Cursor → Frame → FrameHead
head_at c f = head_of c f.synced (length f.payload)

-- a frame that a log can contain at a cursor
abbrev pub IsFrame : Cursor → Frame → Type 0
IsFrame c f = IsHead (head_at c f)

-- the head and the payload of a frame
abbrev pub summed_bytes : ℕ → Cursor → Frame → List ℕ
summed_bytes id c f = head_bytes id (head_at c f) ++ f.payload

-- the sum of a frame, which continues the sum at the cursor
abbrev pub frame_sum : ℕ → Cursor → Frame → ℕ
frame_sum id c f = sum_words c.sum (summed_bytes id c f)

-- the bytes of a frame
abbrev pub frame_bytes : ℕ → Cursor → Frame → List ℕ
frame_bytes id c f = tagged (frame_sum id c f) (summed_bytes id c f)

-- the cursor after a frame
abbrev pub cursor_after : ℕ → Cursor → Frame → Cursor
cursor_after id c f = record { place = c.place + length f.payload + 40; sum = frame_sum id c f }

-- the bytes of frames from a cursor on
abbrev pub frames_bytes : ℕ → Cursor → List Frame → List ℕ
frames_bytes id c [] = []
frames_bytes id c (f ∷ frames) = frame_bytes id c f ++ frames_bytes id (cursor_after id c f) frames

-- the cursor after frames
abbrev pub end_of : ℕ → Cursor → List Frame → Cursor
end_of id c [] = c
end_of id c (f ∷ frames) = end_of id (cursor_after id c f) frames

-- frames that a log can contain from a cursor on
abbrev pub AreFrames : ℕ → Cursor → List Frame → Type 0
AreFrames id c [] = ⊤
AreFrames id c (f ∷ frames) = IsFrame c f × AreFrames id (cursor_after id c f) frames

-- the payloads of frames, one after the other
abbrev pub payloads : List Frame → List ℕ
payloads frames = flat_map (λ (f : Frame). f.payload) frames

-- a frame with this offset up to which the file was synced, and this payload
abbrev pub frame_of : ℕ → List ℕ → Frame
frame_of synced payload = record { synced = synced; payload = payload }
