-- The bytes of a log with one more frame.
use Rattle.std.proofs.Common.{◌≡◌, ◌<◌, ◌≤◌, ◌+◌, ℕ, List, [], ◌∷◌, ◌++◌, ◌∙◌, ap, refl, sym, arith, length, append_assoc, append-nil}
use Rattle.std.proofs.lemmas.Grind.{flat_map-append}
use Rattle.std.proofs.lemmas.List.{length-append}
use Rattle.std.specs.Int.{w64, to_le_bytes}
use Rattle.std.specs.List.{AllByRecursion, flat_map}
use mathlib.Core.List.{IsPrefix}
use Rattle.log_frames.specs.Frames.{AreFrames, Frame, IsFrame, cursor_after, end_of, frame_bytes, frame_sum, frames_bytes, head_at, head_bytes, head_fields, head_sum, payloads, summed_bytes}
use Rattle.log_frames.specs.Headers.{header_bytes, header_front, header_sum, log_bytes, start_of}
use Rattle.log_frames.specs.Sums.{tagged}
use Rattle.log_frames.specs.declared.cursor.Cursor.{Cursor}
use Rattle.framed_disk.specs.Invariants.{StatesAtMost}

-- ---- lengths

tagged-length : (sum : ℕ) (bytes : List ℕ) → length (tagged sum bytes) ≡ length bytes + 8
unfolding tagged
tagged-length sum bytes = length-append bytes (to_le_bytes w64 sum)

pub header_bytes-length : (id : ℕ) → length (header_bytes id) ≡ 32
unfolding header_front tagged
header_bytes-length id = refl

head_bytes-length : (id : ℕ) (c : Cursor) (f : Frame) → length (head_bytes id (head_at c f)) ≡ 32
unfolding head_fields tagged
head_bytes-length id c f = refl

pub frame_bytes-length : (id : ℕ) (c : Cursor) (f : Frame) → length (frame_bytes id c f) ≡ length f.payload + 40
frame_bytes-length id c f =
    omega (arith, tagged-length (frame_sum id c f) (summed_bytes id c f), length-append (head_bytes id (head_at c f)) f.payload, head_bytes-length id c f)

end_of-place : (id : ℕ) (c : Cursor) (fs : List Frame) → (end_of id c fs).place ≡ c.place + length (frames_bytes id c fs)
end_of-place id c [] = omega arith
end_of-place id c (f ∷ fs) =
    omega (arith, end_of-place id (cursor_after id c f) fs, frame_bytes-length id c f, length-append (frame_bytes id c f) (frames_bytes id (cursor_after id c f) fs))

-- a log is as long as its cursor says
pub log_bytes-length : (id : ℕ) (fs : List Frame) → length (log_bytes id fs) ≡ (end_of id (start_of id) fs).place
log_bytes-length id fs =
    omega (arith, end_of-place id (start_of id) fs, header_bytes-length id, length-append (header_bytes id) (frames_bytes id (start_of id) fs))

-- ---- one more frame

pub end_of-snoc : (id : ℕ) (c : Cursor) (fs : List Frame) (f : Frame) → end_of id c (fs ++ f ∷ []) ≡ cursor_after id (end_of id c fs) f
end_of-snoc id c [] f = refl
end_of-snoc id c (g ∷ fs) f = end_of-snoc id (cursor_after id c g) fs f

frames_bytes-snoc : (id : ℕ) (c : Cursor) (fs : List Frame) (f : Frame) → frames_bytes id c (fs ++ f ∷ []) ≡ frames_bytes id c fs ++ frame_bytes id (end_of id c fs) f
frames_bytes-snoc id c [] f = append-nil (frame_bytes id c f)
frames_bytes-snoc id c (g ∷ fs) f =
    ap (λ t. frame_bytes id c g ++ t) (frames_bytes-snoc id (cursor_after id c g) fs f)
    ∙ sym (append_assoc (frame_bytes id c g) (frames_bytes id (cursor_after id c g) fs) (frame_bytes id (end_of id (cursor_after id c g) fs) f))

pub log_bytes-snoc : (id : ℕ) (fs : List Frame) (f : Frame) → log_bytes id (fs ++ f ∷ []) ≡ log_bytes id fs ++ frame_bytes id (end_of id (start_of id) fs) f
log_bytes-snoc id fs f =
    ap (λ t. header_bytes id ++ t) (frames_bytes-snoc id (start_of id) fs f)
    ∙ sym (append_assoc (header_bytes id) (frames_bytes id (start_of id) fs) (frame_bytes id (end_of id (start_of id) fs) f))

pub are-snoc : (id : ℕ) (c : Cursor) (fs : List Frame) (f : Frame) → AreFrames id c fs → IsFrame (end_of id c fs) f → AreFrames id c (fs ++ f ∷ [])
are-snoc id c [] f are fits = (fits, tt)
are-snoc id c (g ∷ fs) f are fits = (are.0, are-snoc id (cursor_after id c g) fs f are.1 fits)

pub payloads-snoc : (fs : List Frame) (f : Frame) → payloads (fs ++ f ∷ []) ≡ payloads fs ++ f.payload
payloads-snoc fs f = flat_map-append (λ (g : Frame). g.payload) fs (f ∷ []) ∙ ap (λ t. payloads fs ++ t) (append-nil f.payload)

-- ---- what frames state

pub stated-snoc : (n : ℕ) (fs : List Frame) (f : Frame) → AllByRecursion (StatesAtMost n) fs → f.synced ≤ n → AllByRecursion (StatesAtMost n) (fs ++ f ∷ [])
stated-snoc n [] f all le = (le, tt)
stated-snoc n (g ∷ fs) f all le = (all.0, stated-snoc n fs f all.1 le)

pub stated-more : (m n : ℕ) (fs : List Frame) → m ≤ n → AllByRecursion (StatesAtMost m) fs → AllByRecursion (StatesAtMost n) fs
stated-more m n [] le all = tt
stated-more m n (g ∷ fs) le all = (omega (arith, le, all.0), stated-more m n fs le all.1)

-- frames state no more than the place where they end
pub stated-end : (id : ℕ) (c : Cursor) (fs : List Frame) → AreFrames id c fs → AllByRecursion (StatesAtMost (end_of id c fs).place) fs
stated-end id c [] are = tt
stated-end id c (f ∷ fs) are =
    let after : Cursor = cursor_after id c f in
    let place : (end_of id after fs).place ≡ after.place + length (frames_bytes id after fs) = end_of-place id after fs in
    (omega (arith, place, are.0.synced), stated-end id after fs are.1)
