-- The frames in what a crash leaves.
use Rattle.std.proofs.Common.{◌≡◌, ◌<◌, ◌≤◌, ◌+◌, ◌-◌, ℕ, zero, suc, List, [], ◌∷◌, ◌++◌, ◌∙◌, ap, refl, sym, subst, arith, inl, inr, length, take, drop, append_assoc, append-nil}
use Rattle.std.proofs.lemmas.Bool.{cases_lt}
use Rattle.std.proofs.lemmas.Grind.{flat_map-append}
use Rattle.std.proofs.lemmas.List.{append_cancel_left, length-append, take-append-drop, take_at}
use mathlib.Core.List.{IsPrefix}
use Rattle.log_frames.specs.Endings.{IsTorn}
use Rattle.log_frames.specs.Frames.{AreFrames, Frame, IsFrame, cursor_after, end_of, frame_bytes, frames_bytes, payloads}
use Rattle.log_frames.specs.Headers.{header_bytes, log_bytes, start_of}
use Rattle.log_frames.specs.Laws.{AreUnforged, CompletesNothing, IsCut, IsReading}
use Rattle.log_frames.specs.Reads.{BeginsNoFrame}
use Rattle.log_frames.specs.declared.cursor.Cursor.{Cursor}
use Rattle.log_frames.proofs.Apart.{frames_apart}
use Rattle.log_frames.proofs.Cuts.{no_frame_in_nothing, one_way, what_is_whole}
use Rattle.framed_disk.specs.Invariants.{IsFramed}
use Rattle.framed_disk.specs.Survivors.{AreHarmless, ArePreserved, IsLogReading, IsReadable, IsUnforged, LeavesCut, MayBeLeft, Preserves}
use Rattle.framed_disk.specs.Views.{FramedView}
use Rattle.framed_disk.proofs.Framing.{frame_bytes-length}

-- ---- prefixes

module _ {A : Type 0} where
  prefix_trans : (xs ys zs : List A) → IsPrefix xs ys → IsPrefix ys zs → IsPrefix xs zs
  prefix_trans xs ys zs p q = (p.0 ++ q.0, sym (append_assoc xs p.0 q.0) ∙ ap (λ w. w ++ q.0) p.1 ∙ q.1)

  -- the shorter of two prefixes of a list is a prefix of the longer
  shorter : (xs ys zs : List A) → IsPrefix xs zs → IsPrefix ys zs → length xs ≤ length ys → IsPrefix xs ys
  shorter [] ys zs p q le = (ys, refl)
  shorter (x ∷ xs) [] zs p q le = absurd (omega arith)
  shorter (x ∷ xs) (y ∷ ys) [] p q le = cc
  shorter (x ∷ xs) (y ∷ ys) (z ∷ zs) p q le =
      let xs_of : xs ++ p.0 ≡ zs = cc in
      let ys_of : ys ++ q.0 ≡ zs = cc in
      let t : IsPrefix xs ys = shorter xs ys zs (p.0, xs_of) (q.0, ys_of) (omega arith) in
      let tail : xs ++ t.0 ≡ ys = t.1 in
      (t.0, (cc))

  prefix_length : (xs ys : List A) → IsPrefix xs ys → length xs ≤ length ys
  prefix_length xs ys p = omega (arith, ap length p.1, length-append xs p.0)

  -- a prefix is what the list begins with
  prefix_take : (xs ys : List A) → IsPrefix xs ys → take (length xs) ys ≡ xs
  prefix_take xs ys p = ap (take (length xs)) (sym p.1) ∙ take_at xs p.0 (length xs) refl

  take_prefix : (n : ℕ) (xs : List A) → IsPrefix (take n xs) xs
  take_prefix n xs = (drop n xs, take-append-drop n xs)

  take_more : (m n : ℕ) (xs : List A) → m ≤ n → IsPrefix (take m xs) (take n xs)
  take_more zero n xs le = (take n xs, refl)
  take_more (suc m) zero xs le = absurd (omega arith)
  take_more (suc m) (suc n) [] le = ([], refl)
  take_more (suc m) (suc n) (x ∷ xs) le =
      let t : IsPrefix (take m xs) (take n xs) = take_more m n xs (omega arith) in
      (t.0, ap (λ w. x ∷ w) t.1)

-- behind the same front
behind : (front xs ys : List ℕ) → IsPrefix (front ++ xs) (front ++ ys) → IsPrefix xs ys
behind front xs ys p = (p.0, append_cancel_left front (xs ++ p.0) ys (sym (append_assoc front xs p.0) ∙ p.1))

payloads_prefix : (xs ys : List Frame) → IsPrefix xs ys → IsPrefix (payloads xs) (payloads ys)
payloads_prefix xs ys p = (payloads p.0, sym (flat_map-append (λ (f : Frame). f.payload) xs p.0) ∙ ap payloads p.1)

-- ---- frames that are cut off

-- a prefix of frames' bytes: some frames, all that are complete, and a rest that begins with no frame
record Cut (id : ℕ) (c : Cursor) (frames : List Frame) (bytes : List ℕ) : Type 0 where
  count : ℕ
  rest : List ℕ
  fit : AreFrames id c (take count frames)
  whole : bytes ≡ frames_bytes id c (take count frames) ++ rest
  longest : BeginsNoFrame id (end_of id c (take count frames)) rest
  complete : (k : ℕ) → k ≤ length frames → length (frames_bytes id c (take k frames)) ≤ length bytes → k ≤ count

cut_none : (id : ℕ) (c : Cursor) (bytes : List ℕ) → IsPrefix bytes [] → Cut id c [] bytes
cut_none id c [] p = record { count = 0; rest = []; fit = tt; whole = refl; longest = no_frame_in_nothing id c; complete = λ k le fits. le }
cut_none id c (b ∷ bytes) p = absurd (omega (arith, ap length p.1))

too_many : (id : ℕ) (c : Cursor) (f : Frame) (fs : List Frame) (bytes : List ℕ) → length bytes < length (frame_bytes id c f) → (k : ℕ) → k ≤ length (f ∷ fs) → length (frames_bytes id c (take k (f ∷ fs))) ≤ length bytes → k ≤ 0
too_many id c f fs bytes short zero le fits = omega arith
too_many id c f fs bytes short (suc k) le fits = omega (arith, short, fits, length-append (frame_bytes id c f) (frames_bytes id (cursor_after id c f) (take k fs)))

-- the first frame is cut off
cut_first : (id : ℕ) (c : Cursor) (f : Frame) (fs : List Frame) (bytes : List ℕ) → IsFrame c f → IsPrefix bytes (frames_bytes id c (f ∷ fs)) → length bytes < length (frame_bytes id c f) → Cut id c (f ∷ fs) bytes
cut_first id c f fs bytes is p short = record {
  count = 0;
  rest = bytes;
  fit = tt;
  whole = refl;
  longest = λ g rest fits e.
      let more : frame_bytes id c g ++ (rest ++ p.0) ≡ frame_bytes id c f ++ frames_bytes id (cursor_after id c f) fs =
      sym (append_assoc (frame_bytes id c g) rest p.0) ∙ ap (λ t. t ++ p.0) (sym e) ∙ p.1 in
      let same = (frames_apart id c g f _ _ fits is more).0 in
      omega (arith, short, ap length e, length-append (frame_bytes id c g) rest, ap (λ (h : Frame). length (frame_bytes id c h)) same);
  complete = too_many id c f fs bytes short;
}

one_more : (id : ℕ) (c : Cursor) (f : Frame) (fs : List Frame) (bytes later : List ℕ) (count : ℕ) → length bytes ≡ length (frame_bytes id c f) + length later
    → ((k : ℕ) → k ≤ length fs → length (frames_bytes id (cursor_after id c f) (take k fs)) ≤ length later → k ≤ count)
    → (k : ℕ) → k ≤ length (f ∷ fs) → length (frames_bytes id c (take k (f ∷ fs))) ≤ length bytes → k ≤ suc count
one_more id c f fs bytes later count len all zero le fits = omega arith
one_more id c f fs bytes later count len all (suc k) le fits =
    let before = all k (omega (arith, le)) (omega (arith, len, fits, length-append (frame_bytes id c f) (frames_bytes id (cursor_after id c f) (take k fs)))) in
    omega (arith, before)

cut : (id : ℕ) (c : Cursor) (frames : List Frame) (bytes : List ℕ) → AreFrames id c frames → IsPrefix bytes (frames_bytes id c frames) → Cut id c frames bytes
cut id c [] bytes are p = cut_none id c bytes p
cut id c (f ∷ fs) bytes are p =
    let first : List ℕ = frame_bytes id c f in
    let after : Cursor = cursor_after id c f in
    elim (cases_lt (length bytes) (length first)) [
      | inl short ↦ cut_first id c f fs bytes are.0 p short
      | inr long ↦
          let split = shorter first bytes (frames_bytes id c (f ∷ fs)) (frames_bytes id after fs, refl) p long in
          let later = cut id after fs split.0 are.1 (behind first split.0 (frames_bytes id after fs) (p.0, ap (λ t. t ++ p.0) split.1 ∙ p.1)) in
          record {
            count = suc later.count;
            rest = later.rest;
            fit = (are.0, later.fit);
            whole = sym split.1 ∙ ap (λ t. first ++ t) later.whole ∙ sym (append_assoc first (frames_bytes id after (take later.count fs)) later.rest);
            longest = later.longest;
            complete = one_more id c f fs bytes split.0 later.count (omega (arith, ap length split.1, length-append first split.0)) later.complete;
          }
    ]

-- ---- what a crash leaves

-- a reading of what a crash left
record Left (v : FramedView) (left : List ℕ) : Type 0 where
  frames : List Frame
  rest : List ℕ
  body : List ℕ
  whole : left ≡ header_bytes v.id ++ body
  read : IsReading v.id (start_of v.id) body frames rest
  of : IsPrefix body (frames_bytes v.id (start_of v.id) v.frames)
  kept : IsPrefix v.synced_frames frames
  made : IsPrefix frames v.frames

left_of : (v : FramedView) (cursor : Cursor) (offset stated : ℕ) (left : List ℕ) → IsFramed v cursor offset stated → MayBeLeft v left → Left v left
left_of v cursor offset stated left is may =
    let id = v.id in
    let kept : IsPrefix (log_bytes id v.synced_frames) left = subst (λ (t : List ℕ). IsPrefix t left) is.safe may.kept in
    let header : IsPrefix (header_bytes id) left = prefix_trans (header_bytes id) (log_bytes id v.synced_frames) left (frames_bytes id (start_of id) v.synced_frames, refl) kept in
    let made = prefix_trans left v.written (log_bytes id v.frames) may.made is.in_order in
    let part : IsPrefix header.0 (frames_bytes id (start_of id) v.frames) = behind (header_bytes id) header.0 (frames_bytes id (start_of id) v.frames) (made.0, ap (λ t. t ++ made.0) header.1 ∙ made.1) in
    let found = cut id (start_of id) v.frames header.0 is.are part in
    let synced : IsPrefix (frames_bytes id (start_of id) v.synced_frames) header.0 = behind (header_bytes id) (frames_bytes id (start_of id) v.synced_frames) header.0 (kept.0, kept.1 ∙ sym header.1) in
    let k : ℕ = length v.synced_frames in
    let first : take k v.frames ≡ v.synced_frames = prefix_take v.synced_frames v.frames is.synced_of in
    let long : length (frames_bytes id (start_of id) (take k v.frames)) ≤ length header.0 =
    subst (λ (fs : List Frame). length (frames_bytes id (start_of id) fs) ≤ length header.0) (sym first) (prefix_length (frames_bytes id (start_of id) v.synced_frames) header.0 synced) in
    let many : k ≤ found.count = found.complete k (prefix_length v.synced_frames v.frames is.synced_of) long in
    record {
      frames = take found.count v.frames;
      rest = found.rest;
      body = header.0;
      whole = sym header.1;
      read = record { fit = found.fit; whole = found.whole; none = found.longest };
      of = part;
      kept = subst (λ (fs : List Frame). IsPrefix fs (take found.count v.frames)) first (take_more k found.count v.frames many);
      made = take_prefix found.count v.frames;
    }

-- a log is read in one way
one_reading : (id : ℕ) (bytes body : List ℕ) (fs gs : List Frame) (r q : List ℕ) → bytes ≡ header_bytes id ++ body → IsReading id (start_of id) body fs r → IsLogReading id bytes gs q → (fs ≡ gs) × (r ≡ q)
one_reading id bytes body fs gs r q whole a b =
    let same : b.body ≡ body = append_cancel_left (header_bytes id) b.body body (sym b.whole ∙ whole) in
    one_way id (start_of id) body fs gs r q a (subst (λ (t : List ℕ). IsReading id (start_of id) t gs q) same b.read)

preserved : (v : FramedView) (left : List ℕ) (l : Left v left) (frames : List Frame) → l.frames ≡ frames → ArePreserved v frames
preserved v left l frames same =
    let kept : IsPrefix v.synced_frames frames = subst (λ (fs : List Frame). IsPrefix v.synced_frames fs) same l.kept in
    let made : IsPrefix frames v.frames = subst (λ (fs : List Frame). IsPrefix fs v.frames) same l.made in
    record { kept = kept; made = made; kept_payloads = payloads_prefix v.synced_frames frames kept; made_payloads = payloads_prefix frames v.frames made }

pub readable : (v : FramedView) (cursor : Cursor) (offset stated : ℕ) (left : List ℕ) → IsFramed v cursor offset stated → MayBeLeft v left → IsReadable v.id left
readable v cursor offset stated left is may =
    let l = left_of v cursor offset stated left is may in
    (l.frames, l.rest, record { body = l.body; whole = l.whole; read = l.read })

pub preserves : (v : FramedView) (cursor : Cursor) (offset stated : ℕ) (left : List ℕ) → IsFramed v cursor offset stated → MayBeLeft v left → Preserves v left
preserves v cursor offset stated left is may frames rest read =
    let l = left_of v cursor offset stated left is may in
    preserved v left l frames (one_reading v.id left l.body l.frames frames l.rest rest l.whole l.read read).0

-- what is left after the frames is nothing or torn
pub leaves_cut : (v : FramedView) (cursor : Cursor) (offset stated : ℕ) (left : List ℕ) → IsFramed v cursor offset stated → MayBeLeft v left → IsUnforged v → LeavesCut v.id left
leaves_cut v cursor offset stated left is may unforged frames rest read =
    let l = left_of v cursor offset stated left is may in
    let id = v.id in
    let all : List ℕ = frames_bytes id (start_of id) v.frames in
    let same : read.body ≡ l.body = append_cancel_left (header_bytes id) read.body l.body (sym read.whole ∙ l.whole) in
    let first : read.body ≡ take (length l.body) all = same ∙ sym (prefix_take l.body all l.of) in
    (what_is_whole id (start_of id) v.frames frames rest (length l.body) is.are (subst (λ (t : List ℕ). IsReading id (start_of id) t frames rest) first read.read)).2 unforged

-- ---- other bytes behind

with_behind : (v : FramedView) (left more : List ℕ) (l : Left v left) → AreHarmless v.id left more → IsReading v.id (start_of v.id) (l.body ++ more) l.frames (l.rest ++ more)
with_behind v left more l harmless = record {
  fit = l.read.fit;
  whole = ap (λ t. t ++ more) l.read.whole ∙ append_assoc (frames_bytes v.id (start_of v.id) l.frames) l.rest more;
  none = (harmless l.frames l.rest (record { body = l.body; whole = l.whole; read = l.read })).none;
}

whole_behind : (v : FramedView) (left more : List ℕ) (l : Left v left) → left ++ more ≡ header_bytes v.id ++ (l.body ++ more)
whole_behind v left more l = ap (λ t. t ++ more) l.whole ∙ append_assoc (header_bytes v.id) l.body more

pub readable_behind : (v : FramedView) (cursor : Cursor) (offset stated : ℕ) (left more : List ℕ) → IsFramed v cursor offset stated → MayBeLeft v left → AreHarmless v.id left more → IsReadable v.id (left ++ more)
readable_behind v cursor offset stated left more is may harmless =
    let l = left_of v cursor offset stated left is may in
    (l.frames, l.rest ++ more, record { body = l.body ++ more; whole = whole_behind v left more l; read = with_behind v left more l harmless })

pub preserves_behind : (v : FramedView) (cursor : Cursor) (offset stated : ℕ) (left more : List ℕ) → IsFramed v cursor offset stated → MayBeLeft v left → AreHarmless v.id left more → Preserves v (left ++ more)
preserves_behind v cursor offset stated left more is may harmless frames rest read =
    let l = left_of v cursor offset stated left is may in
    preserved v left l frames (one_reading v.id (left ++ more) (l.body ++ more) l.frames frames (l.rest ++ more) rest (whole_behind v left more l) (with_behind v left more l harmless) read).0

ended : (id : ℕ) (c : Cursor) (rest : List ℕ) → CompletesNothing id c rest → IsCut id c rest
ended id c [] nothing = inl refl
ended id c (b ∷ rest) nothing = inr (record { some = omega arith; none = nothing.none; no_later = nothing.no_later })

pub leaves_cut_behind : (v : FramedView) (cursor : Cursor) (offset stated : ℕ) (left more : List ℕ) → IsFramed v cursor offset stated → MayBeLeft v left → AreHarmless v.id left more → LeavesCut v.id (left ++ more)
leaves_cut_behind v cursor offset stated left more is may harmless frames rest read =
    let l = left_of v cursor offset stated left is may in
    let nothing = harmless l.frames l.rest (record { body = l.body; whole = l.whole; read = l.read }) in
    let same = one_reading v.id (left ++ more) (l.body ++ more) l.frames frames (l.rest ++ more) rest (whole_behind v left more l) (with_behind v left more l harmless) read in
    subst (λ (fs : List Frame). IsCut v.id (end_of v.id (start_of v.id) fs) rest) same.0
    (subst (λ (t : List ℕ). IsCut v.id (end_of v.id (start_of v.id) l.frames) t) same.1 (ended v.id (end_of v.id (start_of v.id) l.frames) (l.rest ++ more) nothing))
