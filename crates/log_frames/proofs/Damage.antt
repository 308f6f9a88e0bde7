-- A changed byte is told.
use Rattle.std.proofs.Common.{◌≡◌, ◌≢◌, ◌<◌, ◌≤◌, ◌+◌, ℕ, List, [], ◌∷◌, ◌++◌, ◌∙◌, ap, refl, sym, subst, arith, length, take, append_assoc, inl, inr}
use Rattle.std.specs.Int.{w64, to_le_bytes}
use Rattle.std.proofs.lemmas.Bool.{cases_lt}
use Rattle.std.proofs.lemmas.List.{length-append}
use Rattle.log_frames.specs.Frames.{Frame, IsFrame, cursor_after, end_of, frame_bytes, frame_sum, head_at, head_bytes, head_fields, head_sum, summed_bytes}
use Rattle.log_frames.specs.Laws.{AreBytes, AreSums, IsChanged, StartHasSums, TellsDamage, TellsOneByte}
use Rattle.log_frames.specs.Reads.{BeginsNoFrame}
use Rattle.log_frames.specs.Scans.{IsLaterHead}
use Rattle.log_frames.specs.Headers.{header_front}
use Rattle.log_frames.specs.Sums.{basis, sum_words, tagged}
use Rattle.log_frames.specs.declared.cursor.Cursor.{Cursor}
use Rattle.log_frames.specs.declared.head.FrameHead.{FrameHead}
use Rattle.log_frames.proofs.Apart.{fields_len, frame_len, frame_split, head_len, heads_apart, summed_len}
use Rattle.log_frames.proofs.Bytes.{are_append, are_front, are_low, are_rest, of_seed, one_apart, words_below}
use Rattle.log_frames.proofs.Scanning.{cut_front}

are_fields : (h : FrameHead) → AreBytes (head_fields h)
unfolding head_fields
are_fields h = are_append (to_le_bytes w64 h.place ++ to_le_bytes w64 h.synced) (to_le_bytes w64 h.length) (are_append (to_le_bytes w64 h.place) (to_le_bytes w64 h.synced) (are_low 0 8 h.place) (are_low 0 8 h.synced)) (are_low 0 8 h.length)

are_head : (id : ℕ) (h : FrameHead) → AreBytes (head_bytes id h)
unfolding tagged
are_head id h = are_append (head_fields h) (to_le_bytes w64 (head_sum id h)) (are_fields h) (are_low 0 8 (head_sum id h))

-- two frames with equal heads
changed_behind : (id : ℕ) (c : Cursor) (f other : Frame) (front back rest more : List ℕ) (x y : ℕ) → AreSums id c → IsFrame c f → IsFrame c other → AreBytes f.payload → AreBytes other.payload → length front < length (frame_bytes id c f) → 32 ≤ length front → x ≢ y
    → frame_bytes id c f ++ rest ≡ front ++ (x ∷ back) → frame_bytes id c other ++ more ≡ front ++ (y ∷ back) → ⊥
changed_behind id c f other front back rest more x y sums is_f is_other af ao place long differ ef eo =
    let hf : FrameHead = head_at c f in
    let ho : FrameHead = head_at c other in
    let lf = head_len id hf in
    let lo = head_len id ho in
    let cf = cut_front (head_bytes id hf) _ front (x ∷ back) (omega (arith, long, lf)) (sym (frame_split id c f rest) ∙ ef) in
    let co = cut_front (head_bytes id ho) _ front (y ∷ back) (omega (arith, long, lo)) (sym (frame_split id c other more) ∙ eo) in
    let same : head_bytes id hf ≡ head_bytes id ho = cf.0 ∙ ap (λ n. take n front) (lf ∙ sym lo) ∙ sym co.0 in
    let heads : hf ≡ ho = (heads_apart id hf ho [] [] is_f is_other (ap (λ t. t ++ []) same)).0 in
    let len : length f.payload ≡ length other.payload = ap (λ (h : FrameHead). h.length) heads in
    let summed : length (summed_bytes id c f) ≡ length (summed_bytes id c other) = omega (arith, len, summed_len id c f, summed_len id c other) in
    one_apart (sum_words c.sum) (summed_bytes id c f) (summed_bytes id c other) rest more front back x y (of_seed c.sum sums.1) summed (are_append (head_bytes id hf) f.payload (are_head id hf) af) (are_append (head_bytes id ho) other.payload (are_head id ho) ao)
    (omega (arith, place, frame_len id c f, summed_len id c f)) differ ef eo

pub one_byte : TellsOneByte
one_byte id c f other front back rest more x y sums is_f is_other af ao place differ ef eo =
    elim (cases_lt (length front) 32) [
      | inl short ↦
          let hf : FrameHead = head_at c f in
          let ho : FrameHead = head_at c other in
          one_apart (sum_words id) (head_fields hf) (head_fields ho) _ _ front back x y (of_seed id sums.0) (fields_len hf ∙ sym (fields_len ho)) (are_fields hf) (are_fields ho) (omega (arith, short, fields_len hf)) differ (sym (frame_split id c f rest) ∙ ef) (sym (frame_split id c other more) ∙ eo)
      | inr long ↦ changed_behind id c f other front back rest more x y sums is_f is_other af ao place long differ ef eo
    ]

-- ---- in a log

end_sum : (id : ℕ) (c : Cursor) (frames : List Frame) → AreSums id c → AreSums id (end_of id c frames)
end_sum id c [] sums = sums
end_sum id c (f ∷ frames) sums = end_sum id (cursor_after id c f) frames (sums.0, words_below c.sum (summed_bytes id c f) sums.1)

-- the payload of a frame in bytes
payload_bytes : (id : ℕ) (c : Cursor) (f : Frame) (rest : List ℕ) → AreBytes (frame_bytes id c f ++ rest) → AreBytes f.payload
unfolding tagged
payload_bytes id c f rest are = are_rest (head_bytes id (head_at c f)) f.payload (are_front (summed_bytes id c f) (to_le_bytes w64 (frame_sum id c f)) (are_front (frame_bytes id c f) rest are))

changed_frame : (id : ℕ) (c : Cursor) (f : Frame) (damaged behind : List ℕ) → AreSums id c → IsFrame c f → AreBytes f.payload → AreBytes damaged → AreBytes behind → IsChanged id c f damaged → BeginsNoFrame id c (damaged ++ behind)
changed_frame id c f damaged behind sums is af ad ab w = λ other rest fits e.
    let ef : frame_bytes id c f ++ behind ≡ w.front ++ (w.x ∷ (w.back ++ behind)) = ap (λ t. t ++ behind) w.written ∙ append_assoc w.front (w.x ∷ w.back) behind in
    let eo : frame_bytes id c other ++ rest ≡ w.front ++ (w.y ∷ (w.back ++ behind)) = sym e ∙ ap (λ t. t ++ behind) w.now ∙ append_assoc w.front (w.y ∷ w.back) behind in
    let ao = payload_bytes id c other rest (subst AreBytes e (are_append damaged behind ad ab)) in
    one_byte id c f other w.front (w.back ++ behind) behind rest w.x w.y sums is fits af ao (omega (arith, ap length w.written, length-append w.front (w.x ∷ w.back))) w.other ef eo

later_behind : (id p : ℕ) (xs behind : List ℕ) (h : FrameHead) (n : ℕ) → n ≡ p + length xs → IsLaterHead id p n behind h → IsLaterHead id p p (xs ++ behind) h
later_behind id p xs behind h n is w = record {
  front = xs ++ w.front;
  rest = w.rest;
  head = w.head;
  whole = ap (λ t. xs ++ t) w.whole ∙ sym (append_assoc xs w.front (head_bytes id h ++ w.rest));
  here = omega (arith, is, w.here, length-append xs w.front);
  later = w.later;
}

changed_len : (id : ℕ) (c : Cursor) (f : Frame) (damaged : List ℕ) → IsChanged id c f damaged → length damaged ≡ length f.payload + 40
changed_len id c f damaged w = omega (arith, frame_len id c f, ap length w.written, length-append w.front (w.x ∷ w.back), ap length w.now, length-append w.front (w.y ∷ w.back))

pub damage_told : TellsDamage
damage_told id c before f damaged behind h sums fit is af ad ab w later =
    let here : Cursor = end_of id c before in
    let none = changed_frame id here f damaged behind (end_sum id c before sums) is af ad ab w in (
      record { fit = fit; whole = refl; none = none },
      record { none = none; later = later_behind id here.place damaged behind h _ (omega (arith, changed_len id here f damaged w)) later },
    )

pub start_sums : StartHasSums
start_sums id low = (low, words_below basis (header_front id) (omega arith))
