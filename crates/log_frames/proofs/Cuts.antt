-- Logs that were cut off anywhere.
use Rattle.std.proofs.Common.{◌≡◌, ◌<◌, ◌≤◌, ◌+◌, ◌-◌, ◌^◌, ℕ, zero, suc, List, [], ◌∷◌, ◌++◌, ◌∙◌, ap, refl, sym, subst, arith, length, length-take-le, take, drop, take-append-drop, append_assoc, append-nil, inl, inr}
use Rattle.std.proofs.lemmas.Bool.{cases_lt}
use Rattle.std.proofs.lemmas.List.{length-append, length-drop, length-take, take-append-le, nil_from_length}
use Rattle.std.proofs.Math.Seq.{take-append-add}
use Rattle.std.specs.Int.{w64, to_le_bytes}
use Rattle.log_frames.specs.Frames.{AreFrames, Frame, IsFrame, cursor_after, end_of, frame_bytes, frames_bytes, head_bytes}
use Rattle.log_frames.specs.Headers.{header_bytes, header_front, header_sum, magic, start_of}
use Rattle.log_frames.specs.Laws.{AreUnforged, HasAllWithin, IsCut, IsReading, LogsAreUnique, ReadsInOneWay, ReadsPastTheCut, ReadsWhatIsWhole}
use Rattle.log_frames.specs.Reads.{BeginsNoFrame}
use Rattle.log_frames.specs.Scans.{HasNoLaterHead, IsLaterHead}
use Rattle.log_frames.specs.declared.cursor.Cursor.{Cursor}
use Rattle.log_frames.specs.declared.head.FrameHead.{FrameHead}
use Rattle.log_frames.proofs.Apart.{apart, field, frame_len, frames_apart, head_len, tagged_apart}
use Rattle.log_frames.proofs.Headers.{front_len}

more_frames : (id : ℕ) (c : Cursor) (f : Frame) (fs : List Frame) (rest : List ℕ) → frames_bytes id c (f ∷ fs) ++ rest ≡ frame_bytes id c f ++ (frames_bytes id (cursor_after id c f) fs ++ rest)
more_frames id c f fs rest = append_assoc (frame_bytes id c f) (frames_bytes id (cursor_after id c f) fs) rest

-- ---- one reading

pub one_way : ReadsInOneWay
one_way id c bytes [] [] rest left a b = (refl, sym a.whole ∙ b.whole)
one_way id c bytes [] (o ∷ os) rest left a b = absurd (a.none o (frames_bytes id (cursor_after id c o) os ++ left) b.fit.0 (sym a.whole ∙ b.whole ∙ more_frames id c o os left))
one_way id c bytes (f ∷ fs) [] rest left a b = absurd (b.none f (frames_bytes id (cursor_after id c f) fs ++ rest) a.fit.0 (sym b.whole ∙ a.whole ∙ more_frames id c f fs rest))
one_way id c bytes (f ∷ fs) (o ∷ os) rest left a b =
    let next : Cursor = cursor_after id c f in
    let both = frames_apart id c f o (frames_bytes id next fs ++ rest) (frames_bytes id (cursor_after id c o) os ++ left) a.fit.0 b.fit.0 (sym (more_frames id c f fs rest) ∙ sym a.whole ∙ b.whole ∙ more_frames id c o os left) in
    let after : IsReading id (cursor_after id c o) (frames_bytes id (cursor_after id c o) os ++ left) os left = record { fit = b.fit.1; whole = refl; none = b.none } in
    let moved = subst (λ (g : Frame). IsReading id (cursor_after id c g) (frames_bytes id (cursor_after id c g) os ++ left) os left) (sym both.0) after in
    let same : frames_bytes id next fs ++ rest ≡ frames_bytes id next os ++ left = both.1 ∙ ap (λ (g : Frame). frames_bytes id (cursor_after id c g) os ++ left) (sym both.0) in
    let behind = one_way id next (frames_bytes id next fs ++ rest) fs os rest left (record { fit = a.fit.1; whole = refl; none = a.none }) (record { fit = moved.fit; whole = same; none = moved.none }) in
    (rw (both.0, behind.0) refl, behind.1)

pub no_frame_in_nothing : (id : ℕ) (c : Cursor) → BeginsNoFrame id c []
no_frame_in_nothing id c = λ f rest is e. omega (arith, ap length e, length-append (frame_bytes id c f) rest, frame_len id c f)

same_id : (id other : ℕ) (x y : List ℕ) → id < 2 ^ 64 → other < 2 ^ 64 → header_bytes id ++ x ≡ header_bytes other ++ y → (id ≡ other) × (x ≡ y)
unfolding header_front
same_id id other x y low low_other e =
    let both = tagged_apart (header_sum id) (header_sum other) (header_front id) (header_front other) x y (front_len id ∙ sym (front_len other)) e in
    let behind = apart (magic ++ to_le_bytes w64 1) (magic ++ to_le_bytes w64 1) (to_le_bytes w64 id) (to_le_bytes w64 other) refl both.0 in
    let number = field id other [] [] low low_other (ap (λ t. t ++ []) behind.1) in
    (number.0, both.1)

pub logs_unique : LogsAreUnique
logs_unique id other frames others low low_other fit fit_other e =
    let ids = same_id id other _ _ low low_other e in
    let fit_same = subst (λ (n : ℕ). AreFrames n (start_of n) others) (sym ids.0) fit_other in
    let same : frames_bytes id (start_of id) frames ≡ frames_bytes id (start_of id) others = ids.1 ∙ ap (λ (n : ℕ). frames_bytes n (start_of n) others) (sym ids.0) in
    let a : IsReading id (start_of id) (frames_bytes id (start_of id) frames) frames [] = record { fit = fit; whole = sym (append-nil (frames_bytes id (start_of id) frames)); none = no_frame_in_nothing id (end_of id (start_of id) frames) } in
    let b : IsReading id (start_of id) (frames_bytes id (start_of id) frames) others [] = record { fit = fit_same; whole = same ∙ sym (append-nil (frames_bytes id (start_of id) others)); none = no_frame_in_nothing id (end_of id (start_of id) others) } in
    (ids.0, (one_way id (start_of id) _ frames others [] [] a b).0)

-- ---- a frame that was cut off

cut_frame : (id : ℕ) (c : Cursor) (f : Frame) (n : ℕ) → IsFrame c f → n < length (frame_bytes id c f) → BeginsNoFrame id c (take n (frame_bytes id c f))
cut_frame id c f n is short = λ g rest fits e.
    let bytes : List ℕ = frame_bytes id c f in
    let whole : bytes ++ [] ≡ frame_bytes id c g ++ (rest ++ drop n bytes) = append-nil bytes ∙ sym (take-append-drop n bytes) ∙ ap (λ t. t ++ drop n bytes) e ∙ append_assoc (frame_bytes id c g) rest (drop n bytes) in
    let both = frames_apart id c f g [] (rest ++ drop n bytes) is fits whole in
    omega (arith, short, ap length both.1, length-append rest (drop n bytes), length-drop n bytes)

pub later_in_more : (id p : ℕ) (bytes more : List ℕ) (h : FrameHead) → IsLaterHead id p p bytes h → IsLaterHead id p p (bytes ++ more) h
later_in_more id p bytes more h w = record {
  front = w.front;
  rest = w.rest ++ more;
  head = w.head;
  whole = ap (λ t. t ++ more) w.whole ∙ append_assoc w.front (head_bytes id h ++ w.rest) more ∙ ap (λ t. w.front ++ t) (append_assoc (head_bytes id h) w.rest more);
  here = w.here;
  later = w.later;
}

cut_unforged : (id p n : ℕ) (bytes : List ℕ) → HasNoLaterHead id p p bytes → HasNoLaterHead id p p (take n bytes)
cut_unforged id p n bytes none = λ h w. none h (subst (λ (t : List ℕ). IsLaterHead id p p t h) (take-append-drop n bytes) (later_in_more id p (take n bytes) (drop n bytes) h w))

pub none_in_nothing : (id p : ℕ) → HasNoLaterHead id p p []
none_in_nothing id p = λ h w. omega (arith, ap length w.whole, length-append w.front (head_bytes id h ++ w.rest), length-append (head_bytes id h) w.rest, head_len id h)

-- ---- what is whole

-- so many of the frames are read, and all that are whole
record Whole (id : ℕ) (c : Cursor) (written : List Frame) (n : ℕ) : Type 0 where
  many : ℕ
  rest : List ℕ
  few : many ≤ length written
  reading : IsReading id c (take n (frames_bytes id c written)) (take many written) rest
  all : HasAllWithin id c written n many
  unforged : AreUnforged id c written → HasNoLaterHead id (end_of id c (take many written)).place (end_of id c (take many written)).place rest

whole_none : (id : ℕ) (c : Cursor) (n : ℕ) → Whole id c [] n
whole_none id c n = record {
  many = 0;
  rest = [];
  few = omega arith;
  reading = record { fit = tt; whole = nil_from_length _ (omega (arith, length-take n (frames_bytes id c []))); none = no_frame_in_nothing id c };
  all = λ k le fits. le;
  unforged = λ are. none_in_nothing id c.place;
}

too_many : (id : ℕ) (c : Cursor) (f : Frame) (fs : List Frame) (n : ℕ) → n < length (frame_bytes id c f) → HasAllWithin id c (f ∷ fs) n 0
too_many id c f fs n short zero le fits = omega arith
too_many id c f fs n short (suc k) le fits = omega (arith, short, fits, length-append (frame_bytes id c f) (frames_bytes id (cursor_after id c f) (take k fs)))

-- a frame that is cut off
whole_cut : (id : ℕ) (c : Cursor) (f : Frame) (fs : List Frame) (n : ℕ) → IsFrame c f → n < length (frame_bytes id c f) → Whole id c (f ∷ fs) n
whole_cut id c f fs n is short = record {
  many = 0;
  rest = take n (frame_bytes id c f);
  few = omega arith;
  reading = record { fit = tt; whole = take-append-le n (frame_bytes id c f) (frames_bytes id (cursor_after id c f) fs) (omega (arith, short)); none = cut_frame id c f n is short };
  all = too_many id c f fs n short;
  unforged = λ are. cut_unforged id c.place n (frame_bytes id c f) are.0;
}

one_more : (id : ℕ) (c : Cursor) (f : Frame) (fs : List Frame) (n many : ℕ) → HasAllWithin id (cursor_after id c f) fs (n - length (frame_bytes id c f)) many → HasAllWithin id c (f ∷ fs) n (suc many)
one_more id c f fs n many all zero le fits = omega arith
one_more id c f fs n many all (suc k) le fits =
    let behind = all k (omega (arith, le)) (omega (arith, fits, length-append (frame_bytes id c f) (frames_bytes id (cursor_after id c f) (take k fs)))) in
    omega (arith, behind)

-- a frame that is whole, and those after it
whole_next : (id : ℕ) (c : Cursor) (f : Frame) (fs : List Frame) (n : ℕ) → IsFrame c f → length (frame_bytes id c f) ≤ n → Whole id (cursor_after id c f) fs (n - length (frame_bytes id c f)) → Whole id c (f ∷ fs) n
whole_next id c f fs n is long behind =
    let first : List ℕ = frame_bytes id c f in
    let next : Cursor = cursor_after id c f in
    let place : n ≡ length first + (n - length first) = omega (arith, long) in
    let taken : take n (frames_bytes id c (f ∷ fs)) ≡ first ++ take (n - length first) (frames_bytes id next fs) =
    ap (λ k. take k (first ++ frames_bytes id next fs)) place ∙ take-append-add first (frames_bytes id next fs) (n - length first) in
    record {
      many = suc behind.many;
      rest = behind.rest;
      few = omega (arith, behind.few);
      reading = record { fit = (is, behind.reading.fit); whole = taken ∙ ap (λ t. first ++ t) behind.reading.whole ∙ sym (more_frames id c f (take behind.many fs) behind.rest); none = behind.reading.none };
      all = one_more id c f fs n behind.many behind.all;
      unforged = λ are. behind.unforged are.1;
    }

whole : (id : ℕ) (c : Cursor) (written : List Frame) (n : ℕ) → AreFrames id c written → Whole id c written n
whole id c [] n fit = whole_none id c n
whole id c (f ∷ fs) n fit =
    elim (cases_lt n (length (frame_bytes id c f))) [
      | inl short ↦ whole_cut id c f fs n fit.0 short
      | inr long ↦ whole_next id c f fs n fit.0 long (whole id (cursor_after id c f) fs (n - length (frame_bytes id c f)) fit.1)
    ]

ended : (id : ℕ) (c : Cursor) (rest : List ℕ) → BeginsNoFrame id c rest → HasNoLaterHead id c.place c.place rest → IsCut id c rest
ended id c [] none no_later = inl refl
ended id c (b ∷ rest) none no_later = inr (record { some = omega arith; none = none; no_later = no_later })

pub what_is_whole : ReadsWhatIsWhole
what_is_whole id c written found rest n fit reading =
    let read = whole id c written n fit in
    let same = one_way id c _ (take read.many written) found read.rest rest read.reading reading in
    let many : length found ≡ read.many = ap length (sym same.0) ∙ length-take-le read.many written read.few in
    let found_is : found ≡ take (length found) written = sym same.0 ∙ ap (λ k. take k written) (sym many) in (
      found_is,
      (λ k le fits. let least = read.all k le fits in omega (arith, least, many)),
      λ are. ended id (end_of id c found) rest reading.none (subst (λ (fs : List Frame). HasNoLaterHead id (end_of id c fs).place (end_of id c fs).place rest) same.0 (subst (λ (t : List ℕ). HasNoLaterHead id (end_of id c (take read.many written)).place (end_of id c (take read.many written)).place t) same.1 (read.unforged are))),
    )

-- ---- other bytes behind

pub past_the_cut : ReadsPastTheCut
past_the_cut id c written n more fit =
    let read = whole id c written n fit in
    let joined : take n (frames_bytes id c written) ++ more ≡ frames_bytes id c (take read.many written) ++ (read.rest ++ more) =
    ap (λ t. t ++ more) read.reading.whole ∙ append_assoc (frames_bytes id c (take read.many written)) read.rest more in (
      read.many,
      read.rest,
      record { bytes = read.reading.whole; within = read.all },
      λ nothing. record {
        reading = record { fit = read.reading.fit; whole = joined; none = nothing.none };
        cut = ended id (end_of id c (take read.many written)) (read.rest ++ more) nothing.none nothing.no_later;
      },
    )
