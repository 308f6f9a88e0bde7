-- Frames that are taken, one after the other.
use Rattle.std.proofs.Common.{◌≡◌, ◌<◌, ℕ, List, [], ◌∷◌, ◌++◌, ◌∙◌, ap, refl, sym, subst, arith, length, length-take, take, append-nil, append_assoc, Option, Some, None, IfSome}
use Rattle.std.specs.Prelude.{max}
use Rattle.std.proofs.lemmas.List.{length-append}
use Rattle.std.specs.Io.KnownBytes.{Consumes}
use Rattle.std.proofs.KnownBytes.{Consumes-trans}
use Rattle.log_frames.specs.Endings.{EndsAt, EndsFrames, Judges, Takes, largest_synced}
use Rattle.log_frames.specs.Frames.{AreFrames, Frame, IsFrame, cursor_after, end_of, frame_bytes, frames_bytes}
use Rattle.log_frames.specs.Reads.{HasNoFrame, HasRead}
use Rattle.log_frames.specs.declared.cursor.Cursor.{Cursor}
use Rattle.log_frames.specs.declared.reading.Ending.{Ending}
use Rattle.log_frames.specs.declared.reading.Ending.TheVariants as ending

-- ---- one frame more

pub one_taken : {S : Type 0} (takes : S → List ℕ → S → Type 0) (old mid new : S) (frames : List Frame) (f : Frame) → Takes takes old frames mid → takes mid f.payload new → Takes takes old (frames ++ f ∷ []) new
one_taken takes old mid new [] f before now = (new, subst (λ s. takes s f.payload new) before now, refl)
one_taken takes old mid new (first ∷ frames) f before now = (before.0, before.1, one_taken takes before.0 mid new frames f before.2 now)

pub one_end : (id : ℕ) (c : Cursor) (frames : List Frame) (f : Frame) → end_of id c (frames ++ f ∷ []) ≡ cursor_after id (end_of id c frames) f
one_end id c [] f = refl
one_end id c (first ∷ frames) f = one_end id (cursor_after id c first) frames f

pub one_fits : (id : ℕ) (c : Cursor) (frames : List Frame) (f : Frame) → AreFrames id c frames → IsFrame (end_of id c frames) f → AreFrames id c (frames ++ f ∷ [])
one_fits id c [] f before now = (now, tt)
one_fits id c (first ∷ frames) f before now = (before.0, one_fits id (cursor_after id c first) frames f before.1 now)

pub one_bytes : (id : ℕ) (c : Cursor) (frames : List Frame) (f : Frame) → frames_bytes id c frames ++ frame_bytes id (end_of id c frames) f ≡ frames_bytes id c (frames ++ f ∷ [])
one_bytes id c [] f = sym (append-nil (frame_bytes id c f))
one_bytes id c (first ∷ frames) f =
    append_assoc (frame_bytes id c first) (frames_bytes id (cursor_after id c first) frames) _ ∙ ap (λ t. frame_bytes id c first ++ t) (one_bytes id (cursor_after id c first) frames f)

pub one_given : (id : ℕ) (start : Cursor) (a b d : Option (List ℕ)) (frames : List Frame) (f : Frame) → Consumes a b (frames_bytes id start frames) → Consumes b d (frame_bytes id (end_of id start frames) f) → Consumes a d (frames_bytes id start (frames ++ f ∷ []))
one_given id start a b d frames f before now = subst (λ (t : List ℕ). Consumes a d t) (one_bytes id start frames f) (Consumes-trans a b d _ _ before now)

pub one_synced : (frames : List Frame) (f : Frame) → max (largest_synced frames) f.synced ≡ largest_synced (frames ++ f ∷ [])
one_synced [] f = omega arith
one_synced (first ∷ frames) f =
    let rest = one_synced frames f in
    omega (arith, rest)

-- ---- no frame more

some_read : (a b : Option (List ℕ)) (buffer : List ℕ) (count : ℕ) → HasRead a b buffer count → IfSome a (λ bytes. 0 < length bytes)
some_read None b buffer count read = tt
some_read (Some xs) None buffer count read = absurd read.read
some_read (Some xs) (Some ys) buffer count read = omega (arith, read.some, read.held, ap length read.read, length-append (take count buffer) ys, length-take count buffer)

pub judged : (id : ℕ) (c : Cursor) (a b : Option (List ℕ)) (buffer : List ℕ) (count : ℕ) (e : Ending) → HasRead a b buffer count → HasNoFrame id c a → Judges id c.place (take count buffer) b e → EndsAt id c a e
judged id c a b buffer count ending.End read none is = absurd is
judged id c None b buffer count ending.Torn read none is = tt
judged id c (Some xs) None buffer count ending.Torn read none is = absurd read.read
judged id c (Some xs) (Some ys) buffer count ending.Torn read none is =
    record { some = some_read (Some xs) (Some ys) buffer count read; none = none; no_later = λ h w. is h (rw (← read.read) w) }
judged id c None b buffer count (ending.Damaged h) read none is = tt
judged id c (Some xs) None buffer count (ending.Damaged h) read none is = absurd read.read
judged id c (Some xs) (Some ys) buffer count (ending.Damaged h) read none is = record { none = none; later = rw read.read is }
judged id c a b buffer count ending.Refused read none is = absurd is
judged id c a b buffer count (ending.Failed kind) read none is = tt
judged id c a b buffer count ending.Memory read none is = tt
judged id c a b buffer count ending.TooLong read none is = tt

pub judged_sink : {S : Type 0} (refuses : S → List ℕ → S → Type 0) (s : S) (id : ℕ) (c : Cursor) (a b : Option (List ℕ)) (buffer : List ℕ) (count : ℕ) (e : Ending) → HasRead a b buffer count → HasNoFrame id c a → Judges id c.place (take count buffer) b e → EndsFrames refuses s s id c a e
judged_sink refuses s id c a b buffer count ending.End read none is = absurd is
judged_sink refuses s id c a b buffer count ending.Torn read none is = (judged id c a b buffer count ending.Torn read none is, refl)
judged_sink refuses s id c a b buffer count (ending.Damaged h) read none is = (judged id c a b buffer count (ending.Damaged h) read none is, refl)
judged_sink refuses s id c a b buffer count ending.Refused read none is = absurd is
judged_sink refuses s id c a b buffer count (ending.Failed kind) read none is = (tt, refl)
judged_sink refuses s id c a b buffer count ending.Memory read none is = (tt, refl)
judged_sink refuses s id c a b buffer count ending.TooLong read none is = (tt, refl)

pub still_taken : {S : Type 0} (takes : S → List ℕ → S → Type 0) (old mid new : S) (frames : List Frame) → Takes takes old frames mid → new ≡ mid → Takes takes old frames new
still_taken takes old mid new frames taken same = subst (λ s. Takes takes old frames s) (sym same) taken
