-- What a reading took, by the laws.
use Rattle.std.proofs.Common.{◌≡◌, ℕ, List, sym, subst, length, Option, Some, None, IfSome, inl, inr}
use Rattle.std.specs.Io.KnownBytes.{Consumes}
use Rattle.log_frames.specs.Endings.{EndsAt, FramesAreRead, LeavesSink, Takes}
use Rattle.log_frames.specs.Frames.{AreFrames, Frame, end_of, frames_bytes}
use Rattle.log_frames.specs.Laws.{IsCut, IsFinished, IsReading, MayBeCut, ReadsExactly, Recovers}
use Rattle.log_frames.specs.declared.cursor.Cursor.{Cursor}
use Rattle.log_frames.specs.declared.reading.Ending.{Ending}
use Rattle.log_frames.specs.declared.reading.Ending.TheVariants as ending
use Rattle.log_frames.specs.declared.reading.FramesRead.{FramesRead}
use Rattle.log_frames.specs.Reads.{BeginsNoFrame}
use Rattle.log_frames.proofs.Cuts.{no_frame_in_nothing, none_in_nothing, what_is_whole}
use Rattle.log_frames.proofs.Taking.{still_taken}

-- no frame begins where a finished reading ended, and the sink is as the frames left it
rest_none : (id : ℕ) (c : Cursor) (rest : List ℕ) (e : Ending) → IsFinished e → EndsAt id c (Some rest) e → BeginsNoFrame id c rest
rest_none id c rest ending.End done at = subst (BeginsNoFrame id c) (sym at) (no_frame_in_nothing id c)
rest_none id c rest ending.Torn done at = at.none
rest_none id c rest (ending.Damaged h) done at = at.none
rest_none id c rest ending.Refused done at = absurd done
rest_none id c rest (ending.Failed kind) done at = absurd done
rest_none id c rest ending.Memory done at = absurd done
rest_none id c rest ending.TooLong done at = absurd done

sink_same : {S : Type 0} (refuses : S → List ℕ → S → Type 0) (mid new : S) (id : ℕ) (c : Cursor) (rest : Option (List ℕ)) (e : Ending) → IsFinished e → LeavesSink refuses mid new id c rest e → new ≡ mid
sink_same refuses mid new id c rest ending.End done left = left
sink_same refuses mid new id c rest ending.Torn done left = left
sink_same refuses mid new id c rest (ending.Damaged h) done left = left
sink_same refuses mid new id c rest ending.Refused done left = absurd done
sink_same refuses mid new id c rest (ending.Failed kind) done left = absurd done
sink_same refuses mid new id c rest ending.Memory done left = absurd done
sink_same refuses mid new id c rest ending.TooLong done left = absurd done

exact_rest : {S : Type 0} (takes refuses : S → List ℕ → S → Type 0) (old mid new : S) (id : ℕ) (c : Cursor) (bytes : List ℕ) (frames : List Frame) (rest : Option (List ℕ)) (read : FramesRead) → AreFrames id c frames → Takes takes old frames mid → Consumes (Some bytes) rest (frames_bytes id c frames)
    → read.cursor ≡ end_of id c frames → EndsAt id (end_of id c frames) rest read.ending → LeavesSink refuses mid new id (end_of id c frames) rest read.ending → ReadsExactly takes old new id c bytes read
exact_rest takes refuses old mid new id c bytes frames None read fit taken given cursor at left = λ done. absurd given
exact_rest takes refuses old mid new id c bytes frames (Some rest) read fit taken given cursor at left = λ done. (
  frames,
  rest,
  record { fit = fit; whole = given; none = rest_none id (end_of id c frames) rest read.ending done at },
  still_taken takes old mid new frames taken (sink_same refuses mid new id (end_of id c frames) (Some rest) read.ending done left),
  cursor,
  at,
)

pub exact : {S : Type 0} (takes refuses : S → List ℕ → S → Type 0) (old new : S) (id : ℕ) (c : Cursor) (log : Option (List ℕ)) (read : FramesRead) → FramesAreRead takes refuses old new id c log read → IfSome log (λ bytes. ReadsExactly takes old new id c bytes read)
exact takes refuses old new id c None read r = tt
exact takes refuses old new id c (Some bytes) read r = exact_rest takes refuses old r.mid new id c bytes r.frames r.rest read r.fit r.taken r.given r.cursor r.ends r.sink

-- a log that was cut off is not damaged
not_damaged : (id : ℕ) (c : Cursor) (rest : List ℕ) (e : Ending) → IsFinished e → EndsAt id c (Some rest) e → IsCut id c rest → MayBeCut e
not_damaged id c rest ending.End done at cut = tt
not_damaged id c rest ending.Torn done at cut = tt
not_damaged id c rest (ending.Damaged h) done at (inl none) = none_in_nothing id c.place h (rw none at at.later)
not_damaged id c rest (ending.Damaged h) done at (inr torn) = torn.no_later h at.later
not_damaged id c rest ending.Refused done at cut = absurd done
not_damaged id c rest (ending.Failed kind) done at cut = absurd done
not_damaged id c rest ending.Memory done at cut = absurd done
not_damaged id c rest ending.TooLong done at cut = absurd done

recovered : {S : Type 0} (takes : S → List ℕ → S → Type 0) (old new : S) (id : ℕ) (c : Cursor) (bytes : List ℕ) (read : FramesRead) → ReadsExactly takes old new id c bytes read → Recovers takes old new id c bytes read.ending
recovered takes old new id c bytes read all = λ written n fit is done.
    let r = all done in
    let found = what_is_whole id c written r.0 r.1 n fit (subst (λ (t : List ℕ). IsReading id c t r.0 r.1) is r.2) in
    (length r.0, subst (λ (fs : List Frame). Takes takes old fs new) found.0 r.3, found.1, λ are. not_damaged id (end_of id c r.0) r.1 read.ending done r.5 (found.2 are))

pub recovers : {S : Type 0} (takes refuses : S → List ℕ → S → Type 0) (old new : S) (id : ℕ) (c : Cursor) (log : Option (List ℕ)) (read : FramesRead) → FramesAreRead takes refuses old new id c log read → IfSome log (λ bytes. Recovers takes old new id c bytes read.ending)
recovers takes refuses old new id c None read r = tt
recovers takes refuses old new id c (Some bytes) read r = recovered takes old new id c bytes read (exact takes refuses old new id c (Some bytes) read r)
