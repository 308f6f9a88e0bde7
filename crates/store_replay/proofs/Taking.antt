-- What a replay has taken.
use Rattle.std.proofs.Common.{◌≡◌, ◌-◌, ℕ, true, List, [], ◌∷◌, ◌++◌, ◌∙◌, ap, refl, sym, subst, append_assoc, append-nil, arith, inl, inr, length, take, Option}
use Rattle.std.proofs.lemmas.List.{length-append, take_at}
use Rattle.durable_log.specs.Views.{DeviceView}
use Rattle.framed_disk.proofs.Framing.{payloads-snoc}
use Rattle.log_frames.proofs.Taking.{one_end, one_fits, one_given}
use Rattle.log_frames.specs.Frames.{Frame, end_of, frame_bytes, payloads}
use Rattle.log_frames.specs.Headers.{start_of}
use Rattle.log_frames.specs.declared.cursor.Cursor.{Cursor}
use Rattle.log_frames.specs.declared.reading.Ending.{Ending}
use Rattle.std.specs.Io.KnownBytes.{Consumes}
use Rattle.std.proofs.KnownBytes.{Consumes-nil}
use Rattle.log_frames.specs.Frames.{IsFrame, cursor_after}
use Rattle.store_model.specs.Histories.{Step}
use Rattle.store_replay.specs.Replays.{BeginsWith, Continues, EndsWithReplayOf, IsReadAs, IsReplayOf, ReplayView, ReplaysFrame, ReplaysNoFrame, replayed_before, total}

-- ---- one payload

-- the device has the records, which are the first of these bytes, and the rest is left over
pub continues : (old new : DeviceView Step) (records rest bytes : List ℕ) → new.written ≡ old.written ++ records → new.durable ≡ new.written → records ++ rest ≡ bytes → Continues old new bytes rest
continues old new records rest bytes written durable whole = record {
  more = ap (λ t. t ++ rest) written ∙ append_assoc old.written records rest ∙ ap (λ t. old.written ++ t) whole;
  durable = durable;
}

-- the bytes that were left over, and a payload, were taken
pub takes : (old new : DeviceView Step) (left payload more : List ℕ) → Continues old new (left ++ payload) more → new.written ++ more ≡ (old.written ++ left) ++ payload
takes old new left payload more c = c.more ∙ sym (append_assoc old.written left payload)

-- ---- frames

-- nothing was read yet
pub start : (id : ℕ) (c : Cursor) (frames : List Frame) (v : ReplayView) (log : Option (List ℕ)) → frames ≡ [] → c ≡ start_of id → IsReplayOf id (total v) frames c v × BeginsWith id log log frames
start id c frames v log none at_start =
    let first : IsReplayOf id (total v) [] c v = record { are = tt; at_end = at_start; taken = λ _. sym (append-nil (total v)) } in
    (subst (λ (fs : List Frame). IsReplayOf id (total v) fs c v) (sym none) first, subst (λ (fs : List Frame). BeginsWith id log log fs) (sym none) (Consumes-nil log))

-- one frame more was replayed
pub one_frame : (id : ℕ) (c next : Cursor) (log rest : Option (List ℕ)) (taken : List ℕ) (before after : List Frame) (old new : ReplayView)
    → IsReplayOf id taken before c old → ReplaysFrame id c next log rest before after old new → IsReplayOf id taken after next new
one_frame id c next log rest taken before after old new so_far r =
    let start = start_of id in
    let fits : IsFrame (end_of id start before) r.frame = subst (λ (at : Cursor). IsFrame at r.frame) so_far.at_end r.fits in
    let all : IsReplayOf id taken (before ++ r.frame ∷ []) next new = record {
      are = one_fits id start before r.frame so_far.are fits;
      at_end = r.at_end ∙ ap (λ (at : Cursor). cursor_after id at r.frame) so_far.at_end ∙ sym (one_end id start before r.frame);
      taken = λ _. r.taken.total_after ∙ ap (λ t. t ++ r.frame.payload) (so_far.taken r.taken.went_on) ∙ append_assoc taken (payloads before) r.frame.payload ∙ ap (λ t. taken ++ t) (sym (payloads-snoc before r.frame));
    } in
    subst (λ (fs : List Frame). IsReplayOf id taken fs next new) (sym r.added) all

-- the log that was read begins with one frame more
pub begins_with : (id : ℕ) (c next : Cursor) (log mid rest : Option (List ℕ)) (taken : List ℕ) (before after : List Frame) (old new : ReplayView)
    → IsReplayOf id taken before c old → BeginsWith id log mid before → ReplaysFrame id c next mid rest before after old new → BeginsWith id log rest after
begins_with id c next log mid rest taken before after old new so_far given r =
    let start = start_of id in
    let more : Consumes mid rest (frame_bytes id (end_of id start before) r.frame) = subst (λ (at : Cursor). Consumes mid rest (frame_bytes id at r.frame)) so_far.at_end r.given in
    subst (λ (fs : List Frame). BeginsWith id log rest fs) (sym r.added) (one_given id start log mid rest before r.frame given more)

-- no further frame was replayed
pub no_more : (id : ℕ) (c : Cursor) (log : Option (List ℕ)) (e : Ending) (taken : List ℕ) (before after : List Frame) (old new : ReplayView)
    → IsReplayOf id taken before c old → ReplaysNoFrame id c log e before after old new → IsReplayOf id taken after c new
no_more id c log e taken before after old new so_far ended =
    let same : IsReplayOf id taken before c new = elim ended.replay [
      | inl e ↦ subst (λ (v : ReplayView). IsReplayOf id taken before c v) (sym e) so_far
      | inr stopped ↦ record { are = so_far.are; at_end = so_far.at_end; taken = λ g. cc }
    ] in
    subst (λ (fs : List Frame). IsReplayOf id taken fs c new) (sym ended.frames) same

-- the log begins with the same frames, and ends there
pub read_as : (id : ℕ) (c : Cursor) (log rest : Option (List ℕ)) (e : Ending) (before after : List Frame) (old new : ReplayView)
    → BeginsWith id log rest before → ReplaysNoFrame id c rest e before after old new → IsReadAs id log after c e
read_as id c log rest e before after old new given ended = record {
  rest = rest;
  begins = subst (λ (fs : List Frame). BeginsWith id log rest fs) (sym ended.frames) given;
  ends = ended.ends;
}

-- if nothing is left over, the replayed bytes end with the payloads
pub whole : (id : ℕ) (frames : List Frame) (c : Cursor) (v : ReplayView) → EndsWithReplayOf id frames c v → v.goes_on ≡ true → v.left ≡ [] → v.replayed ≡ replayed_before v frames ++ payloads frames
whole id frames c v (before, of) g none =
    let all : v.replayed ≡ before ++ payloads frames = sym (append-nil v.replayed) ∙ ap (λ t. v.replayed ++ t) (sym none) ∙ of.taken g in
    let long : length v.replayed - length (payloads frames) ≡ length before = omega (arith, ap length all, length-append before (payloads frames)) in
    let front : replayed_before v frames ≡ before = ap (λ n. take n v.replayed) long ∙ ap (take (length before)) all ∙ take_at before (payloads frames) (length before) refl in
    all ∙ ap (λ t. t ++ payloads frames) (sym front)
