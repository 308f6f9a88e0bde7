-- The records of a log, taken one after another, and the state that they leave.
use Rattle.std.proofs.Common.{◌≡◌, ◌++◌, ℕ, List, [], ◌∷◌, Option, refl, sym, ap, ◌∙◌, subst, append_assoc, append-nil}
use Rattle.std.specs.List.{AllByRecursion}
use Rattle.std.proofs.lemmas.List.Sums.{fold-append}
use Rattle.std.proofs.lemmas.Grind.{flat_map-append}
use Rattle.log_frames.specs.Endings.{EndsAt, FramesAreRead, LeavesSink, Takes as TakesFrames}
use Rattle.log_frames.specs.Frames.{Frame, end_of, payloads}
use Rattle.log_frames.specs.Headers.{start_of}
use Rattle.log_frames.specs.declared.cursor.Cursor.{Cursor}
use Rattle.log_frames.specs.declared.reading.Ending.{Ending}
use Rattle.log_frames.specs.declared.reading.Ending.TheVariants.{End}
use Rattle.log_frames.specs.declared.reading.FramesRead.{FramesRead}
use Rattle.log_records.specs.Changes.{Change, IsChange}
use Rattle.log_records.specs.Records.{record_bytes, records_bytes}
use Rattle.spec_lib.specs.Texts.{Text}
use Rattle.log_state.specs.LoggedStates.{AreSame, LoggedState, Takes, after_logged, initial_logged, state_after, state_in}
use Rattle.log_state.specs.Reading.{HasRead, LeaveSameState, LeaveState, ReadsLog, TakesPayload, TakesRecords, names_of}
use Rattle.log_state.specs.declared.reading.LogReading.{LogReading}

-- ---- lists of changes

all_last : (cs : List Change) (c : Change) → AllByRecursion IsChange cs → IsChange c → AllByRecursion IsChange (cs ++ c ∷ [])
all_last [] c all one = (one, tt)
all_last (b ∷ cs) c all one = (all.0, all_last cs c all.1 one)

records_last : (cs : List Change) (c : Change) → records_bytes (cs ++ c ∷ []) ≡ records_bytes cs ++ record_bytes c
records_last cs c = flat_map-append record_bytes cs (c ∷ []) ∙ ap (λ t. records_bytes cs ++ t) (append-nil (record_bytes c))

state_last : (names : List Text) (cs : List Change) (c : Change) → state_after names (cs ++ c ∷ []) ≡ after_logged names (state_after names cs) c
state_last names cs c = fold-append (after_logged names) (initial_logged names) cs (c ∷ [])

-- ---- one record

-- nothing was read, and there is the state of an empty log
pub nothing_read : (names : List Text) (S : LoggedState) → S ≡ initial_logged names → LeaveState names [] [] S
nothing_read names S is = record { changes = []; fit = tt; whole = refl; state = is }

-- bytes that are not looked at are left
pub none_taken : (names : List Text) (before bytes : List ℕ) (S : LoggedState) → LeaveState names before [] S → LeaveState names (before ++ bytes) bytes S
none_taken names before bytes S l = record {
  changes = l.changes;
  fit = l.fit;
  whole = ap (λ t. t ++ bytes) (l.whole ∙ append-nil (records_bytes l.changes));
  state = l.state;
}

-- a record was taken
pub one_taken : (names : List Text) (bytes rest after : List ℕ) (c : Change) (S T : LoggedState) → IsChange c → rest ≡ record_bytes c ++ after
    → T ≡ after_logged names S c
    → LeaveState names bytes rest S → LeaveState names bytes after T
one_taken names bytes rest after c S T is front next l = record {
  changes = l.changes ++ c ∷ [];
  fit = all_last l.changes c l.fit is;
  whole = l.whole ∙ ap (λ t. records_bytes l.changes ++ t) front ∙ sym (append_assoc (records_bytes l.changes) (record_bytes c) after)
      ∙ ap (λ t. t ++ after) (sym (records_last l.changes c));
  state = next ∙ ap (λ U. after_logged names U c) l.state ∙ sym (state_last names l.changes c);
}

-- the bytes that are left are read again with those after them
pub left_joined : (names : List Text) (before left payload rest : List ℕ) (S T : LoggedState)
    → ((b : List ℕ) → LeaveState names b [] S → LeaveState names (b ++ (left ++ payload)) rest T)
    → LeaveState names before left S → LeaveState names (before ++ payload) rest T
left_joined names before left payload rest S T more l =
    let records = records_bytes l.changes in
    let read : LeaveState names records [] S = record { changes = l.changes; fit = l.fit; whole = sym (append-nil records); state = l.state } in
    let all : before ++ payload ≡ records ++ (left ++ payload) = ap (λ t. t ++ payload) l.whole ∙ append_assoc records left payload in
    subst (λ (b : List ℕ). LeaveState names b rest T) (sym all) (more records read)

-- ---- records of a reading

pub begun : (r : LogReading) (bytes : List ℕ) → TakesRecords r bytes bytes r
begun r bytes = record { tenants = refl; more = λ before l. none_taken (names_of r) before bytes (state_in r.state) l }

pub one_more : (old mid new : LogReading) (bytes rest after : List ℕ) (c : Change) → IsChange c → rest ≡ record_bytes c ++ after → Takes mid.state c new.state
    → TakesRecords old bytes rest mid → TakesRecords old bytes after new
one_more old mid new bytes rest after c is front taken so_far = record {
  tenants = taken.tenants ∙ so_far.tenants;
  more = λ before l. one_taken (names_of old) (before ++ bytes) rest after c (state_in mid.state) (state_in new.state) is front
      (taken.state ∙ ap (λ ns. after_logged ns (state_in mid.state) c) so_far.tenants) (so_far.more before l);
}

-- ---- payloads

-- the payloads of frames were taken
pub all_taken : (frames : List Frame) (old new : LogReading) → TakesFrames TakesPayload old frames new
    → (names_of new ≡ names_of old) × ((before : List ℕ) → HasRead before old → HasRead (before ++ payloads frames) new)
all_taken [] old new same = (
  ap names_of same,
  λ before h. subst (λ (r : LogReading). HasRead (before ++ []) r) (sym same)
      (subst (λ (b : List ℕ). HasRead b old) (sym (append-nil before)) h),
)
all_taken (f ∷ frames) old new (mid, first, rest) =
    let later = all_taken frames mid new rest in (
      later.0 ∙ first.tenants,
      λ before h. subst (λ (b : List ℕ). HasRead b new) (append_assoc before f.payload (payloads frames))
          (later.1 (before ++ f.payload) (first.more before h)),
    )

-- the frames of a log were read to its end, and no part of a record is left
pub reads_log : (id : ℕ) (start : Cursor) (log : Option (List ℕ)) (old new : LogReading) (read : FramesRead)
    (refuses : LogReading → List ℕ → LogReading → Type 0)
    → start ≡ start_of id → read.ending ≡ End → new.left.items ≡ [] → FramesAreRead TakesPayload refuses old new id start log read → ReadsLog id log old new
reads_log id start log old new read refuses at_start ended none given =
    let f : FramesAreRead TakesPayload refuses old new id (start_of id) log read = subst
    (λ (s : Cursor). FramesAreRead TakesPayload refuses old new id s log read) at_start given in
    let same : new ≡ f.mid = subst (λ (e : Ending). LeavesSink refuses f.mid new id (end_of id (start_of id) f.frames) f.rest e) ended f.sink in
    let taken = all_taken f.frames old new (subst (λ (r : LogReading). TakesFrames TakesPayload old f.frames r) (sym same) f.taken) in
    record {
      frames = f.frames;
      fit = f.fit;
      rest = f.rest;
      begins = f.given;
      ends = subst (λ (e : Ending). EndsAt id (end_of id (start_of id) f.frames) f.rest e) ended f.ends;
      tenants = taken.0;
      more = taken.1;
      whole = none;
    }

-- ---- two logs

pub same_left : (r q : LogReading) → names_of q ≡ names_of r → r.left.items ≡ [] → q.left.items ≡ [] → AreSame (state_in r.state) (state_in q.state)
    → (bytes others : List ℕ) → HasRead bytes r → HasRead others q → LeaveSameState (names_of r) bytes others
same_left r q names none none_other same bytes others read read_other = record {
  state = state_in r.state;
  other = state_in q.state;
  left_by = subst (λ (left : List ℕ). LeaveState (names_of r) bytes left (state_in r.state)) none read;
  left_by_others = subst (λ (left : List ℕ). LeaveState (names_of r) others left (state_in q.state)) none_other
      (subst (λ (ns : List Text). LeaveState ns others q.left.items (state_in q.state)) names read_other);
  same = same;
}
