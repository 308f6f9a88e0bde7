-- The steps of a row, and their event.
use Rattle.std.proofs.Common.{◌≡◌, ◌≢◌, ◌⊎◌, ◌≤◌, ◌++◌, ◌∷◌, [], ℕ, Bool, true, false, List, length, map, Option, Some, None, Result, Ok, Err, refl, sym, ap, ◌∙◌, subst, inl, inr, append_assoc, arith}
use Rattle.std.specs.List.{AllByRecursion}
use Rattle.std.specs.Prelude.{nat_le}
use Rattle.std.proofs.lemmas.Bool.{and_parts, leb-true}
use Rattle.std.proofs.lemmas.List.{append-nil}
use Rattle.std.proofs.lemmas.Option.{same_Some}
use Rattle.blob_digest.specs.NameMachine.{is_repo_name}
use Rattle.blob_digest.specs.declared.range.ByteRange.{ByteRange}
use Rattle.blob_digest.specs.declared.refusal.Refusal.{Refusal}
use Rattle.blob_digest.specs.declared.refusal.Refusal.TheVariants.{Memory}
use Rattle.spec_lib.specs.Texts.{Text}
use Rattle.store_model.specs.Catalog.{Catalog, HandRecord}
use Rattle.store_model.specs.Histories.{SweepCall, FinishCall, CommandCall, PutBackCall, Step, TakeCall}
use Rattle.store_model.specs.Runs as runs
use Rattle.store_model.specs.Runs.{CommandEvent, Event, IsCommandCase, HasShortName, IsRun, repo_of}
use Rattle.store_model.specs.Sweep.{IsSweep}
use Rattle.store_model.specs.WholeCommands.{CorrespondsTo, CheckedOutSessions, IsContentionFree, IsUpload, CheckedOut as Out, length_reply}
use Rattle.store_api.specs.Answers.{Answer, Bytes, Received, Refused, Stored, result_answer}
use Rattle.store_api.specs.CommandAnswers.{command_answer}
use Rattle.store_api.specs.Commands.{Abandon, Append, Calls, Close, Command, Delete, DeleteManifest, GetManifest, Lease, Mount, PutManifest, RemoveRepo, StoreRequest, Start, Status, Sweeps, SweepsInParts, Verifies, command_of_verb as command_by, repo_in}
use Rattle.script_player.specs.RowCommands.{command_of}
use Rattle.script_player.specs.Counts.{chunk_size}
use Rattle.store_api.specs.LeaseViews.{LeaseView}
use Rattle.script_player.specs.Leases.{Leases}
use Rattle.script_player.specs.Plays.{LendsIfNameFree, Plays, RowStep, State, VerifiesLease, named_lease}
use Rattle.store_api.specs.Steps.{StepOf}
use Rattle.script_player.specs.Rows.{RowView, session_number}
use Rattle.store_api.specs.declared.verb.Verb.{Verb}
use Rattle.store_api.specs.declared.verb.Verb.TheVariants as verb
use Rattle.script_player.proofs.Spellings.{names_repo, repo_spelled, spelled}
use Rattle.locked_book.specs.History.{filled_hand}
use Rattle.blob_store.specs.RowOrders.{IsContentionFreeAnswer, RequestLeads}
use Rattle.blob_store.specs.StoreBackends.{AreRequestSteps, AreUploadSteps, Work, WorkActs}

-- ---- the steps of a request

-- the check-out of a session
pub record Taking : Type 0 where
  pub repo : Text
  pub number : ℕ
  pub range : Option ByteRange
  pub len : ℕ
  pub hand : HandRecord

abbrev pub hand_of_take : Taking → Out
hand_of_take t = record { hand = t.hand; repo = t.repo; range = t.range }

abbrev pub take_of : Taking → Step
take_of t = TakeCall t.repo t.number t.range t.len (Ok t.hand)

-- a step is this event, for any checked-out sessions
abbrev pub IsWhole : Step → Event → Type 0
IsWhole d e = (hands : CheckedOutSessions) → CorrespondsTo hands d (e ∷ []) hands

-- the step that checks a session in, or finishes it, with a chunk, and the append or close that it is
pub record IsReturn (t : Taking) (d : Step) (e : Event) : Type 0 where
  pub bytes : Text
  pub reply : Result ℕ Refusal
  pub fills : length bytes ≡ t.len
  pub is : ((d ≡ PutBackCall (filled_hand t.hand bytes) reply) × (e ≡ CommandEvent (Append t.repo t.number t.range bytes) (length_reply reply)))
      ⊎ ((digest : Text) × (d ≡ FinishCall (filled_hand t.hand bytes) digest reply) × (e ≡ CommandEvent (Close t.repo t.number digest t.range bytes) (length_reply reply)))

-- steps are none, an event by themselves, or a check-out with the step by which its hand returns; and this holds of the events
abbrev pub ComeTo : List Step → (List Event → Type 0) → Type 0
ComeTo steps P =
    ((steps ≡ []) × P [])
    ⊎ ((d : Step) × (e : Event) × (steps ≡ d ∷ []) × IsWhole d e × P (e ∷ []))
    ⊎ ((t : Taking) × (d : Step) × (e : Event) × (steps ≡ take_of t ∷ d ∷ []) × IsReturn t d e × P (e ∷ []))

come_to : (steps : List Step) (P Q : List Event → Type 0) → ((es : List Event) → P es → Q es) → ComeTo steps P → ComeTo steps Q
come_to steps P Q f comes = elim comes [
  | inl x ↦ inl (x.0, f [] x.1)
  | inr (inl x) ↦ inr (inl (x.0, x.1, x.2, x.3, f (x.1 ∷ []) x.4))
  | inr (inr x) ↦ inr (inr (x.0, x.1, x.2, x.3, x.4, f (x.2 ∷ []) x.5))
]

-- an event is no refusal that a hand can cause
abbrev pub IsMildEvent : Event → Type 0
IsMildEvent (CommandEvent command (Err e)) = IsContentionFree e
IsMildEvent event = Unit {0}

-- the bytes of an event's chunk, and of a request's
abbrev pub chunk_in : Event → ℕ
chunk_in (CommandEvent command reply) = chunk_size command
chunk_in (runs.SweepEvent swept) = 0
chunk_in (runs.SweepPartEvent swept) = 0

abbrev request_chunk : StoreRequest → ℕ
request_chunk (Calls command) = chunk_size command
request_chunk request = 0

-- the events have short names and no more bytes than the request, fail for the request's reasons,
-- and a run of them is the request with this reply
record IsRequestOf (request : StoreRequest) (answer : Answer) (events : List Event) : Type 0 where
  named : AllByRecursion HasShortName events
  small : AllByRecursion (λ e. chunk_in e ≤ request_chunk request) events
  mild : IsContentionFreeAnswer answer → AllByRecursion IsMildEvent events
  leads : (C C' : Catalog) → IsRun C events C' → RequestLeads C request answer C'

module _ (command : Command) (answer : Answer) (short : length (repo_of command) ≤ 255) where
  mild : (reply : Result runs.Answer Refusal) → answer ≡ result_answer (command_answer command) reply → IsContentionFreeAnswer answer → IsMildEvent (CommandEvent command reply)
  mild (Ok a) is calm = tt
  mild (Err e) is calm = subst (λ a. IsContentionFreeAnswer a) is calm

  called : (reply : Result runs.Answer Refusal) → answer ≡ result_answer (command_answer command) reply → IsRequestOf (Calls command) answer (CommandEvent command reply ∷ [])
  called reply is = record {
    named = (short, tt);
    small = (omega arith, tt);
    mild = λ calm. (mild reply is calm, tt);
    leads = λ C C' run. (reply, subst (λ (X : Catalog). IsCommandCase C command reply X) (sym run.2) run.1, is);
  }

  performed : (steps : List Step) → (reply : Result runs.Answer Refusal) × (steps ≡ CommandCall command reply ∷ []) × (answer ≡ result_answer (command_answer command) reply) → ComeTo steps (IsRequestOf (Calls command) answer)
  performed steps x = inr (inl (CommandCall command x.0, CommandEvent command x.0, x.1, (λ hands. (refl, refl)), called x.0 x.2))

  module _ (repo : Text) (number : ℕ) (range : Option ByteRange) (bytes : Text) (upload : IsUpload repo number range bytes command) (not_memory : answer ≢ Refused Memory) (last : HandRecord → Result ℕ Refusal → Step) (f : ℕ → Answer)
      (told : (reply : Result ℕ Refusal) → result_answer f reply ≡ result_answer (command_answer command) (length_reply reply))
      (returns : (hand : HandRecord) (reply : Result ℕ Refusal) → IsReturn (record { repo = repo; number = number; range = range; len = length bytes; hand = hand }) (last (filled_hand hand bytes) reply) (CommandEvent command (length_reply reply))) where
    uploaded : (steps : List Step) → AreUploadSteps repo number range bytes last f answer steps → ComeTo steps (IsRequestOf (Calls command) answer)
    uploaded steps are = elim are [
      | inl x ↦ inr (inl (TakeCall repo number range (length bytes) (Err x.0), CommandEvent command (Err x.0), x.1, (λ hands. ((command, bytes, refl, upload, refl), refl)), called (Err x.0) x.2))
      | inr (inl x) ↦ inr (inr (record { repo = repo; number = number; range = range; len = length bytes; hand = x.0 }, last (filled_hand x.0 bytes) x.1, CommandEvent command (length_reply x.1), x.2, returns x.0 x.1, called (length_reply x.1) (x.3 ∙ told x.1)))
      | inr (inr x) ↦ absurd (not_memory x.3)
    ]

received : (repo : Text) (number : ℕ) (range : Option ByteRange) (bytes : Text) (reply : Result ℕ Refusal) → result_answer Received reply ≡ result_answer (command_answer (Append repo number range bytes)) (length_reply reply)
received repo number range bytes (Ok n) = refl
received repo number range bytes (Err e) = refl

stored : (repo : Text) (number : ℕ) (digest : Text) (range : Option ByteRange) (bytes : Text) (reply : Result ℕ Refusal) → result_answer Stored reply ≡ result_answer (command_answer (Close repo number digest range bytes)) (length_reply reply)
stored repo number digest range bytes (Ok n) = refl
stored repo number digest range bytes (Err e) = refl

-- a request of a row: the repository of its command has a short name, and a sweep is at once
abbrev IsShort : StoreRequest → Type 0
IsShort (Calls command) = length (repo_of command) ≤ 255
IsShort SweepsInParts = ⊥
IsShort request = Unit {0}

request_comes : (request : StoreRequest) (answer : Answer) (steps : List Step) → IsShort request → answer ≢ Refused Memory → AreRequestSteps request answer steps → ComeTo steps (IsRequestOf request answer)
request_comes (Calls (Start repo)) answer steps short fine are = performed (Start repo) answer short steps are
request_comes (Calls (Status repo number)) answer steps short fine are = performed (Status repo number) answer short steps are
request_comes (Calls (Append repo number range bytes)) answer steps short fine are =
    uploaded (Append repo number range bytes) answer short repo number range bytes (inl refl) fine PutBackCall Received (received repo number range bytes)
    (λ hand reply. record { bytes = bytes; reply = reply; fills = refl; is = inl (refl, refl) }) steps are
request_comes (Calls (Close repo number digest range bytes)) answer steps short fine are =
    uploaded (Close repo number digest range bytes) answer short repo number range bytes (inr (digest, refl)) fine (λ hand reply. FinishCall hand digest reply) Stored (stored repo number digest range bytes)
    (λ hand reply. record { bytes = bytes; reply = reply; fills = refl; is = inr (digest, refl, refl) }) steps are
request_comes (Calls (Abandon repo number)) answer steps short fine are = performed (Abandon repo number) answer short steps are
request_comes (Calls (Mount repo digest from)) answer steps short fine are = performed (Mount repo digest from) answer short steps are
request_comes (Calls (Delete repo digest)) answer steps short fine are = performed (Delete repo digest) answer short steps are
request_comes (Calls (PutManifest repo bytes)) answer steps short fine are = performed (PutManifest repo bytes) answer short steps are
request_comes (Calls (GetManifest repo digest)) answer steps short fine are = performed (GetManifest repo digest) answer short steps are
request_comes (Calls (DeleteManifest repo digest)) answer steps short fine are = performed (DeleteManifest repo digest) answer short steps are
request_comes (Calls (RemoveRepo repo)) answer steps short fine are = performed (RemoveRepo repo) answer short steps are
request_comes (Calls (Lease repo digest)) answer steps short fine are = performed (Lease repo digest) answer short steps are
request_comes (Verifies size) answer steps short fine are = inl (are.1, record { named = tt; small = tt; mild = λ calm. tt; leads = λ C C' run. (are.0, run) })
request_comes Sweeps answer steps short fine are =
    inr (inl (
      SweepCall are.0,
      runs.SweepEvent are.0,
      are.1,
      (λ hands. (refl, refl)),
      record {
        named = (tt, tt);
        small = (omega arith, tt);
        mild = λ calm. (tt, tt);
        leads = λ C C' run. (are.0, subst (λ (X : Catalog). IsSweep C are.0 X) (sym run.2) run.1, are.2);
      },
    ))
request_comes SweepsInParts answer steps short fine are = absurd short

-- ---- the steps of a row

short_name : (row : RowView) (command : Command) → command_of row ≡ Ok (Some command) → length (repo_of command) ≤ 255
short_name row command spells =
    let s = spelled row (Some command) spells in
    let named : repo_in row.repo ≡ Ok s.repo = rw (names_repo row command spells) at s.named in
    subst (λ (t : Text). length t ≤ 255) (sym (repo_spelled row command spells)) (by (is_repo_name row.repo) refl s.repo named)
  where
    by : (b : Bool) → is_repo_name row.repo ≡ b → (repo : Text) → repo_in row.repo ≡ Ok repo → length row.repo ≤ 255
    by true is repo named = leb-true (length row.repo) 255 (and_parts _ (nat_le (length row.repo) 255) is).1
    by false is repo named = absurd (let h = rw is at named in cc)

-- the chunk of a command is no longer than the body of its row
module _ (row : RowView) (command : Command) where
  as_long : (spelled : Command) → chunk_size spelled ≤ length row.body → Some spelled ≡ Some command → chunk_size command ≤ length row.body
  as_long spelled le is = subst (λ (c : Command). chunk_size c ≤ length row.body) (same_Some spelled command is) le

  chunk_fits : (v : Verb) (repo : Text) (from : Option Text) (digest : Text) (range : Option ByteRange) (number : Option ℕ) → command_by v repo from digest range number row.body ≡ Some command → chunk_size command ≤ length row.body
  chunk_fits verb.Start repo from digest range number is = as_long (Start repo) (omega arith) is
  chunk_fits verb.Status repo from digest range (Some n) is = as_long (Status repo n) (omega arith) is
  chunk_fits verb.Append repo from digest range (Some n) is = as_long (Append repo n range row.body) (omega arith) is
  chunk_fits verb.Close repo from digest range (Some n) is = as_long (Close repo n digest range row.body) (omega arith) is
  chunk_fits verb.Abandon repo from digest range (Some n) is = as_long (Abandon repo n) (omega arith) is
  chunk_fits verb.Mount repo from digest range number is = as_long (Mount repo digest from) (omega arith) is
  chunk_fits verb.Delete repo from digest range number is = as_long (Delete repo digest) (omega arith) is
  chunk_fits verb.PutManifest repo from digest range number is = as_long (PutManifest repo row.body) (omega arith) is
  chunk_fits verb.GetManifest repo from digest range number is = as_long (GetManifest repo digest) (omega arith) is
  chunk_fits verb.DeleteManifest repo from digest range number is = as_long (DeleteManifest repo digest) (omega arith) is
  chunk_fits verb.RemoveRepo repo from digest range number is = as_long (RemoveRepo repo) (omega arith) is
  chunk_fits verb.Lease repo from digest range number is = as_long (Lease repo digest) (omega arith) is
  chunk_fits _ repo from digest range number is = absurd (let h = is in cc)

  short_chunk : command_of row ≡ Ok (Some command) → chunk_size command ≤ length row.body
  short_chunk spells = let s = spelled row (Some command) spells in chunk_fits row.verb s.repo s.from s.digest s.range (session_number row.key) s.is

-- a row and its reply, which is not `Memory`, are these events: a run of them is the row
pub record IsRowOf (held : Leases) (row : RowView) (answer : Answer) (events : List Event) (left : Leases) : Type 0 where
  pub step : (C C' : Catalog) → IsRun C events C' → RowStep RequestLeads (C, held) row answer (C', left)
  pub fine : answer ≢ Refused Memory
  pub named : AllByRecursion HasShortName events
  pub small : AllByRecursion (λ e. chunk_in e ≤ length row.body) events
  pub mild : IsContentionFreeAnswer answer → AllByRecursion IsMildEvent events

no_longer : (a b : ℕ) (events : List Event) → a ≤ b → AllByRecursion (λ e. chunk_in e ≤ a) events → AllByRecursion (λ e. chunk_in e ≤ b) events
no_longer a b [] le small = tt
no_longer a b (e ∷ events) le small = (let here = small.0 in omega (arith, here, le), no_longer a b events le small.1)

-- the steps of a row
abbrev pub RowComes : State Work → RowView → Answer → State Work → Type 0
RowComes old row answer new = (steps : List Step) × (new.0.steps ≡ old.0.steps ++ steps) × ComeTo steps (λ es. IsRowOf old.1 row answer es new.1)

module _ (old new : State Work) (row : RowView) (answer : Answer) (fine : answer ≢ Refused Memory) where
  -- a row without a request
  asks_nothing : new.0 ≡ old.0 → ((C C' : Catalog) → C' ≡ C → RowStep RequestLeads (C, old.1) row answer (C', new.1)) → RowComes old row answer new
  asks_nothing same step = ([], ap (λ (x : Work). x.steps) same ∙ sym (append-nil old.0.steps), inl (refl, record { step = step; fine = fine; named = tt; small = tt; mild = λ calm. tt }))

  -- a row with this request
  asks : (request : StoreRequest) (given : Answer) → IsShort request → request_chunk request ≤ length row.body → given ≢ Refused Memory → (IsContentionFreeAnswer answer → IsContentionFreeAnswer given) → WorkActs old.0 request given new.0 → ((C C' : Catalog) → RequestLeads C request given C' → RowStep RequestLeads (C, old.1) row answer (C', new.1)) → RowComes old row answer new
  asks request given short small fine_given calm acts step =
      let made = acts.steps in (
        made.0,
        made.2,
        come_to made.0 (IsRequestOf request given) (λ es. IsRowOf old.1 row answer es new.1) (λ es asked. record {
          step = λ C C' run. step C C' (asked.leads C C' run);
          fine = fine;
          named = asked.named;
          small = no_longer (request_chunk request) (length row.body) es small asked.small;
          mild = λ c. asked.mild (calm c);
        })
            (request_comes request given made.0 short fine_given made.1),
      )

  store_comes : (o : Result (Option Command) Refusal) → command_of row ≡ o → StepOf WorkActs o old.0 answer new.0 → new.1 ≡ old.1 → RowComes old row answer new
  store_comes (Ok (Some command)) is h same = asks (Calls command) answer (short_name row command is) (short_chunk row command is) fine (λ c. c) h.1 (λ C C' leads. inl (subst (λ o. StepOf RequestLeads o C answer C') (sym is) (h.0, leads), same))
  store_comes (Ok None) is h same = absurd h
  store_comes (Err refusal) is h same = asks_nothing h.1 (λ C C' stays. inl (subst (λ o. StepOf RequestLeads o C answer C') (sym is) (h.0, stays), same))

  lease_comes : (o : Option LeaseView) → named_lease old.1 row ≡ o → row.verb ≡ verb.Lease → (spells : command_of row ≡ Ok (Some (Lease row.repo row.digest))) → LendsIfNameFree WorkActs o old row answer new → RowComes old row answer new
  lease_comes (Some lease) is is_verb spells h =
      asks_nothing (ap (λ (x : State Work). x.0) h.1)
      (λ C C' stays. inr (inl (is_verb, spells, subst (λ o. LendsIfNameFree RequestLeads o (C, old.1) row answer (C', new.1)) (sym is) (h.0, λ i. (stays i, (h.1 i).1)))))
  lease_comes None is is_verb spells h = elim h [
    | inl l ↦ asks (Calls (Lease row.repo row.digest)) (Bytes l.0) (short_name row _ spells) (omega arith) (λ e. absurd (let k = e in cc)) (λ c. tt) l.1
        (λ C C' leads. inr (inl (is_verb, spells, subst (λ o. LendsIfNameFree RequestLeads o (C, old.1) row answer (C', new.1)) (sym is) (inl (l.0, leads, l.2, l.3)))))
    | inr r ↦ asks (Calls (Lease row.repo row.digest)) (Refused r.0) (short_name row _ spells) (omega arith) (λ e. fine (r.2 ∙ e)) (λ c. subst (λ a. IsContentionFreeAnswer a) r.2 c) r.1
        (λ C C' leads. inr (inl (is_verb, spells, subst (λ o. LendsIfNameFree RequestLeads o (C, old.1) row answer (C', new.1)) (sym is) (inr (r.0, leads, r.2, r.3)))))
  ]

  verify_comes : (o : Option LeaseView) → named_lease old.1 row ≡ o → row.verb ≡ verb.Verify → VerifiesLease WorkActs o old.0 answer new.0 → new.1 ≡ old.1 → RowComes old row answer new
  verify_comes None is is_verb h same = asks_nothing h.1 (λ C C' stays. inr (inr (inr (inr (inl (is_verb, subst (λ o. VerifiesLease RequestLeads o C answer C') (sym is) (h.0, stays), same))))))
  verify_comes (Some lease) is is_verb h same = asks (Verifies (length lease.bytes)) answer tt (omega arith) fine (λ c. c) h (λ C C' leads. inr (inr (inr (inr (inl (is_verb, subst (λ o. VerifiesLease RequestLeads o C answer C') (sym is) leads, same))))))

  row_comes : RowStep WorkActs old row answer new → RowComes old row answer new
  row_comes step = elim step [
    | inl store ↦ store_comes (command_of row) refl store.0 store.1
    | inr (inl lends) ↦ lease_comes (named_lease old.1 row) refl lends.0 lends.1 lends.2
    | inr (inr (inl reads)) ↦ asks_nothing (ap (λ (x : State Work). x.0) reads.2) (λ C C' stays. inr (inr (inl (reads.0, reads.1, λ i. (stays i, (reads.2 i).1)))))
    | inr (inr (inr (inl shares))) ↦ asks_nothing shares.2 (λ C C' stays. inr (inr (inr (inl (shares.0, shares.1, stays)))))
    | inr (inr (inr (inr (inl looks)))) ↦ verify_comes (named_lease old.1 row) refl looks.0 looks.1 looks.2
    | inr (inr (inr (inr (inr (inl returns))))) ↦ asks_nothing returns.2 (λ C C' stays. inr (inr (inr (inr (inr (inl (returns.0, returns.1, stays)))))))
    | inr (inr (inr (inr (inr (inr sweeps))))) ↦ asks Sweeps answer tt (omega arith) fine (λ c. c) sweeps.1 (λ C C' leads. inr (inr (inr (inr (inr (inr (sweeps.0, leads, sweeps.2)))))))
  ]

-- ---- the steps of rows

-- rows with their replies, played in their order, have these steps
abbrev pub AreLeft : Leases → List (RowView × Answer) → List Step → Type 0
AreLeft held [] steps = steps ≡ []
AreLeft held (p ∷ ps) steps = (first : List Step) × (later : List Step) × (left : Leases) × (steps ≡ first ++ later) × ComeTo first (λ es. IsRowOf held p.0 p.1 es left) × AreLeft left ps later

pub rows_come : (old new : State Work) (pairs : List (RowView × Answer)) → Plays WorkActs old (map (λ p. p.0) pairs) (map (λ p. p.1) pairs) new → (steps : List Step) × (new.0.steps ≡ old.0.steps ++ steps) × AreLeft old.1 pairs steps
rows_come old new [] h = ([], ap (λ (x : State Work). x.0.steps) h ∙ sym (append-nil old.0.steps), refl)
rows_come old new (p ∷ pairs) h =
    let here = row_comes old h.0 p.0 p.1 h.2 h.1 in
    let rest = rows_come h.0 new pairs h.3 in
    (here.0 ++ rest.0, rest.1 ∙ ap (λ steps. steps ++ rest.0) here.1 ∙ append_assoc old.0.steps here.0 rest.0, (here.0, rest.0, h.0.1, refl, here.2, rest.2))
