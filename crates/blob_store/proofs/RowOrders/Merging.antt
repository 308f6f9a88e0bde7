-- The steps of all workers are events in some order of the rows: each step but a check-out completes its worker's next row.
use Rattle.std.proofs.Common.{◌≡◌, ◌≢◌, ◌⊎◌, ◌<◌, ◌≤◌, ◌+◌, ◌%◌, ◌++◌, ◌∷◌, [], ℕ, Bool, true, false, List, length, Option, Some, None, Result, Ok, Err, refl, sym, ap, ◌∙◌, subst, inl, inr, arith}
use Prim.Native.Nat.{zero, suc}
use Rattle.std.specs.Prelude.{nat_lt}
use Rattle.std.specs.List.{AllByRecursion, filter, sum_by}
use Rattle.std.specs.FinMap.{empty, get, get-empty, insert, remove, same_map}
use Rattle.std.proofs.lemmas.Bool.{cases_eq, eq-eqb, ltb-false, ltb-true, ne_eqb}
use Rattle.std.proofs.lemmas.List.Sums.{sum_by-cons}
use Rattle.blob_digest.specs.declared.range.ByteRange.{ByteRange}
use Rattle.blob_digest.specs.declared.refusal.Refusal.{Refusal}
use Rattle.blob_digest.proofs.KeyOrders.{number_cmp_total, exact_number}
use Rattle.spec_lib.specs.Texts.{Text}
use Rattle.ghost_log.specs.Entries.{events_by}
use Rattle.ghost_log.specs.declared.view.Entry.{Entry}
use Rattle.store_model.specs.Catalog.{Catalog, SessionNumber, HandRecord, session_number_cmp}
use Rattle.store_model.specs.Commands.{take}
use Rattle.store_model.specs.Histories.{AreSteps, SweepCall, SweepPartCall, FinishCall, IsStep, MayLeadTo, CommandCall, PutBackCall, State, Step, TakeCall}
use Rattle.store_model.specs.Hands.{filled_length}
use Rattle.store_model.specs.Invariant.{Sound}
use Rattle.store_model.specs.Runs as runs
use Rattle.store_model.specs.Runs.{CommandEvent, Event, HasShortName}
use Rattle.store_model.specs.WholeCommands.{AreWholeCommands, CorrespondsTo, CheckedOutSessions, IsContentionFree, IsUpload, CheckedOut, length_reply}
use Rattle.store_api.specs.Answers.{Answer}
use Rattle.script_player.specs.Counts.{chunk_size}
use Rattle.script_player.specs.Leases.{Leases}
use Rattle.script_player.specs.Rows.{RowView}
use Rattle.script_player.specs.Shares.{is_own}
use Rattle.locked_book.specs.History.{filled_hand, steps_of}
use Rattle.blob_store.proofs.RowOrders.KeptHands.{KeepsHands, its_number, its_reserve, kept_back, kept_finish, kept_take, kept_whole, was_free}
use Rattle.blob_store.proofs.RowOrders.Progress.{AreInProgress, AreHandsOf, AreOwn, Goes, IsMidway, Place, goes, one_back, one_out, place_at, put_alike, put_at, put_other, same_out}
use Rattle.blob_store.proofs.RowOrders.Rows.{AreLeft, IsMildEvent, IsReturn, IsRowOf, IsWhole, Taking, chunk_in, hand_of_take, take_of}

-- ---- the order of the rows

-- the rows, each with its reply and by the leases of its worker, are these events
abbrev pub Told : ℕ → (ℕ → Leases) → List (RowView × Answer) → List Event → Type 0
Told n held [] events = events ≡ []
Told n held (p ∷ ps) events =
    (first : List Event) × (later : List Event) × (next : ℕ → Leases) × (events ≡ first ++ later) × IsRowOf (held (p.0.lane % n)) p.0 p.1 first (next (p.0.lane % n)) × ((v : ℕ) → v ≢ p.0.lane % n → next v ≡ held v) × Told n next ps later

-- a step is no refusal that a hand can cause
abbrev pub IsMild : Step → Type 0
IsMild (CommandCall command (Err e)) = IsContentionFree e
IsMild (TakeCall repo number range len (Err e)) = IsContentionFree e
IsMild (FinishCall hand digest (Err e)) = IsContentionFree e
IsMild step = Unit {0}

-- a step is a command unless it only checks a session out
abbrev pub commands_in : Step → ℕ
commands_in (TakeCall repo number range len (Ok hand)) = 0
commands_in step = 1

-- the bytes of a step's chunk, unless it only checks a session out
abbrev pub bytes_in : Step → ℕ
bytes_in (CommandCall command reply) = chunk_size command
bytes_in (TakeCall repo number range len (Err e)) = len
bytes_in (PutBackCall hand reply) = filled_length hand
bytes_in (FinishCall hand digest reply) = filled_length hand
bytes_in step = 0

-- each catalog of a run but the last is sound
abbrev pub AreSound : (s : State) (steps : List Step) (last : State) → AreSteps s steps last → Type 0
AreSound s [] last run = Unit {0}
AreSound s (step ∷ steps) last run = Sound s.catalog × AreSound run.0 steps last run.2

-- an order of the workers' rows, with the events of the steps
pub record IsOrdered (n : ℕ) (hands : CheckedOutSessions) (s : State) (steps : List Step) (last : State) (run : AreSteps s steps last) (of : ℕ → Place) : Type 0 where
  pub order : List (RowView × Answer)
  pub events : List Event
  pub whole : AreWholeCommands hands steps events
  pub named : AllByRecursion HasShortName events
  pub mild : AllByRecursion IsMild steps
  pub sound : AreSound s steps last run
  pub few : sum_by commands_in steps ≤ length order
  pub small : sum_by bytes_in steps ≤ sum_by (λ p. length p.0.body) order
  pub each : (w : ℕ) → w < n → filter (λ p. is_own n w p.0) order ≡ (of w).rows
  pub told : Told n (λ w. (of w).held) order events

both_named : (first later : List Event) → AllByRecursion HasShortName first → AllByRecursion HasShortName later → AllByRecursion HasShortName (first ++ later)
both_named [] later a b = b
both_named (e ∷ first) later a b = (a.0, both_named first later a.1 b)

-- a row of a worker, and then the others
module _ (n w : ℕ) (lt : w < n) (of : ℕ → Place) (x : Place) (p : RowView × Answer) (next : (of w).rows ≡ p ∷ x.rows) (mine : p.0.lane % n ≡ w) (first : List Event) (does : IsRowOf (of w).held p.0 p.1 first x.held) where
  with_row : (hands after : CheckedOutSessions) (s t : State) (steps later : List Step) (last : State) (run : AreSteps s steps last) (goes_on : AreSteps t later last) → ((events : List Event) → AreWholeCommands after later events → AreWholeCommands hands steps (first ++ events)) →
      (AllByRecursion IsMild later → AllByRecursion IsMild steps) → (AreSound t later last goes_on → AreSound s steps last run) → sum_by commands_in steps ≤ 1 + sum_by commands_in later →
      sum_by bytes_in steps ≤ length p.0.body + sum_by bytes_in later → IsOrdered n after t later last goes_on (place_at w x of) → IsOrdered n hands s steps last run of
  with_row hands after s t steps later last run goes_on whole mild sound few small rest = record {
    order = p ∷ rest.order;
    events = first ++ rest.events;
    whole = whole rest.events rest.whole;
    named = both_named first rest.events does.named rest.named;
    mild = mild rest.mild;
    sound = sound rest.sound;
    few = let less = rest.few in omega (arith, few, less);
    small = let less = rest.small in let sum = sum_by-cons (λ (q : RowView × Answer). length q.0.body) p rest.order in omega (arith, small, less, sum);
    each = λ v below. elim (cases_eq v w) [
      | inl e ↦ subst (λ u. filter (λ q. is_own n u q.0) (p ∷ rest.order) ≡ (of u).rows) (sym e)
          (rw (eq-eqb (p.0.lane % n) w mine) (ap (λ ps. p ∷ ps) (rest.each w lt ∙ ap (λ (y : Place). y.rows) (put_at w x of)) ∙ sym next))
      | inr other ↦ rw (ne_eqb (p.0.lane % n) v (λ e. other (sym e ∙ mine))) (rest.each v below ∙ ap (λ (y : Place). y.rows) (put_other v w x of other))
    ];
    told = (
      first,
      rest.events,
      (λ v. (place_at w x of v).held),
      refl,
      subst (λ u. IsRowOf (of u).held p.0 p.1 first (place_at w x of u).held) (sym mine) (subst (λ (h : Leases). IsRowOf (of w).held p.0 p.1 first h) (sym (ap (λ (y : Place). y.held) (put_at w x of))) does),
      (λ v other. ap (λ (y : Place). y.held) (put_other v w x of (λ e. other (e ∙ sym mine)))),
      rest.told,
    );
  }

-- ---- the next row of a worker

-- a row makes no step; or a step that is an event; or a check-out and a step that returns the hand
abbrev NextRow : Leases → RowView × Answer → List (RowView × Answer) → List Step → Type 0
NextRow held p ps steps =
    ((left : Leases) × IsRowOf held p.0 p.1 [] left × AreLeft left ps steps)
    ⊎ ((d : Step) × (e : Event) × (later : List Step) × (left : Leases) × (steps ≡ d ∷ later) × IsWhole d e × IsRowOf held p.0 p.1 (e ∷ []) left × AreLeft left ps later)
    ⊎ ((t : Taking) × (d : Step) × (e : Event) × (later : List Step) × (left : Leases) × (steps ≡ take_of t ∷ d ∷ later) × IsReturn t d e × IsRowOf held p.0 p.1 (e ∷ []) left × AreLeft left ps later)

next_row : (held : Leases) (p : RowView × Answer) (ps : List (RowView × Answer)) (steps : List Step) → AreLeft held (p ∷ ps) steps → NextRow held p ps steps
next_row held p ps steps h = elim h.4 [
  | inl x ↦ inl (h.2, x.1, subst (λ s. AreLeft h.2 ps s) (sym (h.3 ∙ ap (λ f. f ++ h.1) x.0)) h.5)
  | inr (inl x) ↦ inr (inl (x.0, x.1, h.1, h.2, h.3 ∙ ap (λ f. f ++ h.1) x.2, x.3, x.4, h.5))
  | inr (inr x) ↦ inr (inr (x.0, x.1, x.2, h.1, h.2, h.3 ∙ ap (λ f. f ++ h.1) x.3, x.4, x.5, h.5))
]

no_step : {X : Type 0} {d : Step} {later : List Step} → [] ≡ d ∷ later → X
no_step h = absurd cc

same_step : {d e : Step} {ds es : List Step} → ◌≡◌ {A = List Step} (d ∷ ds) (e ∷ es) → (d ≡ e) × (ds ≡ es)
same_step h = (cc, cc)

-- ---- steps that fail

mild_whole : (d : Step) (e : Event) → IsWhole d e → IsMildEvent e → IsMild d
mild_whole (CommandCall command (Ok a)) e whole mild = tt
mild_whole (CommandCall command (Err f)) e whole mild = (subst (λ es. AllByRecursion IsMildEvent es) (whole empty).0 (mild, tt)).0
mild_whole (SweepCall swept) e whole mild = tt
mild_whole (SweepPartCall swept) e whole mild = tt
mild_whole (TakeCall repo number range len (Ok h)) e whole mild = tt
mild_whole (TakeCall repo number range len (Err f)) e whole mild = (subst (λ es. AllByRecursion IsMildEvent es) (whole empty).0.4 (mild, tt)).0
mild_whole (PutBackCall h reply) e whole mild = tt
mild_whole (FinishCall h digest reply) e whole mild = absurd (let c = whole empty in let none : None ≡ Some c.0 = sym (get-empty session_number_cmp h.key) ∙ c.1 in cc)

mild_return : (t : Taking) (d : Step) (e : Event) → IsReturn t d e → IsMildEvent e → IsMild d
mild_return t d e r mild = elim r.is [
  | inl x ↦ subst (λ y. IsMild y) (sym x.0) tt
  | inr x ↦ subst (λ y. IsMild y) (sym x.1) (finished (filled_hand t.hand r.bytes) x.0 (runs.Close t.repo t.number x.0 t.range r.bytes) r.reply (subst (λ y. IsMildEvent y) x.2 mild))
]
  where
    finished : (h : HandRecord) (digest : Text) (command : runs.Command) (reply : Result ℕ Refusal) → IsMildEvent (CommandEvent command (length_reply reply)) → IsMild (FinishCall h digest reply)
    finished h digest command (Ok n) mild = tt
    finished h digest command (Err f) mild = mild

-- a step counts as at most one command, and brings no more bytes than its event
one_at_most : (d : Step) → commands_in d ≤ 1
one_at_most (CommandCall command reply) = omega arith
one_at_most (SweepCall swept) = omega arith
one_at_most (SweepPartCall swept) = omega arith
one_at_most (TakeCall repo number range len (Ok h)) = omega arith
one_at_most (TakeCall repo number range len (Err f)) = omega arith
one_at_most (PutBackCall h reply) = omega arith
one_at_most (FinishCall h digest reply) = omega arith

-- the only event of a list is this one
same_event : {d e : Event} → ◌≡◌ {A = List Event} (d ∷ []) (e ∷ []) → d ≡ e
same_event h = cc

upload_chunk : (repo : Text) (number : ℕ) (range : Option ByteRange) (bytes : Text) (command : runs.Command) → IsUpload repo number range bytes command → chunk_size command ≡ length bytes
upload_chunk repo number range bytes command upload = elim upload [
  | inl is ↦ ap chunk_size is
  | inr x ↦ ap chunk_size x.1
]

bytes_whole : (d : Step) (e : Event) → IsWhole d e → bytes_in d ≤ chunk_in e
bytes_whole (CommandCall command reply) e whole = let same : chunk_in e ≡ chunk_size command = ap chunk_in (same_event (whole empty).0) in omega (arith, same)
bytes_whole (SweepCall swept) e whole = omega arith
bytes_whole (SweepPartCall swept) e whole = omega arith
bytes_whole (TakeCall repo number range len (Ok h)) e whole = omega arith
bytes_whole (TakeCall repo number range len (Err f)) e whole =
    let u = (whole empty).0 in
    let same : chunk_in e ≡ chunk_size u.0 = ap chunk_in (same_event u.4) in
    let chunk : chunk_size u.0 ≡ length u.1 = upload_chunk repo number range u.1 u.0 u.3 in
    let long = u.2 in
    omega (arith, same, chunk, long)
bytes_whole (PutBackCall h reply) e whole = absurd (let c = whole empty in let none : None ≡ Some c.0 = sym (get-empty session_number_cmp h.key) ∙ c.1 in cc)
bytes_whole (FinishCall h digest reply) e whole = absurd (let c = whole empty in let none : None ≡ Some c.0 = sym (get-empty session_number_cmp h.key) ∙ c.1 in cc)

bytes_return : (t : Taking) (d : Step) (e : Event) → IsReturn t d e → bytes_in d ≤ chunk_in e
bytes_return t d e r = elim r.is [
  | inl x ↦ let one : bytes_in d ≡ length r.bytes = ap bytes_in x.0 in let same : chunk_in e ≡ length r.bytes = ap chunk_in x.1 in omega (arith, one, same)
  | inr x ↦ let one : bytes_in d ≡ length r.bytes = ap bytes_in x.1 in let same : chunk_in e ≡ length r.bytes = ap chunk_in x.2 in omega (arith, one, same)
]

-- ---- no remaining entry

module _ (n : ℕ) (s last : State) (run : AreSteps s [] last) where
  idle : (o : Option Taking) (held : Leases) (rows : List (RowView × Answer)) → Goes o held rows [] → (o ≡ None) × AreLeft held rows []
  idle None held rows left = (refl, left)
  idle (Some t) held rows mid = no_step mid.is

  -- the worker's remaining rows make no step
  last_rows : (w : ℕ) → w < n → (rows : List (RowView × Answer)) (of : ℕ → Place) → (of w).rows ≡ rows → AreInProgress n [] of →
      ((new : ℕ → Place) → AreInProgress n [] new → (new w).rows ≡ [] → ((v : ℕ) → v ≢ w → new v ≡ of v) → IsOrdered n empty s [] last run new) → IsOrdered n empty s [] last run of
  last_rows w lt [] of is going goes_on = goes_on of going is (λ v _. refl)
  last_rows w lt (p ∷ ps) of is going goes_on =
      let left : AreLeft (of w).held (p ∷ ps) [] = subst (λ rows. AreLeft (of w).held rows []) is (idle (of w).out (of w).held (of w).rows (going.each w lt)).1 in
      let own : AreOwn n w (p ∷ ps) = subst (λ rows. AreOwn n w rows) is (going.own w lt) in
      elim (next_row (of w).held p ps [] left) [
        | inl h ↦
            let x : Place = record { out = None; held = h.0; rows = ps } in
            with_row n w lt of x p is own.0.0 [] h.1 empty empty s s [] [] last run run (λ events are. are) (λ mild. mild) (λ sound. sound) (omega arith) (omega arith)
            (last_rows w lt ps (place_at w x of) (ap (λ (y : Place). y.rows) (put_at w x of)) (goes n w lt of x [] [] going (λ v _. refl) h.2 own.1)
            (λ new going none same. goes_on new going none (λ v other. same v other ∙ put_other v w x of other)))
        | inr (inl h) ↦ no_step h.4
        | inr (inr h) ↦ no_step h.5
      ]

  all_last_rows : (m : ℕ) → m ≤ n → (of : ℕ → Place) → AreInProgress n [] of → ((v : ℕ) → m ≤ v → v < n → (of v).rows ≡ []) → IsOrdered n empty s [] last run of
  all_last_rows zero le of going done = record { order = []; events = []; whole = (refl, refl); named = tt; mild = tt; sound = tt; few = omega arith; small = omega arith; each = λ v below. sym (done v (omega arith) below); told = refl }
  all_last_rows (suc m) le of going done = last_rows m (omega (arith, le)) (of m).rows of refl going (λ new going none same.
      all_last_rows m (omega (arith, le)) new going (λ v above below. elim (cases_eq v m) [
        | inl e ↦ ap (λ u. (new u).rows) e ∙ none
        | inr other ↦ ap (λ (y : Place). y.rows) (same v other) ∙ done v (omega (arith, above, other)) below
      ]))

  all_home : (hands : CheckedOutSessions) (of : ℕ → Place) → AreInProgress n [] of → AreHandsOf n hands of → hands ≡ empty
  all_home hands of going out = same_map number_cmp_total exact_number hands empty (λ k. by k (get hands k) refl)
    where
      none_left : CheckedOutSessions
      none_left = empty

      by : (k : SessionNumber) (o : Option CheckedOut) → get hands k ≡ o → get hands k ≡ get none_left k
      by k None is = is ∙ sym (get-empty session_number_cmp k)
      by k (Some o) is =
          let h = out.owner k o is in
          absurd (let e : None ≡ Some h.1 = sym (idle (of h.0).out (of h.0).held (of h.0).rows (going.each h.0 h.2)).0 ∙ h.3 in cc)

-- ---- one entry

-- the effect of a hand that returns
returned : (hands : CheckedOutSessions) (s : State) (X : Catalog) (t : Taking) (d : Step) (e : Event) → IsReturn t d e → t.hand.key.1 ≡ t.number → t.hand.reserved ≡ t.len → get hands t.hand.key ≡ Some (hand_of_take t) →
    KeepsHands hands s.catalog → MayLeadTo s d X → CorrespondsTo hands d (e ∷ []) (remove hands t.hand.key) × KeepsHands (remove hands t.hand.key) X
returned hands s X t d e r number reserve out kept =
    let fills : length r.bytes ≡ t.hand.reserved = r.fills ∙ sym reserve in
    elim r.is [
      | inl x ↦ subst (λ y. MayLeadTo s y X → CorrespondsTo hands y (e ∷ []) (remove hands t.hand.key) × KeepsHands (remove hands t.hand.key) X) (sym x.0) (λ leaves. (
        (hand_of_take t, out, inl (r.bytes, (fills, refl), ap (λ y. y ∷ []) x.1 ∙ ap (λ k. CommandEvent (runs.Append t.repo k t.range r.bytes) (length_reply r.reply) ∷ []) (sym number)), refl),
        kept_back hands s X kept (filled_hand t.hand r.bytes) (hand_of_take t) out r.bytes fills refl r.reply leaves,
      ))
      | inr x ↦ subst (λ y. MayLeadTo s y X → CorrespondsTo hands y (e ∷ []) (remove hands t.hand.key) × KeepsHands (remove hands t.hand.key) X) (sym x.1) (λ leaves. (
        (hand_of_take t, out, (r.bytes, (fills, refl), ap (λ y. y ∷ []) x.2 ∙ ap (λ k. CommandEvent (runs.Close t.repo k x.0 t.range r.bytes) (length_reply r.reply) ∷ []) (sym number)), refl),
        kept_finish hands s X kept (filled_hand t.hand r.bytes) (hand_of_take t) out r.bytes fills refl x.0 r.reply leaves,
      ))
    ]

module _ (n : ℕ) (e : Entry Step) (es : List (Entry Step)) (s mid last : State) (stepped : IsStep s e.event mid) (later : AreSteps mid (steps_of es) last) (lt : e.writer < n)
    (goes_on : (hands : CheckedOutSessions) (of : ℕ → Place) → KeepsHands hands mid.catalog → AreInProgress n es of → AreHandsOf n hands of → IsOrdered n hands mid (steps_of es) last later of) where
  abbrev run : AreSteps s (steps_of (e ∷ es)) last
  run = (mid, stepped, later)

  abbrev w : ℕ
  w = e.writer

  mine : events_by w (e ∷ es) ≡ e.event ∷ events_by w es
  mine = rw (eq-eqb e.writer e.writer refl) refl

  elsewhere : (v : ℕ) → v ≢ w → events_by v es ≡ events_by v (e ∷ es)
  elsewhere v other = rw (ne_eqb e.writer v (λ x. other (sym x))) refl

  one_command : sum_by commands_in (steps_of (e ∷ es)) ≤ 1 + sum_by commands_in (steps_of es)
  one_command = let sum = sum_by-cons commands_in e.event (steps_of es) in let one = one_at_most e.event in omega (arith, sum, one)

  within : {m k : ℕ} → bytes_in e.event ≤ m → m ≤ k → sum_by bytes_in (steps_of (e ∷ es)) ≤ k + sum_by bytes_in (steps_of es)
  within {m} {k} here fits = let sum = sum_by-cons bytes_in e.event (steps_of es) in omega (arith, sum, here, fits)

  -- a hand is out by the next row
  comes_back : (t : Taking) (of : ℕ → Place) (hands : CheckedOutSessions) → (of w).out ≡ Some t → KeepsHands hands s.catalog → AreInProgress n (e ∷ es) of → AreHandsOf n hands of → IsOrdered n hands s (steps_of (e ∷ es)) last run of
  comes_back t of hands has kept going out =
      let m : IsMidway t (of w).held (of w).rows (e.event ∷ events_by w es) = subst (λ steps. IsMidway t (of w).held (of w).rows steps) mine (subst (λ o. Goes o (of w).held (of w).rows (events_by w (e ∷ es))) has (going.each w lt)) in
      let x : Place = record { out = None; held = m.left; rows = m.rest } in
      let same = same_step m.is in
      let own : AreOwn n w (m.row ∷ m.rest) = subst (λ rows. AreOwn n w rows) m.next (going.own w lt) in
      let back = returned hands s mid.catalog t m.step m.event m.returns m.its_number m.its_reserve (out.lent w t has) kept (subst (λ d. MayLeadTo s d mid.catalog) same.0 stepped.leaves) in
      with_row n w lt of x m.row m.next own.0.0 (m.event ∷ []) m.does hands (remove hands t.hand.key) s mid (steps_of (e ∷ es)) (steps_of es) last run later
      (λ events are. (m.event ∷ [], events, remove hands t.hand.key, subst (λ d. CorrespondsTo hands d (m.event ∷ []) (remove hands t.hand.key)) (sym same.0) back.0, refl, are))
      (λ mild. (subst (λ d. IsMild d) (sym same.0) (mild_return t m.step m.event m.returns (m.does.mild own.0.1).0), mild))
      (λ sound. (kept.sound, sound)) one_command (within (subst (λ d. bytes_in d ≤ chunk_in m.event) (sym same.0) (bytes_return t m.step m.event m.returns)) m.does.small.0)
      (goes_on (remove hands t.hand.key) (place_at w x of) back.1 (goes n w lt of x (e ∷ es) es going elsewhere (subst (λ steps. AreLeft m.left m.rest steps) (sym same.1) m.goes_on) own.1) (one_back n w lt of x hands t has refl out))

  -- a check-out alone puts no row in the order
  takes : (p : RowView × Answer) (ps : List (RowView × Answer)) (of : ℕ → Place) (hands : CheckedOutSessions) → (of w).rows ≡ p ∷ ps → (of w).out ≡ None → KeepsHands hands s.catalog → AreInProgress n (e ∷ es) of → AreHandsOf n hands of → AreOwn n w (p ∷ ps) →
      (t : Taking) × (d : Step) × (f : Event) × (later : List Step) × (left : Leases) × (e.event ∷ events_by w es ≡ take_of t ∷ d ∷ later) × IsReturn t d f × IsRowOf (of w).held p.0 p.1 (f ∷ []) left × AreLeft left ps later →
      IsOrdered n hands s (steps_of (e ∷ es)) last run of
  takes p ps of hands is none kept going out own h =
      let t : Taking = h.0 in
      let x : Place = record { out = Some t; held = (of w).held; rows = p ∷ ps } in
      let same = same_step h.5 in
      let taken : take s.catalog t.repo t.number t.range t.len ≡ Ok (t.hand, mid.catalog) = subst (λ d. MayLeadTo s d mid.catalog) same.0 stepped.leaves in
      let after : CheckedOutSessions = insert hands t.hand.key (hand_of_take t) in
      let midway : IsMidway t (of w).held (p ∷ ps) (events_by w es) = record {
        its_number = its_number hands s.catalog mid.catalog kept t.repo t.number t.len t.range t.hand taken;
        its_reserve = its_reserve hands s.catalog mid.catalog kept t.repo t.number t.len t.range t.hand taken;
        step = h.1;
        event = h.2;
        returns = h.6;
        row = p;
        rest = ps;
        next = refl;
        later = h.3;
        left = h.4;
        is = same.1;
        does = h.7;
        goes_on = h.8;
      } in
      let r = goes_on after (place_at w x of) (kept_take hands s.catalog mid.catalog kept t.repo t.number t.len t.range t.hand taken) (goes n w lt of x (e ∷ es) es going elsewhere midway own)
      (one_out n w lt of x hands t none refl (was_free hands s.catalog mid.catalog kept t.repo t.number t.len t.range t.hand taken) out) in
      record {
        order = r.order;
        events = r.events;
        whole = ([], r.events, after, subst (λ d. CorrespondsTo hands d [] after) (sym same.0) (refl, refl), refl, r.whole);
        named = r.named;
        mild = (subst (λ d. IsMild d) (sym same.0) tt, r.mild);
        sound = (kept.sound, r.sound);
        few = let sum = sum_by-cons commands_in e.event (steps_of es) in let none : commands_in e.event ≡ 0 = ap commands_in same.0 in let less = r.few in omega (arith, sum, none, less);
        small = let sum = sum_by-cons bytes_in e.event (steps_of es) in let none : bytes_in e.event ≡ 0 = ap bytes_in same.0 in let less = r.small in omega (arith, sum, none, less);
        each = λ v below. r.each v below ∙ put_alike w x of (λ (y : Place). y.rows) (sym is) v;
        told = subst (λ (f : ℕ → Leases). Told n f r.order r.events) (λ i v. put_alike w x of (λ (y : Place). y.held) refl v i) r.told;
      }

  -- or a row begins, after the rows that make no step
  begins : (rows : List (RowView × Answer)) (of : ℕ → Place) (hands : CheckedOutSessions) → (of w).rows ≡ rows → (of w).out ≡ None → KeepsHands hands s.catalog → AreInProgress n (e ∷ es) of → AreHandsOf n hands of → IsOrdered n hands s (steps_of (e ∷ es)) last run of
  begins [] of hands is none kept going out =
      let left : AreLeft (of w).held [] (e.event ∷ events_by w es) = subst (λ steps. AreLeft (of w).held [] steps) mine (subst (λ rows. AreLeft (of w).held rows (events_by w (e ∷ es))) is (subst (λ o. Goes o (of w).held (of w).rows (events_by w (e ∷ es))) none (going.each w lt))) in
      no_step (sym left)
  begins (p ∷ ps) of hands is none kept going out =
      let left : AreLeft (of w).held (p ∷ ps) (e.event ∷ events_by w es) = subst (λ steps. AreLeft (of w).held (p ∷ ps) steps) mine (subst (λ rows. AreLeft (of w).held rows (events_by w (e ∷ es))) is (subst (λ o. Goes o (of w).held (of w).rows (events_by w (e ∷ es))) none (going.each w lt))) in
      let own : AreOwn n w (p ∷ ps) = subst (λ rows. AreOwn n w rows) is (going.own w lt) in
      elim (next_row (of w).held p ps (e.event ∷ events_by w es) left) [
        | inl h ↦
            let x : Place = record { out = None; held = h.0; rows = ps } in
            with_row n w lt of x p is own.0.0 [] h.1 hands hands s s (steps_of (e ∷ es)) (steps_of (e ∷ es)) last run run (λ events are. are) (λ mild. mild) (λ sound. sound) (omega arith) (omega arith)
            (begins ps (place_at w x of) hands (ap (λ (y : Place). y.rows) (put_at w x of)) (ap (λ (y : Place). y.out) (put_at w x of)) kept
            (goes n w lt of x (e ∷ es) (e ∷ es) going (λ v _. refl) (subst (λ steps. AreLeft h.0 ps steps) (sym mine) h.2) own.1) (same_out n w lt of x hands none refl out))
        | inr (inl h) ↦
            let x : Place = record { out = None; held = h.3; rows = ps } in
            let same = same_step h.4 in
            let whole : IsWhole e.event h.1 = subst (λ d. IsWhole d h.1) (sym same.0) h.5 in
            with_row n w lt of x p is own.0.0 (h.1 ∷ []) h.6 hands hands s mid (steps_of (e ∷ es)) (steps_of es) last run later
            (λ events are. (h.1 ∷ [], events, hands, whole hands, refl, are))
            (λ mild. (mild_whole e.event h.1 whole (h.6.mild own.0.1).0, mild))
            (λ sound. (kept.sound, sound)) one_command (within (bytes_whole e.event h.1 whole) h.6.small.0)
            (goes_on hands (place_at w x of) (kept_whole hands s mid.catalog kept e.event h.1 whole h.6.named.0 stepped.leaves)
            (goes n w lt of x (e ∷ es) es going elsewhere (subst (λ steps. AreLeft h.3 ps steps) (sym same.1) h.7) own.1) (same_out n w lt of x hands none refl out))
        | inr (inr h) ↦ takes p ps of hands is none kept going out own h
      ]

-- ---- all entries

one_entry : (n : ℕ) (e : Entry Step) (es : List (Entry Step)) (s last : State) (hands : CheckedOutSessions) (of : ℕ → Place) → KeepsHands hands s.catalog → AreInProgress n (e ∷ es) of → AreHandsOf n hands of → (run : AreSteps s (steps_of (e ∷ es)) last) →
    ((hands : CheckedOutSessions) (of : ℕ → Place) → KeepsHands hands run.0.catalog → AreInProgress n es of → AreHandsOf n hands of → IsOrdered n hands run.0 (steps_of es) last run.2 of) → IsOrdered n hands s (steps_of (e ∷ es)) last run of
one_entry n e es s last hands of kept going out run goes_on = by (nat_lt e.writer n) refl
  where
    started : e.writer < n → (o : Option Taking) → (of e.writer).out ≡ o → IsOrdered n hands s (steps_of (e ∷ es)) last run of
    started lt None is = begins n e es s run.0 last run.1 run.2 lt goes_on (of e.writer).rows of hands refl is kept going out
    started lt (Some t) is = comes_back n e es s run.0 last run.1 run.2 lt goes_on t of hands is kept going out

    by : (b : Bool) → nat_lt e.writer n ≡ b → IsOrdered n hands s (steps_of (e ∷ es)) last run of
    by true is = started (ltb-true e.writer n is) (of e.writer).out refl
    by false is =
        let here : events_by e.writer (e ∷ es) ≡ e.event ∷ events_by e.writer es = rw (eq-eqb e.writer e.writer refl) refl in
        no_step (sym (going.others e.writer (ltb-false e.writer n is)) ∙ here)

pub merged : (n : ℕ) (es : List (Entry Step)) (s last : State) (hands : CheckedOutSessions) (of : ℕ → Place) → KeepsHands hands s.catalog → AreInProgress n es of → AreHandsOf n hands of → (run : AreSteps s (steps_of es) last) → IsOrdered n hands s (steps_of es) last run of
merged n [] s last hands of kept going out run =
    subst (λ hs. IsOrdered n hs s [] last run of) (sym (all_home n s last run hands of going out)) (all_last_rows n s last run n (omega arith) of going (λ v above below. absurd (omega (arith, above, below))))
merged n (e ∷ es) s last hands of kept going out run = one_entry n e es s last hands of kept going out run (λ hands of kept going out. merged n es run.0 last hands of kept going out run.2)
