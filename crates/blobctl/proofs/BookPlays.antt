-- Rows played on a book are played on its catalog.
use Rattle.std.proofs.Common.{◌≡◌, ◌≢◌, ◌≤◌, ◌<◌, ◌+◌, ◌*◌, ℕ, List, [], ◌∷◌, length, get_or, IfOk, Option, Some, None, Result, Ok, Err, ap, arith, inl, inr, refl, sym, ◌∙◌, subst}
use Prim.Native.Nat.{zero, suc}
use Rattle.std.specs.Prelude.{slice_get, replicate}
use Rattle.std.proofs.lemmas.Option.{same_Some, slice_get_within, slice_get-get_or}
use Rattle.spec_lib.specs.Texts.{Text}
use Rattle.blob_digest.specs.declared.refusal.Refusal.{Refusal}
use Rattle.blob_digest.specs.declared.refusal.Refusal.TheVariants.{Memory}
use Rattle.store_model.specs.Catalog.{Catalog}
use Rattle.store_book.specs.BookState.{BookState, SlotView}
use Rattle.store_book.specs.SlotSteps.{EachSlot, HasLastGeneration}
use Rattle.store_api.specs.Answers.{Answer, Session, Received, Stored, Abandoned, Mounted, Deleted, Manifest, Body, Leased, Bytes, Shared, Verified, GivenBack, Swept, NoLease, NameTaken, Refused}
use Rattle.store_api.specs.Commands.{Command, Start, Status, Append, Close, Abandon, Mount, Delete, PutManifest, GetManifest, DeleteManifest, RemoveRepo, Lease, StoreRequest, Calls, Verifies, Sweeps, SweepsInParts}
use Rattle.script_player.specs.RowCommands.{command_of}
use Rattle.store_api.specs.LeaseViews.{LeaseView}
use Rattle.script_player.specs.Leases.{Leases, no_leases}
use Rattle.blobctl.specs.Played.{BookActs, BookActsCommand, IsCrowdedOut, outcome_result, command_outcome, CatalogLeads, CatalogLeadsCommand, RisesByOne}
use Rattle.script_player.specs.Plays.{Plays, RowStep, State, LendsIfNameFree, VerifiesLease, named_lease}
use Rattle.store_api.specs.Steps.{StepOf}
use Rattle.script_player.specs.Rows.{RowView}

-- a slot's generation is at most `n`, and its bound that of `n` readers
abbrev pub IsLow : ℕ → SlotView → Type 0
IsLow n s = (s.generation ≤ n) × (s.bound ≤ 1024 * n)

abbrev pub AreLow : ℕ → List SlotView → Type 0
AreLow n slots = (k : ℕ) (s : SlotView) → slice_get slots k ≡ Some s → IsLow n s

low_by_one : (n : ℕ) (old new : List SlotView) → AreLow n old → EachSlot RisesByOne old new → AreLow (n + 1) new
low_by_one n old new low rises k b at =
    let within : k < length old = omega (arith, slice_get_within new k b at, rises.0) in
    let a : SlotView = get_or old k b in
    let was : slice_get old k ≡ Some a = slice_get-get_or old k b within in
    let step = rises.1 k a b was at in
    let before = low k a was in
    (omega (arith, before.0, step.0), omega (arith, before.1, step.1))

still_low : (n : ℕ) (slots : List SlotView) → AreLow n slots → AreLow (n + 1) slots
still_low n slots low k s at = let h = low k s at in (omega (arith, h.0), omega (arith, h.1))

none_crowded_out : (n : ℕ) (slots : List SlotView) (command : Command) (refusal : Refusal) → AreLow n slots → n ≤ 65537 → ¬ IsCrowdedOut slots command refusal
none_crowded_out n slots (Lease repo digest) refusal low few (is, crowded) = omega (arith, (low crowded.0 crowded.1 crowded.2).1, few, crowded.4)
none_crowded_out n slots (Start repo) refusal low few out = out
none_crowded_out n slots (Status repo number) refusal low few out = out
none_crowded_out n slots (Append repo number range bytes) refusal low few out = out
none_crowded_out n slots (Close repo number digest range bytes) refusal low few out = out
none_crowded_out n slots (Abandon repo number) refusal low few out = out
none_crowded_out n slots (Mount repo digest from) refusal low few out = out
none_crowded_out n slots (Delete repo digest) refusal low few out = out
none_crowded_out n slots (PutManifest repo bytes) refusal low few out = out
none_crowded_out n slots (GetManifest repo digest) refusal low few out = out
none_crowded_out n slots (DeleteManifest repo digest) refusal low few out = out
none_crowded_out n slots (RemoveRepo repo) refusal low few out = out

not_last : (n : ℕ) (slots : List SlotView) → AreLow n slots → n ≤ 65537 → ¬ HasLastGeneration slots
not_last n slots low few last = omega (arith, (low last.0 last.1 last.2).0, few, last.3)

none_retired : (n : ℕ) → ¬ (0 < n) → n ≡ 0
none_retired zero not = refl
none_retired (suc n) not = absurd (not (omega arith))

call_happens : (n : ℕ) (C : Catalog) (slots : List SlotView) (command : Command) (answer : Answer) (C' : Catalog) → AreLow n slots → n ≤ 65537 → answer ≢ Refused Memory → BookActsCommand C slots command answer C' → CatalogLeadsCommand C command answer C'
call_happens n C slots command (Session x) C' low few not_memory h = sym (ap (outcome_result C) h)
call_happens n C slots command (Received x) C' low few not_memory h = sym (ap (outcome_result C) h)
call_happens n C slots command (Stored x) C' low few not_memory h = sym (ap (outcome_result C) h)
call_happens n C slots command Abandoned C' low few not_memory h = sym (ap (outcome_result C) h)
call_happens n C slots command Mounted C' low few not_memory h = sym (ap (outcome_result C) h)
call_happens n C slots command Deleted C' low few not_memory h = sym (ap (outcome_result C) h)
call_happens n C slots command (Manifest x) C' low few not_memory h = sym (ap (outcome_result C) h)
call_happens n C slots command (Body x) C' low few not_memory h = sym (ap (outcome_result C) h)
call_happens n C slots command (Leased x) C' low few not_memory h = sym (ap (outcome_result C) h)
call_happens n C slots command (Bytes x) C' low few not_memory h = sym (ap (outcome_result C) h)
call_happens n C slots command Shared C' low few not_memory h = sym (ap (outcome_result C) h)
call_happens n C slots command (Verified x) C' low few not_memory h = sym (ap (outcome_result C) h)
call_happens n C slots command GivenBack C' low few not_memory h = sym (ap (outcome_result C) h)
call_happens n C slots command (Swept x) C' low few not_memory h = sym (ap (outcome_result C) h)
call_happens n C slots command NoLease C' low few not_memory h = sym (ap (outcome_result C) h)
call_happens n C slots command NameTaken C' low few not_memory h = sym (ap (outcome_result C) h)
call_happens n C slots command (Refused refusal) C' low few not_memory h =
    let refused : command_outcome C command ≡ Err refusal = elim (h.0 (λ e. not_memory (ap Refused e))) [
      | inl is ↦ is
      | inr crowded ↦ absurd (none_crowded_out n slots command refusal low few crowded)
    ] in
    (λ i. (Refused refusal, h.1 i)) ∙ sym (ap (outcome_result C) refused)

-- a sweep of a book is one of its catalog
sweep_happens : (n : ℕ) (old new : BookState) (answer : Answer) → AreLow n old.slots → n ≤ 65536 → BookActs old Sweeps answer new → CatalogLeads old.catalog Sweeps answer new.catalog × AreLow (n + 1) new.slots
sweep_happens n old new answer low few h =
    let sweep = h.0 in
    ((sweep.0, sweep.1, sweep.2, none_retired sweep.0.retired (λ some. not_last n old.slots low (omega (arith, few)) (sweep.3 some))), low_by_one n old.slots new.slots low h.1)

-- a book's action is its catalog's, unless memory ran out
request_happens : (n : ℕ) (old new : BookState) (request : StoreRequest) (answer : Answer) → AreLow n old.slots → n ≤ 65536 → answer ≢ Refused Memory → BookActs old request answer new → CatalogLeads old.catalog request answer new.catalog × AreLow (n + 1) new.slots
request_happens n old new (Calls command) answer low few not_memory h =
    let after = low_by_one n old.slots new.slots low h.1 in
    (call_happens (n + 1) old.catalog new.slots command answer new.catalog after (omega (arith, few)) not_memory h.0, after)
request_happens n old new (Verifies size) answer low few not_memory h = ((h.0, h.1), low_by_one n old.slots new.slots low h.2)
request_happens n old new Sweeps answer low few not_memory h = sweep_happens n old new answer low few h
request_happens n old new SweepsInParts answer low few not_memory h = sweep_happens n old new answer low few h

abbrev catalog_of : State BookState → State Catalog
catalog_of s = (s.0.catalog, s.1)

abbrev catalog_in : BookState → Catalog
catalog_in s = s.catalog

same_low : (n : ℕ) (old new : BookState) → new ≡ old → AreLow n old.slots → AreLow (n + 1) new.slots
same_low n old new same low = subst (λ (x : BookState). AreLow (n + 1) x.slots) (sym same) (still_low n old.slots low)

store_happens : (n : ℕ) (o : Result (Option Command) Refusal) (old new : BookState) (answer : Answer) → AreLow n old.slots → n ≤ 65536 → answer ≢ Refused Memory → StepOf BookActs o old answer new → StepOf CatalogLeads o old.catalog answer new.catalog × AreLow (n + 1) new.slots
store_happens n (Ok (Some command)) old new answer low few not_memory step = let h = request_happens n old new (Calls command) answer low few not_memory step.1 in ((step.0, h.0), h.1)
store_happens n (Ok None) old new answer low few not_memory step = absurd step
store_happens n (Err refusal) old new answer low few not_memory step = ((step.0, ap catalog_in step.1), same_low n old new step.1 low)

bytes_not_memory : (bytes : Text) → Bytes bytes ≢ Refused Memory
bytes_not_memory bytes e = absurd (let h = e in cc)

lends_happen : (n : ℕ) (o : Option LeaseView) (old new : State BookState) (line : RowView) (answer : Answer) → AreLow n old.0.slots → n ≤ 65536 → answer ≢ Refused Memory → LendsIfNameFree BookActs o old line answer new
    → LendsIfNameFree CatalogLeads o (catalog_of old) line answer (catalog_of new) × AreLow (n + 1) new.0.slots
lends_happen n (Some lease) old new line answer low few not_memory h = ((h.0, ap catalog_of h.1), same_low n old.0 new.0 (ap (λ (x : State BookState). x.0) h.1) low)
lends_happen n None old new line answer low few not_memory h = elim h [
  | inl l ↦ let d = request_happens n old.0 new.0 (Calls (Lease line.repo line.digest)) (Bytes l.0) low few (bytes_not_memory l.0) l.1 in (inl (l.0, d.0, l.2, l.3), d.1)
  | inr r ↦ let d = request_happens n old.0 new.0 (Calls (Lease line.repo line.digest)) (Refused r.0) low few (λ e. not_memory (r.2 ∙ e)) r.1 in (inr (r.0, d.0, r.2, r.3), d.1)
]

verify_happens : (n : ℕ) (o : Option LeaseView) (old new : BookState) (answer : Answer) → AreLow n old.slots → n ≤ 65536 → answer ≢ Refused Memory → VerifiesLease BookActs o old answer new → VerifiesLease CatalogLeads o old.catalog answer new.catalog × AreLow (n + 1) new.slots
verify_happens n None old new answer low few not_memory h = ((h.0, ap catalog_in h.1), same_low n old new h.1 low)
verify_happens n (Some lease) old new answer low few not_memory h = request_happens n old new (Verifies (length lease.bytes)) answer low few not_memory h

row_happens : (n : ℕ) (old new : State BookState) (line : RowView) (answer : Answer) → AreLow n old.0.slots → n ≤ 65536 → answer ≢ Refused Memory → RowStep BookActs old line answer new
    → RowStep CatalogLeads (catalog_of old) line answer (catalog_of new) × AreLow (n + 1) new.0.slots
row_happens n old new line answer low few not_memory step = elim step [
  | inl store ↦ let h = store_happens n (command_of line) old.0 new.0 answer low few not_memory store.0 in (inl (h.0, store.1), h.1)
  | inr (inl lends) ↦ let h = lends_happen n (named_lease old.1 line) old new line answer low few not_memory lends.2 in (inr (inl (lends.0, lends.1, h.0)), h.1)
  | inr (inr (inl reads)) ↦ (inr (inr (inl (reads.0, reads.1, ap catalog_of reads.2))), same_low n old.0 new.0 (ap (λ (x : State BookState). x.0) reads.2) low)
  | inr (inr (inr (inl shares))) ↦ (inr (inr (inr (inl (shares.0, shares.1, ap catalog_in shares.2)))), same_low n old.0 new.0 shares.2 low)
  | inr (inr (inr (inr (inl looks)))) ↦ let h = verify_happens n (named_lease old.1 line) old.0 new.0 answer low few not_memory looks.1 in (inr (inr (inr (inr (inl (looks.0, h.0, looks.2))))), h.1)
  | inr (inr (inr (inr (inr (inl returns))))) ↦ (inr (inr (inr (inr (inr (inl (returns.0, returns.1, ap catalog_in returns.2)))))), same_low n old.0 new.0 returns.2 low)
  | inr (inr (inr (inr (inr (inr sweeps))))) ↦ let h = request_happens n old.0 new.0 Sweeps answer low few not_memory sweeps.1 in (inr (inr (inr (inr (inr (inr (sweeps.0, h.0, sweeps.2)))))), h.1)
]

pub all_happen : (n : ℕ) (old new : State BookState) (lines : List RowView) (answers : List Answer) → AreLow n old.0.slots → n + length lines ≤ 65536 → Plays BookActs old lines answers new → Plays CatalogLeads (catalog_of old) lines answers (catalog_of new)
all_happen n old new [] [] low few h = ap catalog_of h
all_happen n old new [] (r ∷ rs) low few h = absurd h
all_happen n old new (l ∷ ls) [] low few h = absurd h
all_happen n old new (l ∷ ls) (r ∷ rs) low few h =
    let here = row_happens n old h.0 l r low (omega (arith, few)) h.2 h.1 in
    (catalog_of h.0, here.0, h.2, all_happen (n + 1) h.0 new ls rs here.1 (omega (arith, few)) h.3)

-- ---- a run on a new book

of_replicate : {X : Type 0} (P : X → Type 0) (n k : ℕ) (x y : X) → P x → slice_get (replicate n x) k ≡ Some y → P y
of_replicate P zero k x y px at = absurd (let h = at in cc)
of_replicate P (suc n) zero x y px at = subst P (same_Some x y at) px
of_replicate P (suc n) (suc k) x y px at = of_replicate P n k x y px at

pub fresh_low : (slots : List SlotView) (n : ℕ) (s : SlotView) → slots ≡ replicate n s → s.generation ≡ 0 → s.bound ≡ 0 → AreLow 0 slots
fresh_low slots n s all first free k t at = of_replicate (IsLow 0) n k s t (omega (arith, first), omega (arith, free)) (ap (λ (xs : List SlotView). slice_get xs k) (sym all) ∙ at)

pub run_happens : {A E : Type 0} (Opens : Catalog → Type 0) (r : Result A E) (book : A → BookState) (answers : A → List Answer) (lines : List RowView) (first : BookState) → Opens first.catalog → AreLow 0 first.slots → length lines ≤ 65536
    → IfOk r (λ p. (left : Leases) × Plays BookActs (first, no_leases) lines (answers p) (book p, left))
    → IfOk r (λ p. (C : Catalog) × (left : Leases) × Opens C × Plays CatalogLeads (C, no_leases) lines (answers p) ((book p).catalog, left))
run_happens Opens (Ok p) book answers lines first opens fresh few h = (first.catalog, h.0, opens, all_happen 0 (first, no_leases) (book p, h.0) lines (answers p) fresh (omega (arith, few)) h.1)
run_happens Opens (Err e) book answers lines first opens fresh few h = tt
