-- Rows that are executed.
use Rattle.std.proofs.Common.{◌≡◌, ◌≢◌, ◌⊎◌, ◌<◌, ◌+◌, ◌∙◌, ◌++◌, ◌∷◌, [], ℕ, List, ap, append_assoc, arith, inl, inr, length, IfOk, Option, Some, None, Result, Ok, Err, refl, sym, take}
use Rattle.std.proofs.lemmas.List.{append-nil, take_more}
use Rattle.std.specs.FinMap as fmap
use Rattle.spec_lib.specs.Texts.{Text}
use Rattle.blob_digest.specs.declared.refusal.Refusal.{Refusal}
use Rattle.blob_digest.specs.declared.refusal.Refusal.TheVariants.{Memory}
use Rattle.store_api.specs.Answers.{Answer, Bytes, Leased, Refused}
use Rattle.store_api.specs.Commands.{Calls, Command, StoreRequest, Lease, Sweeps, Verifies}
use Rattle.script_player.specs.RowCommands.{command_of}
use Rattle.store_api.specs.LeaseViews.{LeaseView, new_lease}
use Rattle.script_player.specs.Leases.{Leases}
use Rattle.script_player.specs.RowViews.{IsRowAt}
use Rattle.script_player.specs.Plays.{LendsIfNameFree, Plays, ContinuesPlay, RowStep, State, VerifiesLease, lease_name_of, named_lease}
use Rattle.store_api.specs.Steps.{StepOf}
use Rattle.script_player.specs.Rows.{RowView}
use Rattle.store_api.specs.declared.verb.Verb.TheVariants as verb

-- a store refuses a lease, or memory runs out
pub lease_refused : {S : Type 0} (acts : S → StoreRequest → Answer → S → Type 0) (s t : S) (L M : Leases) (line : RowView) (refusal : Refusal) → line.verb ≡ verb.Lease → command_of line ≡ Ok (Some (Lease line.repo line.digest)) → named_lease L line ≡ None
    → M ≡ L → ((refusal ≡ Memory) × (t ≡ s)) ⊎ acts s (Calls (Lease line.repo line.digest)) (Refused refusal) t → ((refusal ≡ Memory) × ◌≡◌ {A = S × Leases} (t, M) (s, L)) ⊎ RowStep acts (s, L) line (Refused refusal) (t, M)
lease_refused acts s t L M line refusal is spells free same why = elim why [
  | inl memory ↦ inl (memory.0, λ i. (memory.1 i, same i))
  | inr does ↦ inr (inr (inl (is, spells, rw free (inr (refusal, does, refl, same)))))
]

-- a store leases a blob, and the lane keeps the lease
pub lease_lent : {S : Type 0} (acts : S → StoreRequest → Answer → S → Type 0) (s t : S) (L M : Leases) (line : RowView) (bytes : Text) (n : ℕ) → line.verb ≡ verb.Lease → command_of line ≡ Ok (Some (Lease line.repo line.digest)) → named_lease L line ≡ None
    → acts s (Calls (Lease line.repo line.digest)) (Bytes bytes) t → n ≡ length bytes → M ≡ fmap.insert L (lease_name_of line) (new_lease bytes) → RowStep acts (s, L) line (Leased n) (t, M)
lease_lent acts s t L M line bytes n is spells free does size kept = inr (inl (is, spells, rw free (inl (bytes, does, ap Leased size, kept))))

-- an `Ok` result has some leases after it
pub some_left : {A E B : Type 0} (P : A → B → Type 0) (r : Result A E) (b : B) → IfOk r (λ x. P x b) → IfOk r (λ x. (y : B) × P x y)
some_left P (Ok x) b h = (b, h)
some_left P (Err e) b h = tt

-- one more row is executed
pub one_played : {S : Type 0} (acts : S → StoreRequest → Answer → S → Type 0) (old mid new : State S) (lines : List RowView) (answers : List Answer) (line : RowView) (answer : Answer)
    → Plays acts old lines answers mid → RowStep acts mid line answer new → answer ≢ Refused Memory → Plays acts old (lines ++ line ∷ []) (answers ++ answer ∷ []) new
one_played acts old mid new [] [] line answer before here not_memory = (new, rw (← before) here, not_memory, refl)
one_played acts old mid new [] (r ∷ rs) line answer before here not_memory = absurd before
one_played acts old mid new (l ∷ ls) [] line answer before here not_memory = absurd before
one_played acts old mid new (l ∷ ls) (r ∷ rs) line answer before here not_memory =
    (before.0, before.1, before.2, one_played acts before.0 mid new ls rs line answer before.3 here not_memory)

-- rows were executed, and then one more
pub one_more : {S : Type 0} (acts : S → StoreRequest → Answer → S → Type 0) (old mid new : State S) (before answers : List Answer) (rows : List RowView) (row : RowView) (answer : Answer)
    → ContinuesPlay acts old before rows mid answers → RowStep acts mid row answer new → answer ≢ Refused Memory → ContinuesPlay acts old before (rows ++ row ∷ []) new (answers ++ answer ∷ [])
one_more acts old mid new before answers rows row answer so_far here not_memory first earlier played =
    rw (← append_assoc earlier rows (row ∷ [])) (one_played acts first mid new (earlier ++ rows) answers row answer (so_far first earlier played) here not_memory)

-- no row was executed yet
pub none_more : {S : Type 0} (acts : S → StoreRequest → Answer → S → Type 0) (old : State S) (before : List Answer) → ContinuesPlay acts old before [] old before
none_more acts old before first earlier played = rw (append-nil earlier) played

-- rows were executed, and others after them
pub more_on : {S : Type 0} (acts : S → StoreRequest → Answer → S → Type 0) (old mid new : State S) (before so_far answers : List Answer) (rows next : List RowView) → ContinuesPlay acts old before rows mid so_far → ContinuesPlay acts mid so_far next new answers → ContinuesPlay acts old before (rows ++ next) new answers
more_on acts old mid new before so_far answers rows next first_played then_played first earlier played =
    rw (← append_assoc earlier rows next) (then_played first (earlier ++ rows) (first_played first earlier played))

-- no row was executed before
pub from_start : {S : Type 0} (acts : S → StoreRequest → Answer → S → Type 0) (old new : State S) (before answers : List Answer) (rows : List RowView) → before ≡ [] → ContinuesPlay acts old before rows new answers → Plays acts old rows answers new
from_start acts old new before answers rows none played = played old [] (rw none refl)

-- each row has one answer
pub one_each : {S : Type 0} (acts : S → StoreRequest → Answer → S → Type 0) (old new : State S) (lines : List RowView) (answers : List Answer) → Plays acts old lines answers new → length answers ≡ length lines
one_each acts old new [] [] h = refl
one_each acts old new [] (r ∷ rs) h = absurd h
one_each acts old new (l ∷ ls) [] h = absurd h
one_each acts old new (l ∷ ls) (r ∷ rs) h = let rest = one_each acts h.0 new ls rs h.3 in omega (arith, rest)

-- the rows so far, and one more
pub rows_more : (rows : List RowView) (i : ℕ) (row : RowView) → i < length rows → IsRowAt rows i row → take (i + 1) rows ≡ take i rows ++ row ∷ []
rows_more rows i row within is = take_more rows i row within ∙ ap (λ r. take i rows ++ r ∷ []) (sym is)

-- ---- runs on a state that shows only a part of itself

module _ {S T : Type 0} (shown : S → T) (does : S → StoreRequest → Answer → S → Type 0) (acts : T → StoreRequest → Answer → T → Type 0) (tells : (old : S) (request : StoreRequest) (answer : Answer) (new : S) → does old request answer new → acts (shown old) request answer (shown new)) where
  abbrev shows : State S → State T
  shows s = (shown s.0, s.1)

  lends_through : (o : Option LeaseView) (old new : State S) (line : RowView) (answer : Answer) → LendsIfNameFree does o old line answer new → LendsIfNameFree acts o (shows old) line answer (shows new)
  lends_through (Some lease) old new line answer h = (h.0, ap shows h.1)
  lends_through None old new line answer (inl h) = inl (h.0, tells old.0 (Calls (Lease line.repo line.digest)) (Bytes h.0) new.0 h.1, h.2, h.3)
  lends_through None old new line answer (inr h) = inr (h.0, tells old.0 (Calls (Lease line.repo line.digest)) (Refused h.0) new.0 h.1, h.2, h.3)

  verifies_through : (o : Option LeaseView) (old new : S) (answer : Answer) → VerifiesLease does o old answer new → VerifiesLease acts o (shown old) answer (shown new)
  verifies_through None old new answer h = (h.0, ap shown h.1)
  verifies_through (Some lease) old new answer h = tells old (Verifies (length lease.bytes)) answer new h

  store_through : (o : Result (Option Command) Refusal) (old new : S) (answer : Answer) → StepOf does o old answer new → StepOf acts o (shown old) answer (shown new)
  store_through (Ok (Some command)) old new answer h = (h.0, tells old (Calls command) answer new h.1)
  store_through (Ok None) old new answer h = absurd h
  store_through (Err refusal) old new answer h = (h.0, ap shown h.1)

  row_through : (old new : State S) (line : RowView) (answer : Answer) → RowStep does old line answer new → RowStep acts (shows old) line answer (shows new)
  row_through old new line answer step = elim step [
    | inl store ↦ inl (store_through (command_of line) old.0 new.0 answer store.0, store.1)
    | inr (inl lends) ↦ inr (inl (lends.0, lends.1, lends_through (named_lease old.1 line) old new line answer lends.2))
    | inr (inr (inl reads)) ↦ inr (inr (inl (reads.0, reads.1, ap shows reads.2)))
    | inr (inr (inr (inl shares))) ↦ inr (inr (inr (inl (shares.0, shares.1, ap shown shares.2))))
    | inr (inr (inr (inr (inl looks)))) ↦ inr (inr (inr (inr (inl (looks.0, verifies_through (named_lease old.1 line) old.0 new.0 answer looks.1, looks.2)))))
    | inr (inr (inr (inr (inr (inl returns))))) ↦ inr (inr (inr (inr (inr (inl (returns.0, returns.1, ap shown returns.2))))))
    | inr (inr (inr (inr (inr (inr sweeps))))) ↦ inr (inr (inr (inr (inr (inr (sweeps.0, tells old.0 Sweeps answer new.0 sweeps.1, sweeps.2))))))
  ]

  pub plays_through : (old new : State S) (lines : List RowView) (answers : List Answer) → Plays does old lines answers new → Plays acts (shows old) lines answers (shows new)
  plays_through old new [] [] h = ap shows h
  plays_through old new [] (r ∷ rs) h = absurd h
  plays_through old new (l ∷ ls) [] h = absurd h
  plays_through old new (l ∷ ls) (r ∷ rs) h = (shows h.0, row_through old h.0 l r h.1, h.2, plays_through h.0 new ls rs h.3)
