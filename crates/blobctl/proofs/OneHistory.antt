-- The rows of one worker are a history: each row's command is one step, or a check-out and the step that ends it at once.
use Rattle.std.proofs.Common.{◌≡◌, ℕ, ◌+◌, List, [], ◌∷◌, ◌++◌, length, true, false, Option, Some, None, Result, Ok, Err, refl, sym, ap, ◌∙◌, subst, inl, inr, append_assoc}
use Rattle.std.specs.List.{AllByRecursion}
use Rattle.std.proofs.lemmas.List.{append-nil}
use Rattle.blob_digest.specs.declared.range.ByteRange.{ByteRange}
use Rattle.blob_digest.specs.declared.refusal.Refusal.{Refusal}
use Rattle.spec_lib.specs.Texts.{Text}
use Rattle.store_model.specs.Amounts.{Amounts, add_amounts}
use Rattle.store_model.specs.Catalog.{Catalog, HandRecord}
use Rattle.store_model.specs.Commands as model
use Rattle.store_model.specs.Commands.{Outcome, take}
use Rattle.store_model.specs.Histories.{AreSteps, FinishCall, MayLeadTo, CommandCall, PutBackCall, State, Step, TakeCall, initial_state, step_amounts}
use Rattle.store_model.specs.Runs as runs
use Rattle.store_model.proofs.Commands.ByHand.{append_by_hand, append_is, append_refused, close_by_hand, close_refused, refused_by_hand}
use Rattle.store_api.specs.Answers.{Answer}
use Rattle.store_api.specs.CommandAnswers.{command_answer}
use Rattle.store_api.specs.Commands.{Append, Calls, Close, Command, StoreRequest, is_command}
use Rattle.script_player.specs.RowCommands.{command_of}
use Rattle.script_player.specs.Counts.{chunk_size, closed_size, request_amount}
use Rattle.script_player.specs.Leases.{Leases, no_leases}
use Rattle.script_player.specs.Plays as plays
use Rattle.script_player.specs.Plays.{Plays}
use Rattle.store_api.specs.Steps.{StepOf}
use Rattle.script_player.specs.Rows.{RowView}
use Rattle.script_player.proofs.PlayedRows.{one_each}
use Rattle.locked_book.specs.History.{filled_hand}
use Rattle.blob_store.specs.OneText.{NeitherLeaseNorSweep}
use Rattle.blob_store.specs.StoreBackends.{AreCommandSteps, Work, WorkActs}
use Rattle.blob_store.specs.Workers.{IsInterleaved, zero_work}
use Rattle.blob_store.proofs.Interleavings.{by_one}
use Rattle.blob_store.proofs.OneText.RowSteps.{store_row}
use Rattle.blobctl.specs.Played.{CatalogLeads, outcome_result}
use Rattle.blobctl.proofs.ScriptRuns.{asked}

-- ---- steps

-- the state with this catalog, in which these amounts were counted
abbrev state : Catalog → Amounts → State
state C totals = record { catalog = C; totals = totals }

-- steps from a state to this catalog
abbrev Leave : State → List Step → Catalog → Type 0
Leave s steps C' = (totals : Amounts) × AreSteps s steps (state C' totals)

and_then : (s m t : State) (steps more : List Step) → AreSteps s steps m → AreSteps m more t → AreSteps s (steps ++ more) t
and_then s m t [] more h k = subst (λ x. AreSteps x more t) h k
and_then s m t (step ∷ steps) more h k = (h.0, h.1, and_then h.0 m t steps more h.2 k)

one_step : (s : State) (step : Step) (C' : Catalog) → MayLeadTo s step C' → Leave s (step ∷ []) C'
one_step s step C' leaves = (add_amounts s.totals (step_amounts step), (state C' (add_amounts s.totals (step_amounts step)), record { leaves = leaves; counts = refl }, refl))

two_steps : (s : State) (step last : Step) (C1 C' : Catalog) → MayLeadTo s step C1 → ((totals : Amounts) → MayLeadTo (state C1 totals) last C') → Leave s (step ∷ last ∷ []) C'
two_steps s step last C1 C' leaves ends =
    let totals : Amounts = add_amounts s.totals (step_amounts step) in
    let rest = one_step (state C1 totals) last C' (ends totals) in
    (rest.0, (state C1 totals, record { leaves = leaves; counts = refl }, rest.1))

-- ---- a command

module _ (s : State) (answer : Answer) (C' : Catalog) where
  abbrev C : Catalog
  C = s.catalog

  -- a command's steps, with this reply
  abbrev Made : Command → Type 0
  Made command = (steps : List Step) × AreCommandSteps command answer steps × Leave s steps C'

  -- its reply and its catalog, by its outcome
  abbrev Comes : Command → Outcome runs.Answer → Type 0
  Comes command o = (answer, C') ≡ outcome_result C (runs.map_outcome (command_answer command) o)

  may : (command : Command) (r : Result runs.Answer Refusal) → runs.IsCommandCase C command r C' → MayLeadTo s (CommandCall command r) C'
  may command (Ok a) h = h
  may command (Err e) h = inl h

  module _ (r : Text) (n : ℕ) (g : Option ByteRange) (b : Text) where
    append_made : Comes (Append r n g b) (runs.map_outcome runs.Number (model.append C r n g b)) → Made (Append r n g b)
    append_made comes = by (take C r n g (length b)) refl
      where
        put : (hand : HandRecord) (C1 : Catalog) → take C r n g (length b) ≡ Ok (hand, C1) → (o : Outcome ℕ) → model.append C r n g b ≡ o → Comes (Append r n g b) (runs.map_outcome runs.Number o) → Made (Append r n g b)
        put hand C1 is (Ok y) done h = (
          TakeCall r n g (length b) (Ok hand) ∷ PutBackCall (filled_hand hand b) (Ok y.0) ∷ [],
          inr (inl (hand, Ok y.0, refl, ap (λ p. p.0) h)),
          two_steps s (TakeCall r n g (length b) (Ok hand)) (PutBackCall (filled_hand hand b) (Ok y.0)) C1 C' is (λ totals. append_by_hand C C1 r n g b hand is ∙ done ∙ (λ i. Ok (y.0, sym (ap (λ p. p.1) h) i))),
        )
        put hand C1 is (Err e) done h = absurd (let k = sym (append_is C C1 r n g b hand is) ∙ done in cc)

        by : (o : Outcome HandRecord) → take C r n g (length b) ≡ o → Made (Append r n g b)
        by (Ok x) is = put x.0 x.1 is (model.append C r n g b) refl comes
        by (Err e) is =
            let h : Comes (Append r n g b) (Err e) = subst (λ o. Comes (Append r n g b) (runs.map_outcome runs.Number o)) (append_refused C r n g b e is) comes in
            (TakeCall r n g (length b) (Err e) ∷ [], inl (e, refl, ap (λ p. p.0) h), one_step s (TakeCall r n g (length b) (Err e)) C' (inl is, ap (λ p. p.1) h))

    close_made : (d : Text) → Comes (Close r n d g b) (runs.map_outcome runs.Number (model.close C r n d g b)) → Made (Close r n d g b)
    close_made d comes = by (take C r n g (length b)) refl
      where
        finished : (hand : HandRecord) (C1 : Catalog) → take C r n g (length b) ≡ Ok (hand, C1) → (o : Outcome ℕ) → model.close C r n d g b ≡ o → Comes (Close r n d g b) (runs.map_outcome runs.Number o) → Made (Close r n d g b)
        finished hand C1 is (Ok y) done h = (
          TakeCall r n g (length b) (Ok hand) ∷ FinishCall (filled_hand hand b) d (Ok y.0) ∷ [],
          inr (inl (hand, Ok y.0, refl, ap (λ p. p.0) h)),
          two_steps s (TakeCall r n g (length b) (Ok hand)) (FinishCall (filled_hand hand b) d (Ok y.0)) C1 C' is (λ totals. close_by_hand C C1 r n g b hand is d ∙ done ∙ (λ i. Ok (y.0, sym (ap (λ p. p.1) h) i))),
        )
        finished hand C1 is (Err e) done h = (
          TakeCall r n g (length b) (Ok hand) ∷ FinishCall (filled_hand hand b) d (Err e) ∷ [],
          inr (inl (hand, Err e, refl, ap (λ p. p.0) h)),
          two_steps s (TakeCall r n g (length b) (Ok hand)) (FinishCall (filled_hand hand b) d (Err e)) C1 C' is (λ totals. ((λ _. close_by_hand C C1 r n g b hand is d ∙ done), ap (λ p. p.1) h ∙ sym (refused_by_hand C C1 r n g b hand is))),
        )

        by : (o : Outcome HandRecord) → take C r n g (length b) ≡ o → Made (Close r n d g b)
        by (Ok x) is = finished x.0 x.1 is (model.close C r n d g b) refl comes
        by (Err e) is =
            let h : Comes (Close r n d g b) (Err e) = subst (λ o. Comes (Close r n d g b) (runs.map_outcome runs.Number o)) (close_refused C r n g b e is d) comes in
            (TakeCall r n g (length b) (Err e) ∷ [], inl (e, refl, ap (λ p. p.0) h), one_step s (TakeCall r n g (length b) (Err e)) C' (inl is, ap (λ p. p.1) h))

  made : (command : Command) → Comes command (runs.outcome false C command) → Made command
  made (Append r n g b) comes = append_made r n g b comes
  made (Close r n d g b) comes = close_made r n g b d comes
  made command comes =
      let x = asked C C' command answer (runs.outcome false C command) refl comes in
      (CommandCall command x.0 ∷ [], (x.0, refl, x.2), one_step s (CommandCall command x.0) C' (may command x.0 x.1))

-- ---- rows

-- the work of a request whose steps these are
abbrev work_after : Work → StoreRequest → Answer → List Step → Work
work_after old request answer steps = record {
  amounts = record {
    commands = old.amounts.commands + request_amount (λ _ _. 1) request answer;
    received = old.amounts.received + request_amount (λ command _. chunk_size command) request answer;
    closed = old.amounts.closed + request_amount closed_size request answer;
    abandoned = old.amounts.abandoned;
  };
  steps = old.steps ++ steps;
}

-- a row's steps, and the work that they add to earlier work
record Works (s : State) (o : Result (Option Command) Refusal) (answer : Answer) (C' : Catalog) : Type 0 where
  steps : List Step
  leave : Leave s steps C'
  work : (old : Work) → (new : Work) × StepOf WorkActs o old answer new × (new.steps ≡ old.steps ++ steps)

row_works : (s : State) (o : Result (Option Command) Refusal) (answer : Answer) (C' : Catalog) → StepOf CatalogLeads o s.catalog answer C' → Works s o answer C'
row_works s (Ok (Some command)) answer C' h =
    let m = made s answer C' command h.1 in
    record {
      steps = m.0;
      leave = m.2;
      work = λ old. (work_after old (Calls command) answer m.0, (h.0, record { amounts = record { commands = refl; received = refl; closed = refl; abandoned = λ _. refl }; steps = (m.0, m.1, refl) }), refl);
    }
row_works s (Ok None) answer C' h = absurd h
row_works s (Err e) answer C' h = record { steps = []; leave = (s.totals, λ i. state (h.1 i) s.totals); work = λ old. (old, (h.0, refl), sym (append-nil old.steps)) }

-- the same for several rows
record AllWork (s : State) (rows : List RowView) (answers : List Answer) (C' : Catalog) : Type 0 where
  steps : List Step
  leave : Leave s steps C'
  work : (old : Work) → (new : Work) × Plays WorkActs (old, no_leases) rows answers (new, no_leases) × (new.steps ≡ old.steps ++ steps)

rows_work : (s : State) (leases : Leases) (rows : List RowView) (answers : List Answer) (new : plays.State Catalog) → AllByRecursion (λ row. is_command row.verb ≡ true) rows → Plays CatalogLeads (s.catalog, leases) rows answers new → AllWork s rows answers new.0
rows_work s leases [] [] new commands h = record { steps = []; leave = (s.totals, λ i. state (h i).0 s.totals); work = λ old. (old, refl, sym (append-nil old.steps)) }
rows_work s leases [] (a ∷ answers) new commands h = absurd h
rows_work s leases (row ∷ rows) [] new commands h = absurd h
rows_work s leases (row ∷ rows) (a ∷ answers) new commands h =
    let mid = h.0 in
    let here = row_works s (command_of row) a mid.0 (store_row CatalogLeads (s.catalog, leases) mid row a commands.0 h.1).0 in
    let rest = rows_work (state mid.0 here.leave.0) mid.1 rows answers new commands.1 h.3 in
    record {
      steps = here.steps ++ rest.steps;
      leave = (rest.leave.0, and_then s (state mid.0 here.leave.0) (state new.0 rest.leave.0) here.steps rest.steps here.leave.1 rest.leave.1);
      work = λ old.
          let first = here.work old in
          let more = rest.work first.0 in
          (more.0, ((first.0, no_leases), inl (first.1, refl), h.2, more.1), more.2 ∙ ap (λ xs. xs ++ rest.steps) first.2 ∙ append_assoc old.steps here.steps rest.steps);
    }

-- the rows of one worker are one history with no other steps
pub one_history : (first last : Catalog) (left : Leases) (rows : List RowView) (answers : List Answer) → NeitherLeaseNorSweep rows → Plays CatalogLeads (first, no_leases) rows answers (last, left) → IsInterleaved first 1 rows answers last
one_history first last left rows answers commands run =
    let all = rows_work (initial_state first) no_leases rows answers (last, left) commands run in
    let work = all.work zero_work in
    by_one first rows answers work.0 no_leases (state last all.leave.0) (one_each CatalogLeads (first, no_leases) (last, left) rows answers run) work.1
    (subst (λ steps. AreSteps (initial_state first) steps (state last all.leave.0)) (sym work.2) all.leave.1)
