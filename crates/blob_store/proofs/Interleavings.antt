-- The rows of workers are one legal history: those of several workers, by the steps of their desks, and those of one worker.
use Rattle.std.proofs.Common.{◌≡◌, ◌∙◌, ◌%◌, ℕ, zero, suc, List, [], ◌∷◌, ap, arith, get_or, length, refl, subst, sym}
use Rattle.std.proofs.lemmas.Bool.{eq-eqb}
use Rattle.std.proofs.lemmas.Nat.{mod_below}
use Rattle.ghost_log.specs.Entries.{entries_by, events_by}
use Rattle.ghost_log.proofs.Lists.{events_other, events_own}
use Rattle.locked_book.specs.History.{DeskView, IsWholeHistory, steps_of, steps_of_each}
use Rattle.locked_book.proofs.Wholes.{steps_beyond}
use Rattle.store_model.specs.Catalog.{Catalog}
use Rattle.store_model.specs.Histories.{LeadsTo, State, Step}
use Rattle.store_api.specs.Answers.{Answer}
use Rattle.script_player.specs.Leases.{Leases, no_leases}
use Rattle.script_player.specs.Plays.{Plays}
use Rattle.script_player.specs.Rows.{RowView}
use Rattle.script_player.specs.Shares.{own_answers}
use Rattle.script_player.proofs.WorkerRows.{own_all}
use Rattle.blob_store.specs.StoreBackends.{Work, WorkActs, work_of}
use Rattle.blob_store.specs.Workers.{HavePlayed, IsInterleaved, IsPlayed, empty_desk, zero_work}

-- ---- several workers

-- the steps of the desk at a place
own_at : (ds : List DeskView) (w : ℕ) → (get_or ds w empty_desk).trace.own ≡ get_or (steps_of_each ds) w []
own_at [] w = refl
own_at (d ∷ ds) zero = refl
own_at (d ∷ ds) (suc w) = own_at ds w

pub interleaved : (C : Catalog) (n : ℕ) (lines : List RowView) (ds : List DeskView) (answers : List Answer) (s : State) → HavePlayed C n lines ds answers → IsWholeHistory C s (steps_of_each ds) → IsInterleaved C n lines answers s.catalog
interleaved C n lines ds answers s have whole = record {
  order = whole.order;
  state = s;
  legal = whole.leads;
  left = refl;
  lanes = λ w lt.
      let desk = get_or ds w empty_desk in
      let here = have.played.each w [] (omega (arith, lt, have.size, have.played.as_many)) in
      (work_of desk, own_at ds w ∙ sym (whole.each w), subst (λ xs. IsPlayed n w lines (work_of desk) xs) (have.together.shares w lt) here.played);
  others = λ w above. whole.each w ∙ steps_beyond ds w (omega (arith, above, have.size));
}

-- ---- one worker

-- the steps of one writer are all steps
steps_of-own : (steps : List Step) → steps_of (entries_by 0 steps) ≡ steps
steps_of-own [] = refl
steps_of-own (step ∷ steps) = ap (λ xs. step ∷ xs) (steps_of-own steps)

-- one worker's replies are all replies
own_answers-all : (rows : List RowView) (answers : List Answer) → length answers ≡ length rows → own_answers 1 0 rows answers ≡ answers
own_answers-all [] [] size = refl
own_answers-all [] (a ∷ answers) size = absurd (omega (arith, size))
own_answers-all (row ∷ rows) [] size = absurd (omega (arith, size))
own_answers-all (row ∷ rows) (a ∷ answers) size =
    let nought : row.lane % 1 ≡ 0 = omega (arith, mod_below row.lane 1 (omega arith)) in
    rw (eq-eqb (row.lane % 1) 0 nought) (ap (λ xs. a ∷ xs) (own_answers-all rows answers (omega (arith, size))))

-- the steps of one worker that plays alone are one history
pub by_one : (C : Catalog) (rows : List RowView) (answers : List Answer) (work : Work) (left : Leases) (s : State) → length answers ≡ length rows → Plays WorkActs (zero_work, no_leases) rows answers (work, left) → LeadsTo C work.steps s → IsInterleaved C 1 rows answers s.catalog
by_one C rows answers work left s size plays leads = record {
  order = entries_by 0 work.steps;
  state = s;
  legal = subst (λ steps. LeadsTo C steps s) (sym (steps_of-own work.steps)) leads;
  left = refl;
  lanes = λ w lt. by w (omega (arith, lt));
  others = λ n above. events_other 0 n [] work.steps (λ e. absurd (omega (arith, above, e)));
}
  where
    played : IsPlayed 1 0 rows work (own_answers 1 0 rows answers)
    played = (left, subst (λ rs. Plays WorkActs (zero_work, no_leases) rs (own_answers 1 0 rows answers) (work, left)) (sym (own_all rows)) (subst (λ xs. Plays WorkActs (zero_work, no_leases) rows xs (work, left)) (sym (own_answers-all rows answers size)) plays))

    by : (w : ℕ) → w ≡ 0 → (work' : Work) × (work'.steps ≡ events_by w (entries_by 0 work.steps)) × IsPlayed 1 w rows work' (own_answers 1 w rows answers)
    by w is = subst (λ w. (work' : Work) × (work'.steps ≡ events_by w (entries_by 0 work.steps)) × IsPlayed 1 w rows work' (own_answers 1 w rows answers)) (sym is) (work, sym (events_own 0 [] work.steps), played)
