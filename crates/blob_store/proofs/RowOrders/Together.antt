-- The rows that several workers play have an order.
use Rattle.std.proofs.Common.{◌≡◌, ◌<◌, ◌%◌, ◌==◌, ◌∷◌, [], ℕ, true, false, cond, List, length, map, Some, None, refl, sym, ap, ◌∙◌, subst, arith}
use Rattle.std.specs.List.{AllByRecursion, filter, sum_by, zip}
use Rattle.std.specs.List.Sorted.{IsPermutation}
use Rattle.std.specs.FinMap.{empty, get-empty}
use Rattle.std.proofs.lemmas.Bool.{eqb-true}
use Rattle.std.proofs.lemmas.List.{length-map}
use Rattle.std.proofs.lemmas.List.Sorted.{length_permutation, sum_by-IsPermutation}
use Rattle.std.proofs.lemmas.Map.Made.{keys_of-zip}
use Rattle.std.proofs.lemmas.Nat.{mod_below}
use Rattle.spec_lib.proofs.Lists.{filter-map}
use Rattle.spec_lib.proofs.Rows.{sum_by-map}
use Rattle.ghost_log.specs.Entries.{events_by}
use Rattle.store_model.specs.Catalog.{Catalog, session_number_cmp, opening}
use Rattle.store_model.specs.Histories.{Step, initial_state}
use Rattle.store_model.specs.Invariant.{Sound}
use Rattle.store_model.proofs.WholeCommands.Histories.{histories_are_runs}
use Rattle.store_api.specs.Answers.{Answer}
use Rattle.script_player.specs.Leases.{no_leases}
use Rattle.script_player.specs.Plays.{Plays}
use Rattle.script_player.specs.Rows.{RowView}
use Rattle.script_player.specs.Shares.{is_own, own_answers, own_rows}
use Rattle.locked_book.specs.History.{steps_of}
use Rattle.blob_store.specs.RowOrders.{IsContentionFreeAnswer, RequestLeads, RowsHaveOrders}
use Rattle.blob_store.specs.StoreBackends.{WorkActs}
use Rattle.blob_store.specs.Workers.{IsInterleaved, zero_work}
use Rattle.blob_store.proofs.RowOrders.ContentionFree.{calm_steps}
use Rattle.blob_store.proofs.RowOrders.KeptHands.{KeepsHands}
use Rattle.blob_store.proofs.RowOrders.Leases.{told_plays}
use Rattle.blob_store.proofs.RowOrders.Merging.{IsOrdered, merged}
use Rattle.blob_store.proofs.RowOrders.Orders.{permuted}
use Rattle.blob_store.proofs.RowOrders.Progress.{AreInProgress, AreHandsOf, AreOwn, Place}
use Rattle.blob_store.proofs.RowOrders.Rows.{AreLeft, rows_come}

abbrev Pair : Type 0
Pair = RowView × Answer

-- a worker's rows, each with its reply
abbrev own_pairs : ℕ → ℕ → List Pair → List Pair
own_pairs n w pairs = filter (λ p. is_own n w p.0) pairs

calm_pairs : (rows : List RowView) (answers : List Answer) → AllByRecursion IsContentionFreeAnswer answers → AllByRecursion (λ (p : Pair). IsContentionFreeAnswer p.1) (zip rows answers)
calm_pairs [] answers calm = tt
calm_pairs (row ∷ rows) [] calm = tt
calm_pairs (row ∷ rows) (answer ∷ answers) calm = (calm.0, calm_pairs rows answers calm.1)

all_own : (n w : ℕ) (pairs : List Pair) → AllByRecursion (λ (p : Pair). IsContentionFreeAnswer p.1) pairs → AreOwn n w (own_pairs n w pairs)
all_own n w [] calm = tt
all_own n w (p ∷ pairs) calm = elim (p.0.lane % n == w) as (λ b. (p.0.lane % n == w) ≡ b → AreOwn n w (cond b (p ∷ own_pairs n w pairs) (own_pairs n w pairs))) [
  | true ↦ λ is. ((eqb-true (p.0.lane % n) w is, calm.0), all_own n w pairs calm.1)
  | false ↦ λ is. all_own n w pairs calm.1
] refl

-- a worker's rows are those of its pairs
rows_of_pairs : (n w : ℕ) (rows : List RowView) (answers : List Answer) → length answers ≡ length rows → own_rows n w rows ≡ map (λ (p : Pair). p.0) (own_pairs n w (zip rows answers))
rows_of_pairs n w rows answers size = ap (own_rows n w) (sym (keys_of-zip rows answers size)) ∙ filter-map (is_own n w) (λ (p : Pair). p.0) (zip rows answers)

module _ (C : Catalog) (n : ℕ) (rows : List RowView) (answers : List Answer) (last : Catalog) (sound : Sound C) (size : length answers ≡ length rows) (calm : AllByRecursion IsContentionFreeAnswer answers) (together : IsInterleaved C n rows answers last) where
  -- all workers before the first step
  abbrev first_places : ℕ → Place
  first_places w = record { out = None; held = no_leases; rows = own_pairs n w (zip rows answers) }

  begins : (w : ℕ) → w < n → AreLeft no_leases (own_pairs n w (zip rows answers)) (events_by w together.order)
  begins w lt =
      let lane = together.lanes w lt in
      let come = rows_come (zero_work, no_leases) (lane.0, lane.2.0) (own_pairs n w (zip rows answers)) (subst (λ own. Plays WorkActs (zero_work, no_leases) own (own_answers n w rows answers) (lane.0, lane.2.0)) (rows_of_pairs n w rows answers size) lane.2.1) in
      subst (λ steps. AreLeft no_leases (own_pairs n w (zip rows answers)) steps) (sym come.1 ∙ lane.1) come.2

  going : AreInProgress n together.order first_places
  going = record { each = begins; others = together.others; own = λ w _. all_own n w (zip rows answers) (calm_pairs rows answers calm) }

  none_out : AreHandsOf n empty first_places
  none_out = record {
    lent = λ w t is. absurd cc;
    apart = λ v w t u a b same. absurd cc;
    owner = λ k out is. absurd (let h : None ≡ Some out = sym (get-empty session_number_cmp k) ∙ is in cc);
  }

  kept : KeepsHands empty C
  kept = record { sound = sound; held = λ k out is. absurd (let h : None ≡ Some out = sym (get-empty session_number_cmp k) ∙ is in cc) }

  pub ordered : IsOrdered n empty (initial_state C) (steps_of together.order) together.state together.legal first_places
  ordered = merged n together.order (initial_state C) together.state empty first_places kept going none_out together.legal

-- ---- all workers

module _ (rows : List RowView) (answers : List Answer) (size : length answers ≡ length rows) (order : List Pair) (same : IsPermutation (zip rows answers) order) where
  as_many : length order ≡ length rows
  as_many = length_permutation (zip rows answers) order same ∙ sym (length-map (zip rows answers) (λ (p : Pair). p.0)) ∙ ap length (keys_of-zip rows answers size)

  as_long : sum_by (λ (p : Pair). length p.0.body) order ≡ sum_by (λ (row : RowView). length row.body) rows
  as_long =
      sum_by-IsPermutation (λ (p : Pair). length p.0.body) (zip rows answers) order same
      ∙ sym (sum_by-map (λ (row : RowView). length row.body) (λ (p : Pair). p.0) (zip rows answers)) ∙ ap (sum_by (λ (row : RowView). length row.body)) (keys_of-zip rows answers size)

pub rows_have_orders : RowsHaveOrders
rows_have_orders tenants slots contents workers rows answers last sound some size few calm together =
    let C : Catalog = opening tenants slots contents in
    let steps : List Step = steps_of together.order in
    let one = ordered C workers rows answers last sound size calm together in
    let same : IsPermutation (zip rows answers) one.order = permuted (λ (p : Pair). p.0.lane % workers) workers (λ p. mod_below p.0.lane workers some) (zip rows answers) one.order one.each in
    let many = as_many rows answers size one.order same in
    let long = as_long rows answers size one.order same in
    let calm_all = calm_steps (initial_state C) steps together.state together.legal one.mild one.sound (let a = one.few in let b = few.number in omega (arith, a, b, many)) (let a = one.small in let b = few.bytes in omega (arith, a, b, long)) in
    let run = histories_are_runs tenants slots contents steps together.state one.events sound together.legal calm_all one.whole one.named in
    let plays = told_plays workers one.order one.events C together.state.catalog no_leases (λ w. no_leases) one.told run (λ name. refl) in
    record {
      order = one.order;
      reordered = record { same = same; each = one.each };
      left = plays.0;
      run = subst (λ (X : Catalog). Plays RequestLeads (C, no_leases) (map (λ (p : Pair). p.0) one.order) (map (λ (p : Pair). p.1) one.order) (X, plays.0)) together.left plays.1;
    }
