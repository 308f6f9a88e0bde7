-- The sums of the desks of all workers.
use Rattle.std.proofs.Common.{◌≡◌, ◌∙◌, ◌+◌, ◌<◌, ◌++◌, ◌∷◌, [], ℕ, List, ap, arith, get_or, length, length-append, refl, subst, sym}
use Rattle.std.specs.List.{sum_by, zip}
use Rattle.std.proofs.Math.Seq.{get_or-append_seam}
use Rattle.std.proofs.lemmas.List.{get_or_append_left}
use Rattle.std.proofs.lemmas.List.Sums.{sum_by-cons}
use Rattle.blob_store.specs.StoreBackends.{Work, WorkActs, work_of}
use Rattle.locked_book.specs.History.{DeskView, IsFreshDesk, amounts_of}
use Rattle.store_model.specs.Catalog.{Catalog}
use Rattle.store_model.specs.Amounts.{Amounts, zero_amounts, add_amounts, sum_of}
use Rattle.blob_store.specs.Workers.{EachHasReplies, IsSettledFor, HasPlayed, empty_desk, zero_work}
use Rattle.locked_book.specs.declared.desk.Settled.{Settled}
use Rattle.blob_store.proofs.Places.{at_pushed}
use Rattle.store_api.specs.Answers.{Answer}
use Rattle.store_api.specs.Commands.{Command}
use Rattle.script_player.specs.Counts.{abandon_count, chunk_size, closed_size, rows_amount, row_amount}
use Rattle.script_player.specs.Leases as leases
use Rattle.script_player.specs.Plays.{Plays, State}
use Rattle.script_player.specs.Rows.{RowView}
use Rattle.script_player.specs.Shares.{AreMergedByRow, own_answers, own_rows}
use Rattle.script_player.proofs.Counting.{abandoned_counted, bytes_counted, closed_counted, commands_counted}
use Rattle.script_player.proofs.PlayedRows.{one_each}
use Rattle.script_player.proofs.Partitions.{sum_of_workers, worker_within}

-- a fresh desk has no amounts and no steps
pub fresh_work : (d : DeskView) → IsFreshDesk d → work_of d ≡ zero_work
fresh_work d fresh = λ i. record { amounts = fresh.0 i; steps = fresh.1 i }

-- one worker more
pub played_more : (C : Catalog) (n : ℕ) (lines : List RowView) (ds : List DeskView) (ls : List (List Answer)) (d : DeskView) (l : List Answer) → EachHasReplies C n lines ds ls → HasPlayed C n (length ls) lines d l → EachHasReplies C n lines (ds ++ d ∷ []) (ls ++ l ∷ [])
played_more C n lines ds ls d l are here =
    let seam : get_or (ds ++ d ∷ []) (length ls) empty_desk ≡ d = ap (λ k. get_or (ds ++ d ∷ []) k empty_desk) (sym are.as_many) ∙ get_or-append_seam ds d [] empty_desk in
    record {
      as_many = omega (arith, length-append ds (d ∷ []), length-append ls (l ∷ []), are.as_many);
      each = at_pushed (λ w answers. HasPlayed C n w lines (get_or (ds ++ d ∷ []) w empty_desk) answers) ls l
          (λ w e lt. subst (λ x. HasPlayed C n w lines x (get_or ls w e)) (sym (get_or_append_left ds (d ∷ []) empty_desk w (omega (arith, lt, are.as_many)))) (are.each w e lt))
          (subst (λ x. HasPlayed C n (length ls) lines x l) (sym seam) here);
    }

-- ---- one quantity of all desks

sum_zero : {X : Type 0} (xs : List X) → sum_by (λ _. 0) xs ≡ 0
sum_zero [] = refl
sum_zero (x ∷ xs) = let rest = sum_zero xs in let all = sum_by-cons (λ _. 0) x xs in omega (arith, rest, all)

module _ (f : Amounts → ℕ) (none : f zero_amounts ≡ 0) (adds : (a b : Amounts) → f (add_amounts a b) ≡ f a + f b) where
  of_all : (ds : List DeskView) → f (sum_of (amounts_of ds)) ≡ sum_by (λ (d : DeskView). f d.amounts) ds
  of_all [] = none
  of_all (d ∷ ds) = let here = adds d.amounts (sum_of (amounts_of ds)) in let rest = of_all ds in let all = sum_by-cons (λ (d : DeskView). f d.amounts) d ds in omega (arith, here, rest, all)

  module _ (C : Catalog) (lines : List RowView) (ds : List DeskView) (lists : List (List Answer)) (answers : List Answer) (some : 0 < length ds) (are : EachHasReplies C (length ds) lines ds lists) (together : AreMergedByRow (length ds) lines (λ w. get_or lists w []) answers) where
    -- each desk's part of it is that of its worker's rows
    all_counted : (value : Command → Answer → ℕ)
        → ((old new : State Work) (own : List RowView) (given : List Answer) → Plays WorkActs old own given new → f new.0.amounts ≡ f old.0.amounts + rows_amount value own given)
        → f (sum_of (amounts_of ds)) ≡ rows_amount value lines answers
    all_counted value counts =
        of_all ds ∙ sum_of_workers (row_amount value) (λ (d : DeskView). f d.amounts) ds empty_desk lines (λ w. get_or lists w []) answers some together (λ w lt.
        let played = (are.each w [] (omega (arith, lt, are.as_many))).played in
        let here = counts (zero_work, leases.no_leases) (work_of (get_or ds w empty_desk), played.0) (own_rows (length ds) w lines) (get_or lists w []) played.1 in
        omega (arith, here, none))

    -- or nothing, if the rows have none
    all_unchanged : (value : Command → Answer → ℕ)
        → ((old new : State Work) (own : List RowView) (given : List Answer) → Plays WorkActs old own given new → rows_amount value own given ≡ 0 → f new.0.amounts ≡ f old.0.amounts)
        → rows_amount value lines answers ≡ 0 → f (sum_of (amounts_of ds)) ≡ 0
    all_unchanged value counts nought =
        of_all ds ∙ sum_of_workers (λ _. 0) (λ (d : DeskView). f d.amounts) ds empty_desk lines (λ w. get_or lists w []) answers some together (λ w lt.
        let played = (are.each w [] (omega (arith, lt, are.as_many))).played in
        let within = worker_within (row_amount value) (length ds) w lines answers together.one_each in
        let mine = ap (λ xs. rows_amount value (own_rows (length ds) w lines) xs) (together.shares w lt) in
        let here = counts (zero_work, leases.no_leases) (work_of (get_or ds w empty_desk), played.0) (own_rows (length ds) w lines) (get_or lists w []) played.1 (omega (arith, mine, within, nought)) in
        here ∙ none ∙ sym (sum_zero (zip (own_rows (length ds) w lines) (get_or lists w [])))) ∙ sum_zero (zip lines answers)

-- the desks of all workers have the amounts of the rows
pub are_settled : (C : Catalog) (n : ℕ) (lines : List RowView) (ds : List DeskView) (lists : List (List Answer)) (answers : List Answer) (settled : Settled) → length ds ≡ n → 0 < n → EachHasReplies C n lines ds lists → AreMergedByRow n lines (λ w. get_or lists w []) answers
    → (settled.commands ≡ (sum_of (amounts_of ds)).commands) × (settled.received ≡ (sum_of (amounts_of ds)).received) × (settled.closed ≡ (sum_of (amounts_of ds)).closed) × (settled.abandoned ≡ (sum_of (amounts_of ds)).abandoned)
    → IsSettledFor lines answers settled
are_settled C n lines ds lists answers settled size some are together sums =
    subst (λ k. 0 < k → EachHasReplies C k lines ds lists → AreMergedByRow k lines (λ w. get_or lists w []) answers → IsSettledFor lines answers settled) size
    (λ some are together. record {
      commands = sums.0 ∙ all_counted (λ a. a.commands) refl (λ a b. refl) C lines ds lists answers some are together (λ _ _. 1) (commands_counted WorkActs (λ a. a.amounts.commands) (λ s request answer t h. h.amounts.commands));
      received = sums.1 ∙ all_counted (λ a. a.received) refl (λ a b. refl) C lines ds lists answers some are together (λ command _. chunk_size command) (bytes_counted WorkActs (λ a. a.amounts.received) (λ s request answer t h. h.amounts.received));
      closed = sums.2 ∙ all_counted (λ a. a.closed) refl (λ a b. refl) C lines ds lists answers some are together closed_size (closed_counted WorkActs (λ a. a.amounts.closed) (λ s request answer t h. h.amounts.closed));
      abandoned = λ none. sums.3 ∙ all_unchanged (λ a. a.abandoned) refl (λ a b. refl) C lines ds lists answers some are together (λ command _. abandon_count command) (abandoned_counted WorkActs (λ a. a.amounts.abandoned) (λ s request answer t h. h.amounts.abandoned)) none;
    })
    some are together

-- each worker has a reply for each of its rows
pub whole_lists : (C : Catalog) (n : ℕ) (lines : List RowView) (ds : List DeskView) (ls : List (List Answer)) → EachHasReplies C n lines ds ls → (w : ℕ) → w < length ls → length (get_or ls w []) ≡ length (own_rows n w lines)
whole_lists C n lines ds ls are w lt =
    let played = (are.each w [] lt).played in
    one_each WorkActs (zero_work, leases.no_leases) (work_of (get_or ds w empty_desk), played.0) (own_rows n w lines) (get_or ls w []) played.1

-- and these are the replies at its rows
pub each_played : (C : Catalog) (n : ℕ) (lines : List RowView) (ds : List DeskView) (ls : List (List Answer)) (answers : List Answer) → length ls ≡ n → EachHasReplies C n lines ds ls → AreMergedByRow n lines (λ w. get_or ls w []) answers
    → (w : ℕ) → w < n → (desk : DeskView) × HasPlayed C n w lines desk (own_answers n w lines answers)
each_played C n lines ds ls answers size are together w lt =
    (get_or ds w empty_desk, subst (λ xs. HasPlayed C n w lines (get_or ds w empty_desk) xs) (together.shares w lt) (are.each w [] (omega (arith, lt, size))))
