-- Replies of several workers, removed from the fronts of their queues, row after row.
use Rattle.std.proofs.Common.{◌≡◌, ◌<◌, ◌≤◌, ◌+◌, ◌%◌, ◌++◌, ◌∷◌, [], ◌∙◌, ℕ, Bool, true, false, cond, List, drop, ap, arith, get_or, length, map, refl, set, sym, Option, Some, None, Global, deque_len}
use Rattle.std.proofs.lemmas.Bool.{eqb-true, eq-eqb, true≢false}
use Rattle.std.proofs.lemmas.List.{drop_all, drop_more, length-set, get_or-set_same, get_or-set_other, get_or-map, map-set, nil_from_length}
use Rattle.std.proofs.lemmas.Nat.{mod_below}
use Rattle.std.specs.Prelude.{MatchOption, slice_set}
use Rattle.std.specs.Option.{option_map, option_to_list}
use Rattle.std.specs.List.{filter, zip}
use Rattle.std.specs.declared.collections.VecDeque.{VecDeque}
use Rattle.store_api.specs.Answers.{Answer, answer_of, answers_of}
use Rattle.script_player.specs.Rows.{RowView}
use Rattle.script_player.specs.Shares.{AreMergedByRow, TakesFirst, answers_by_row, next_and_rest, is_own, own_rows, own_answers}
use Rattle.script_player.specs.RowViews.{IsLaneAt, IsRowAt}
use Rattle.store_api.specs.declared.reply.Reply.{Reply}
use Rattle.script_player.proofs.WorkerRows.{row_there}

-- the answers at a worker's rows, the first one apart
own_answers-cons : (n w : ℕ) (line : RowView) (lines : List RowView) (answer : Answer) (answers : List Answer)
    → own_answers n w (line ∷ lines) (answer ∷ answers) ≡ cond (is_own n w line) (answer ∷ own_answers n w lines answers) (own_answers n w lines answers)
own_answers-cons n w line lines answer answers =
    let rest : List (RowView × Answer) = filter (λ p. is_own n w p.0) (zip lines answers) in
    elim (is_own n w line) as (λ b. map (λ (p : RowView × Answer). p.1) (cond b ((line, answer) ∷ rest) rest) ≡ cond b (answer ∷ map (λ (p : RowView × Answer). p.1) rest) (map (λ (p : RowView × Answer). p.1) rest)) [
      | true ↦ refl
      | false ↦ refl
    ]

-- each worker has an answer for each of its rows
abbrev HaveAllAnswers : ℕ → List RowView → List (List Answer) → Type 0
HaveAllAnswers n rows lists = (w : ℕ) → w < n → length (get_or lists w []) ≡ length (own_rows n w rows)

-- a row more of a worker, or of another
own_size : (n w : ℕ) (row : RowView) (rows : List RowView) (b : Bool) → is_own n w row ≡ b → length (own_rows n w (row ∷ rows)) ≡ cond b 1 0 + length (own_rows n w rows)
own_size n w row rows true is = rw is omega arith
own_size n w row rows false is = rw is omega arith

-- the next answer of a row's worker is removed
module _ (n : ℕ) (row : RowView) (rows : List RowView) (lists : List (List Answer)) (size : length lists ≡ n) (some : 0 < n) (whole : HaveAllAnswers n (row ∷ rows) lists) where
  abbrev own : ℕ
  own = row.lane % n

  abbrev left : List Answer → List (List Answer)
  left rest = set lists own rest

  within : own < n
  within = mod_below row.lane n some

  here : (w : ℕ) (rest : List Answer) → is_own n w row ≡ true → get_or (left rest) w [] ≡ rest
  here w rest is =
      let e : own ≡ w = eqb-true own w is in
      ap (λ x. get_or (left rest) x []) (sym e) ∙ get_or-set_same lists own rest [] (omega (arith, within, size))

  elsewhere : (w : ℕ) (rest : List Answer) → is_own n w row ≡ false → get_or (left rest) w [] ≡ get_or lists w []
  elsewhere w rest is = get_or-set_other lists own w rest [] (λ e. true≢false (sym (eq-eqb own w (sym e)) ∙ is))

  first : (w : ℕ) (answer : Answer) (rest : List Answer) → get_or lists own [] ≡ answer ∷ rest → is_own n w row ≡ true → get_or lists w [] ≡ answer ∷ rest
  first w answer rest is own_is =
      let e : own ≡ w = eqb-true own w own_is in
      ap (λ x. get_or lists x []) (sym e) ∙ is

  left_whole : (answer : Answer) (rest : List Answer) → get_or lists own [] ≡ answer ∷ rest → HaveAllAnswers n rows (left rest)
  left_whole answer rest is w lt = by_case (is_own n w row) refl
    where
      by_case : (b : Bool) → is_own n w row ≡ b → length (get_or (left rest) w []) ≡ length (own_rows n w rows)
      by_case true own_is =
          let was = ap length (first w answer rest is own_is) in
          let more = own_size n w row rows true own_is in
          ap length (here w rest own_is) ∙ omega (arith, whole w lt, was, more)
      by_case false own_is =
          let same = own_size n w row rows false own_is in
          ap length (elsewhere w rest own_is) ∙ omega (arith, whole w lt, same)

  step : ((rest : List Answer) → HaveAllAnswers n rows (left rest) → AreMergedByRow n rows (λ w. get_or (left rest) w []) (answers_by_row n rows (left rest)))
      → (answers : List Answer) → get_or lists own [] ≡ answers → AreMergedByRow n (row ∷ rows) (λ w. get_or lists w []) (next_and_rest answers (λ rest. answers_by_row n rows (left rest)))
  step follows [] is =
      let mine : is_own n own row ≡ true = eq-eqb own own refl in
      let more = own_size n own row rows true mine in
      absurd (omega (arith, whole own within, ap length is, more))
  step follows (answer ∷ rest) is =
      let after = follows rest (left_whole answer rest is) in
      record {
        one_each = omega (arith, after.one_each);
        shares = λ w lt. by_worker after w lt (is_own n w row) refl ∙ sym (own_answers-cons n w row rows answer (answers_by_row n rows (left rest)));
      }
    where
      by_worker : AreMergedByRow n rows (λ w. get_or (left rest) w []) (answers_by_row n rows (left rest)) → (w : ℕ) → w < n → (b : Bool) → is_own n w row ≡ b
          → get_or lists w [] ≡ cond (is_own n w row) (answer ∷ own_answers n w rows (answers_by_row n rows (left rest))) (own_answers n w rows (answers_by_row n rows (left rest)))
      by_worker after w lt true own_is = rw own_is (first w answer rest is own_is ∙ ap (λ xs. answer ∷ xs) (sym (here w rest own_is) ∙ after.shares w lt))
      by_worker after w lt false own_is = rw own_is (sym (elsewhere w rest own_is) ∙ after.shares w lt)

-- if each worker has an answer for each of its rows, the answers by row are those of all rows
pub all_by_row : (n : ℕ) (rows : List RowView) (lists : List (List Answer)) → length lists ≡ n → 0 < n → HaveAllAnswers n rows lists → AreMergedByRow n rows (λ w. get_or lists w []) (answers_by_row n rows lists)
all_by_row n [] lists size some whole = record {
  one_each = refl;
  shares = λ w lt. nil_from_length (get_or lists w []) (whole w lt);
}
all_by_row n (row ∷ rows) lists size some whole =
    step n row rows lists size some whole
    (λ rest left. all_by_row n rows (set lists (row.lane % n) rest) (length-set lists (row.lane % n) rest ∙ size) some left)
    (get_or lists (row.lane % n) []) refl

-- a worker's first reply is removed from its queue
pub taken : (queues : List (VecDeque Reply Global)) (w : ℕ) (old v : VecDeque Reply Global) (r : Option Reply) → w < length queues → old ≡ get_or queues w old → old.items ≡ option_to_list r ++ v.items
    → MatchOption r ((deque_len old ≡ 0) × (deque_len v ≡ 0)) (λ _. deque_len v + 1 ≡ deque_len old) → length old.items ≡ deque_len old
    → TakesFirst (map (λ (q : VecDeque Reply Global). answers_of q.items) queues) (map (λ (q : VecDeque Reply Global). answers_of q.items) (slice_set queues w v)) w (option_map answer_of r)
taken queues w old v None within at parts empty size =
    get_or-map (λ (q : VecDeque Reply Global). answers_of q.items) queues w old [] within ∙ ap (λ (q : VecDeque Reply Global). answers_of q.items) (sym at) ∙ ap answers_of (nil_from_length old.items (size ∙ empty.0))
taken queues w old v (Some reply) within at parts cases size = (
  answers_of v.items,
  get_or-map (λ (q : VecDeque Reply Global). answers_of q.items) queues w old [] within ∙ ap (λ (q : VecDeque Reply Global). answers_of q.items) (sym at) ∙ ap answers_of parts,
  map-set (λ (q : VecDeque Reply Global). answers_of q.items) queues w v,
)

-- no row is left
pub none_left : (n place : ℕ) (rows : List RowView) (lists : List (List Answer)) → length rows ≤ place → answers_by_row n (drop place rows) lists ≡ []
none_left n place rows lists behind = ap (λ rs. answers_by_row n rs lists) (drop_all place rows behind)

-- the next row takes the next answer of its worker
row_taken : (n place : ℕ) (rows : List RowView) (row : RowView) (lists new : List (List Answer)) (reply : Option Reply) → place < length rows → IsRowAt rows place row → TakesFirst lists new (row.lane % n) (option_map answer_of reply)
    → MatchOption reply (answers_by_row n (drop place rows) lists ≡ []) (λ reply. answers_by_row n (drop place rows) lists ≡ answer_of reply ∷ answers_by_row n (drop (place + 1) rows) new)
row_taken n place rows row lists new reply within at takes = by_reply reply takes
  where
    next : answers_by_row n (drop place rows) lists ≡ answers_by_row n (row ∷ drop (place + 1) rows) lists
    next = ap (λ rs. answers_by_row n rs lists) (drop_more rows place row within ∙ ap (λ x. x ∷ drop (place + 1) rows) (sym at))

    follow : List Answer → List Answer
    follow answers = next_and_rest answers (λ rest. answers_by_row n (drop (place + 1) rows) (set lists (row.lane % n) rest))

    by_reply : (reply : Option Reply) → TakesFirst lists new (row.lane % n) (option_map answer_of reply) → MatchOption reply (answers_by_row n (drop place rows) lists ≡ []) (λ reply. answers_by_row n (drop place rows) lists ≡ answer_of reply ∷ answers_by_row n (drop (place + 1) rows) new)
    by_reply None none = next ∙ ap follow none
    by_reply (Some reply) takes = next ∙ ap follow takes.1 ∙ ap (λ xs. answer_of reply ∷ answers_by_row n (drop (place + 1) rows) xs) (sym takes.2)

-- the same, by the lane of the row
pub next_taken : (n place : ℕ) (rows : List RowView) (lane : ℕ) (lists new : List (List Answer)) (reply : Option Reply) → place < length rows → IsLaneAt rows place lane → TakesFirst lists new (lane % n) (option_map answer_of reply)
    → MatchOption reply (answers_by_row n (drop place rows) lists ≡ []) (λ reply. answers_by_row n (drop place rows) lists ≡ answer_of reply ∷ answers_by_row n (drop (place + 1) rows) new)
next_taken n place rows lane lists new reply within at takes =
    let row = row_there rows place within in
    row_taken n place rows row.0 lists new reply within row.1 (rw (← at row.0 row.1) takes)
