-- Sums over the rows of all workers.
use Rattle.std.proofs.Common.{◌≡◌, ◌≢◌, ◌<◌, ◌≤◌, ◌+◌, ◌%◌, ◌==◌, ◌∙◌, ◌∷◌, [], ℕ, Bool, List, true, false, cond, ap, arith, get_or, length, map, refl, sym, take}
use Prim.Native.Nat.{zero, suc}
use Rattle.std.specs.List.{filter, sum_by, zip}
use Rattle.std.proofs.lemmas.Bool.{eqb-true, eq-eqb, true≢false}
use Rattle.std.proofs.lemmas.List.{take_all, take_more}
use Rattle.std.proofs.lemmas.List.Sums.{sum_by_push, sum_by-cons}
use Rattle.std.proofs.lemmas.Nat.{mod_below}
use Rattle.store_api.specs.Answers.{Answer}
use Rattle.script_player.specs.Rows.{RowView}
use Rattle.script_player.specs.Shares.{AreMergedByRow, is_own, own_rows, own_answers}

-- an amount, counted once for each number below this one that is its key
abbrev weigh : ℕ → ℕ → ℕ → ℕ
weigh k v zero = 0
weigh k v (suc m) = weigh k v m + cond (k == m) v 0

weigh_none : (k v m : ℕ) → m ≤ k → weigh k v m ≡ 0
weigh_none k v zero le = refl
weigh_none k v (suc m) le =
    let rest : weigh k v m ≡ 0 = weigh_none k v m (omega (arith, le)) in
    elim (k == m) as (λ b. (k == m) ≡ b → weigh k v m + cond b v 0 ≡ 0) [
      | true ↦ λ is. let e : k ≡ m = eqb-true k m is in absurd (omega (arith, le, e))
      | false ↦ λ _. omega (arith, rest)
    ] refl

weigh_once : (k v m : ℕ) → k < m → weigh k v m ≡ v
weigh_once k v zero lt = absurd (omega (arith, lt))
weigh_once k v (suc m) lt =
    elim (k == m) as (λ b. (k == m) ≡ b → weigh k v m + cond b v 0 ≡ v) [
      | true ↦ λ is. let e : k ≡ m = eqb-true k m is in let rest : weigh k v m ≡ 0 = weigh_none k v m (omega (arith, e)) in omega (arith, rest)
      | false ↦ λ is. let other : k ≢ m = λ e. true≢false (sym (eq-eqb k m e) ∙ is) in let rest : weigh k v m ≡ v = weigh_once k v m (omega (arith, lt, other)) in omega (arith, rest)
    ] refl

module _ {X : Type 0} (key g : X → ℕ) where
  -- the sum of the amounts of one key
  abbrev part : ℕ → List X → List X
  part w xs = filter (λ x. key x == w) xs

  sum_none : (xs : List X) → sum_by (λ x. weigh (key x) (g x) 0) xs ≡ 0
  sum_none [] = refl
  sum_none (x ∷ xs) =
      let all = sum_by-cons (λ x. weigh (key x) (g x) 0) x xs in
      let rest = sum_none xs in
      omega (arith, all, rest)

  part-cons : (w : ℕ) (x : X) (xs : List X) → sum_by g (part w (x ∷ xs)) ≡ cond (key x == w) (g x) 0 + sum_by g (part w xs)
  part-cons w x xs = elim (key x == w) as (λ b. sum_by g (cond b (x ∷ part w xs) (part w xs)) ≡ cond b (g x) 0 + sum_by g (part w xs)) [
    | true ↦ sum_by-cons g x (part w xs)
    | false ↦ omega arith
  ]

  -- one number more adds the amounts of its key
  sum_more : (m : ℕ) (xs : List X) → sum_by (λ x. weigh (key x) (g x) (suc m)) xs ≡ sum_by (λ x. weigh (key x) (g x) m) xs + sum_by g (part m xs)
  sum_more m [] = omega arith
  sum_more m (x ∷ xs) =
      let rest = sum_more m xs in
      let all = sum_by-cons (λ x. weigh (key x) (g x) (suc m)) x xs in
      let less = sum_by-cons (λ x. weigh (key x) (g x) m) x xs in
      let here = part-cons m x xs in
      omega (arith, rest, all, less, here)

  -- keys below a number count once
  sum_all : (m : ℕ) (xs : List X) → ((x : X) → key x < m) → sum_by (λ x. weigh (key x) (g x) m) xs ≡ sum_by g xs
  sum_all m [] below = refl
  sum_all m (x ∷ xs) below =
      let rest = sum_all m xs below in
      let here = weigh_once (key x) (g x) m (below x) in
      let all = sum_by-cons (λ x. weigh (key x) (g x) m) x xs in
      let last = sum_by-cons g x xs in
      omega (arith, rest, here, all, last)

  module _ {D : Type 0} (h : D → ℕ) (ds : List D) (d : D) (xs : List X) (each : (w : ℕ) → w < length ds → h (get_or ds w d) ≡ sum_by g (part w xs)) where
    sum_so_far : (m : ℕ) → m ≤ length ds → sum_by h (take m ds) ≡ sum_by (λ x. weigh (key x) (g x) m) xs
    sum_so_far zero le = sym (sum_none xs)
    sum_so_far (suc m) le =
        let within : m < length ds = omega (arith, le) in
        let before = sum_so_far m (omega (arith, le)) in
        let next : suc m ≡ m + 1 = omega arith in
        let front = ap (λ k. sum_by h (take k ds)) next ∙ ap (sum_by h) (take_more ds m d within) ∙ sum_by_push h (take m ds) (get_or ds m d) in
        let here = each m within in
        let more = sum_more m xs in
        omega (arith, before, front, here, more)

    -- A list that has, at each number, the sum of the amounts with this key, has the sum of all amounts.
    sum_of_parts : ((x : X) → key x < length ds) → sum_by h ds ≡ sum_by g xs
    sum_of_parts below = ap (sum_by h) (sym (take_all (length ds) ds (omega arith))) ∙ sum_so_far (length ds) (omega arith) ∙ sum_all (length ds) xs below

-- a worker's rows with its answers are those of all rows with their answers that are its own
own_pairs : (n w : ℕ) (lines : List RowView) (answers : List Answer) → length answers ≡ length lines → zip (own_rows n w lines) (own_answers n w lines answers) ≡ filter (λ p. is_own n w p.0) (zip lines answers)
own_pairs n w [] answers size = refl
own_pairs n w (line ∷ lines) [] size = absurd (omega (arith, size))
own_pairs n w (line ∷ lines) (answer ∷ answers) size =
    let rest = own_pairs n w lines answers (omega (arith, size)) in
    let pairs : List (RowView × Answer) = filter (λ p. is_own n w p.0) (zip lines answers) in
    elim (is_own n w line) as (λ b. zip (cond b (line ∷ own_rows n w lines) (own_rows n w lines)) (map (λ (p : RowView × Answer). p.1) (cond b ((line, answer) ∷ pairs) pairs)) ≡ cond b ((line, answer) ∷ pairs) pairs) [
      | true ↦ ap (λ ps. (line, answer) ∷ ps) rest
      | false ↦ rest
    ]

-- the sum over filtered items is at most the sum over all
sum_within : {X : Type 0} (p : X → Bool) (g : X → ℕ) (xs : List X) → sum_by g (filter p xs) ≤ sum_by g xs
sum_within p g [] = omega arith
sum_within p g (x ∷ xs) =
    let rest = sum_within p g xs in
    let all = sum_by-cons g x xs in
    elim (p x) as (λ b. sum_by g (cond b (x ∷ filter p xs) (filter p xs)) ≤ sum_by g (x ∷ xs)) [
      | true ↦ let kept = sum_by-cons g x (filter p xs) in omega (arith, rest, all, kept)
      | false ↦ omega (arith, rest, all)
    ]

-- the amount of a worker's rows is at most that of all rows
pub worker_within : (g : RowView × Answer → ℕ) (n w : ℕ) (lines : List RowView) (answers : List Answer) → length answers ≡ length lines → sum_by g (zip (own_rows n w lines) (own_answers n w lines answers)) ≤ sum_by g (zip lines answers)
worker_within g n w lines answers size =
    let within = sum_within (λ (p : RowView × Answer). is_own n w p.0) g (zip lines answers) in
    let same = ap (sum_by g) (own_pairs n w lines answers size) in
    omega (arith, within, same)

-- if each worker's number is the sum over its rows with its answers, the sum of the numbers is that over all rows with the
-- answers in their order
pub sum_of_workers : {D : Type 0} (g : RowView × Answer → ℕ) (h : D → ℕ) (ds : List D) (d : D) (lines : List RowView) (of_worker : ℕ → List Answer) (answers : List Answer)
    → 0 < length ds → AreMergedByRow (length ds) lines of_worker answers → ((w : ℕ) → w < length ds → h (get_or ds w d) ≡ sum_by g (zip (own_rows (length ds) w lines) (of_worker w)))
    → sum_by h ds ≡ sum_by g (zip lines answers)
sum_of_workers g h ds d lines of_worker answers some together each =
    let n = length ds in
    sum_of_parts (λ p. p.0.lane % n) g h ds d (zip lines answers)
    (λ w lt. each w lt ∙ ap (λ xs. sum_by g (zip (own_rows n w lines) xs)) (together.shares w lt) ∙ ap (sum_by g) (own_pairs n w lines answers together.one_each))
    (λ p. mod_below p.0.lane n some)
