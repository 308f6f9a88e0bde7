-- The rows of a worker.
use Rattle.std.proofs.Common.{◌≡◌, ◌<◌, ◌≤◌, ◌+◌, ◌%◌, ◌==◌, ◌∙◌, ◌++◌, ◌∷◌, [], ℕ, List, true, false, cond, ap, arith, drop, get_or, inl, inr, length, length-append, not, refl, set, sym, take}
use Rattle.std.proofs.lemmas.Bool.{eq-eqb}
use Rattle.std.proofs.lemmas.Bool.Decides.{eqb_tells}
use Rattle.std.proofs.lemmas.Grind.{get_or-set_at}
use Rattle.std.proofs.lemmas.List.{append-nil, get_or-set_other, get_or_default, take-append-drop}
use Rattle.std.proofs.lemmas.List.Elements.{filter-append}
use Rattle.std.proofs.lemmas.List.Filters.{length-filter_both}
use Rattle.std.proofs.lemmas.Nat.{mod_below}
use Rattle.script_player.specs.RowViews.{IsLaneAt, IsRowAt}
use Rattle.script_player.specs.Rows.{RowView}
use Rattle.script_player.specs.Shares.{is_own, own_rows}
use Rattle.script_player.proofs.PlayedRows.{rows_more}

-- the rows of a worker, and one more
pub own_rows-push : (n w : ℕ) (lines : List RowView) (line : RowView) → own_rows n w (lines ++ line ∷ []) ≡ own_rows n w lines ++ cond {A = List RowView} (is_own n w line) (line ∷ []) []
own_rows-push n w lines line = filter-append (is_own n w) lines (line ∷ [])

-- one worker has all rows
pub own_all : (lines : List RowView) → own_rows 1 0 lines ≡ lines
own_all [] = refl
own_all (x ∷ lines) =
    let zero : x.lane % 1 ≡ 0 = omega (arith, mod_below x.lane 1 (omega arith)) in
    rw (eq-eqb (x.lane % 1) 0 zero) (ap (λ ys. x ∷ ys) (own_all lines))

-- the rows so far of a worker, and one more that is its own
pub own_more : (n w : ℕ) (rows : List RowView) (i : ℕ) (row : RowView) → i < length rows → IsRowAt rows i row → is_own n w row ≡ true → own_rows n w (take (i + 1) rows) ≡ own_rows n w (take i rows) ++ row ∷ []
own_more n w rows i row within is own =
    ap (own_rows n w) (rows_more rows i row within is) ∙ own_rows-push n w (take i rows) row ∙ ap (λ b. own_rows n w (take i rows) ++ cond {A = List RowView} b (row ∷ []) []) own

-- the rows so far of a worker, and one more that is not its own
pub own_less : (n w : ℕ) (rows : List RowView) (i : ℕ) (row : RowView) → i < length rows → IsRowAt rows i row → is_own n w row ≡ false → own_rows n w (take (i + 1) rows) ≡ own_rows n w (take i rows)
own_less n w rows i row within is own =
    ap (own_rows n w) (rows_more rows i row within is) ∙ own_rows-push n w (take i rows) row ∙ ap (λ b. own_rows n w (take i rows) ++ cond {A = List RowView} b (row ∷ []) []) own ∙ append-nil (own_rows n w (take i rows))

-- a worker has no more rows so far than in all
pub own_within : (n w : ℕ) (rows : List RowView) (i : ℕ) → length (own_rows n w (take i rows)) ≤ length (own_rows n w rows)
own_within n w rows i =
    let front = take i rows in
    let back = drop i rows in
    let both : length (own_rows n w rows) ≡ length (own_rows n w front) + length (own_rows n w back) = ap (λ ls. length (own_rows n w ls)) (sym (take-append-drop i rows)) ∙ ap length (filter-append (is_own n w) front back) ∙ length-append (own_rows n w front) (own_rows n w back) in
    omega (arith, both)

-- a worker has no more rows than there are
pub own_few : (n w : ℕ) (rows : List RowView) → length (own_rows n w rows) ≤ length rows
own_few n w rows = let both = length-filter_both (is_own n w) (λ row. not (is_own n w row)) (λ row. refl) rows in omega (arith, both)

-- a list has one row at a place
pub same_row : (rows : List RowView) (i : ℕ) (a b : RowView) → i < length rows → IsRowAt rows i a → IsRowAt rows i b → a ≡ b
same_row rows i a b within at_a at_b = at_a ∙ get_or_default rows i a b within ∙ sym at_b

-- a list has a row at each place within it
pub row_there : (rows : List RowView) (i : ℕ) → i < length rows → (row : RowView) × IsRowAt rows i row
row_there [] i within = absurd (omega (arith, within))
row_there (r ∷ rows) i within = let row = get_or (r ∷ rows) i r in (row, get_or_default (r ∷ rows) i r row within)

-- a row's lane decides its worker
pub own_by_lane : (n w : ℕ) (rows : List RowView) (i lane : ℕ) (row : RowView) → IsLaneAt rows i lane → IsRowAt rows i row → is_own n w row ≡ (lane % n == w)
own_by_lane n w rows i lane row is at = ap (λ l. l % n == w) (sym (is row at))

-- the counts of the workers' rows so far, and of one more, which its lane's worker has
pub counts_more : (n : ℕ) (counts : List ℕ) (rows : List RowView) (i : ℕ) (row : RowView) → i < length rows → IsRowAt rows i row → row.lane % n < length counts → ((w : ℕ) → w < n → get_or counts w 0 ≡ length (own_rows n w (take i rows)))
    → (w : ℕ) → w < n → get_or (set counts (row.lane % n) (get_or counts (row.lane % n) 0 + 1)) w 0 ≡ length (own_rows n w (take (i + 1) rows))
counts_more n counts rows i row within is there counted w less =
    let k = row.lane % n in
    let more = get_or counts k 0 + 1 in
    elim (eqb_tells k w) [
      | inl own ↦
          let size = ap length (own_more n w rows i row within is own.0) ∙ length-append (own_rows n w (take i rows)) (row ∷ []) in
          get_or-set_at counts k w more 0 (sym own.1) there ∙ ap (λ j. get_or counts j 0 + 1) own.1 ∙ ap (λ m. m + 1) (counted w less) ∙ sym size
      | inr other ↦ get_or-set_other counts k w more 0 (λ e. other.1 (sym e)) ∙ counted w less ∙ ap length (sym (own_less n w rows i row within is other.0))
    ]
