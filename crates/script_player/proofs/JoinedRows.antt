-- The rows of several lists.
use Rattle.std.proofs.Common.{◌≡◌, ◌<◌, ◌+◌, ◌∙◌, ◌++◌, ◌∷◌, [], ℕ, List, ap, append_assoc, arith, length, suc, sym, take, zero}
use Rattle.std.specs.Prelude.{get_or, set, OnOk, Result, Ok, Err}
use Rattle.std.proofs.lemmas.List.{append-nil, take_more}
use Rattle.std.proofs.lemmas.List.Concat.{get_or-flat_map}
use Rattle.script_player.specs.Rows.{RowView}
use Rattle.script_player.specs.JoinedRows.{IsInList, joined_rows}
use Rattle.script_player.specs.RowViews.{IsRowAt}
use Rattle.script_player.proofs.WorkerRows.{row_there, same_row}

-- one list more
pub joined_rows-push : (lists : List (List RowView)) (rows : List RowView) → joined_rows (lists ++ rows ∷ []) ≡ joined_rows lists ++ rows
joined_rows-push [] rows = append-nil rows
joined_rows-push (l ∷ ls) rows = ap (λ r. l ++ r) (joined_rows-push ls rows) ∙ sym (append_assoc l (joined_rows ls) rows)

-- a row more in the last list
pub joined_rows-last : (lists : List (List RowView)) (n : ℕ) (last : List RowView) (row : RowView) → n + 1 ≡ length lists → get_or lists n last ≡ last → joined_rows (set lists n (last ++ row ∷ [])) ≡ joined_rows lists ++ row ∷ []
joined_rows-last [] n last row is_last at = absurd (omega (arith, is_last))
joined_rows-last (l ∷ []) zero last row is_last at = append-nil (last ++ row ∷ []) ∙ ap (λ r. r ++ row ∷ []) (sym at ∙ sym (append-nil l))
joined_rows-last (l ∷ []) (suc n) last row is_last at = absurd (omega (arith, is_last))
joined_rows-last (l ∷ m ∷ ls) zero last row is_last at = absurd (omega (arith, is_last))
joined_rows-last (l ∷ m ∷ ls) (suc n) last row is_last at =
    ap (λ r. l ++ r) (joined_rows-last (m ∷ ls) n last row (omega (arith, is_last)) at) ∙ sym (append_assoc l (joined_rows (m ∷ ls)) (row ∷ []))

-- the rows of the lists so far, and those of one more
pub joined_rows-take : (lists : List (List RowView)) (n : ℕ) (rows : List RowView) → n < length lists → get_or lists n rows ≡ rows → joined_rows (take (n + 1) lists) ≡ joined_rows (take n lists) ++ rows
joined_rows-take lists n rows within at =
    ap joined_rows (take_more lists n rows within) ∙ ap (λ r. joined_rows (take n lists ++ r ∷ [])) at ∙ joined_rows-push (take n lists) rows

-- a row of a list is after the rows of the lists before it
pub row_in_list : (lists : List (List RowView)) (n place : ℕ) (rows : List RowView) (row : RowView) → n < length lists → get_or lists n rows ≡ rows → place < length rows → row ≡ get_or rows place row → row ≡ get_or (joined_rows lists) (length (joined_rows (take n lists)) + place) row
row_in_list lists n place rows row within at here is =
    let there = get_or-flat_map (λ (l : List RowView). l) lists n place rows row within (rw at here) in
    rw there (rw at is)

-- the place of a row in its own list, after the lists before it
pub in_list : (lists : List (List RowView)) (n rest place : ℕ) (rows : List RowView) → n < length lists → get_or lists n rows ≡ rows → rest < length rows → place ≡ length (joined_rows (take n lists)) + rest → place < length (joined_rows lists) → IsInList (joined_rows lists) place rows rest
in_list lists n rest place rows within at here behind inside =
    let row_of : (row : RowView) → IsRowAt rows rest row → IsRowAt (joined_rows lists) place row = λ row is. rw behind (row_in_list lists n rest rows row within at here is) in
    let there = row_there rows rest here in
    record {
      within = here;
      row_of = row_of;
      lane_of = λ lane is row is_at. is there.0 there.1 ∙ ap (λ (r : RowView). r.lane) (same_row (joined_rows lists) place there.0 row inside (row_of there.0 there.1) is_at);
    }

-- a row is appended to the last list, if that succeeds
pub added_last : {A E : Type 0} (r : Result A E) (lists : List (List RowView)) (n : ℕ) (last new : List RowView) (row : RowView) → n + 1 ≡ length lists → get_or lists n last ≡ last → OnOk r (new ≡ last ++ row ∷ []) → OnOk r (joined_rows (set lists n new) ≡ joined_rows lists ++ row ∷ [])
added_last (Ok x) lists n last new row is_last at added = rw added (joined_rows-last lists n last row is_last at)
added_last (Err e) lists n last new row is_last at added = tt
