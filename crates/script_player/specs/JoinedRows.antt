-- The rows of a script in several lists.
use Rattle.std.specs.Prelude.{◌≡◌, ℕ, List, [], ◌∷◌, ◌++◌, ◌<◌, length}
use Rattle.std.specs.List.{flat_map}
use Rattle.script_player.specs.Rows.{RowView}
use Rattle.script_player.specs.RowViews.{IsLaneAt, IsRowAt, borrowed_view}
use Rattle.script_player.specs.declared.row.BorrowedRow.{BorrowedRow}

-- the rows of all lists, one list after another
abbrev pub joined_rows : List (List RowView) → List RowView
joined_rows lists = flat_map (λ rows. rows) lists

-- a row is appended to the rows of all lists
abbrev pub AddsLast : List (List RowView) → BorrowedRow → List (List RowView) → Type 0
AddsLast old row new = joined_rows new ≡ joined_rows old ++ borrowed_view row ∷ []

-- the row at a place of all rows is the one at a place of one list
pub record IsInList (all : List RowView) (place : ℕ) (rows : List RowView) (rest : ℕ) : Type 0 where
  pub within : rest < length rows
  pub row_of : (row : RowView) → IsRowAt rows rest row → IsRowAt all place row
  pub lane_of : (lane : ℕ) → IsLaneAt rows rest lane → IsLaneAt all place lane
