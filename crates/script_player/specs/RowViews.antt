-- Rows as contracts see them, without where their bytes are stored.
use Rattle.std.specs.Prelude.{◌≡◌, ℕ, List, get_or}
use Rattle.script_player.specs.Rows.{RowView}
use Rattle.script_player.specs.declared.row.Row.{Row}
use Rattle.script_player.specs.declared.row.BorrowedRow.{BorrowedRow}

-- the view of a row
abbrev pub row_view : Row → RowView
row_view r = record { lane = r.lane; verb = r.verb; repo = r.repo.items; key = r.key.items; digest = r.digest.items; range = r.range.items; body = r.body.items }

-- the view of a borrowed row
abbrev pub borrowed_view : BorrowedRow → RowView
borrowed_view r = record { lane = r.lane; verb = r.verb; repo = r.repo.now; key = r.key.now; digest = r.digest.now; range = r.range.now; body = r.body.now }

-- a list has this row at this place, counted from 0
abbrev pub IsRowAt : List RowView → ℕ → RowView → Type 0
IsRowAt rows place row = row ≡ get_or rows place row

-- the row at this place has this lane
abbrev pub IsLaneAt : List RowView → ℕ → ℕ → Type 0
IsLaneAt rows place lane = (row : RowView) → IsRowAt rows place row → lane ≡ row.lane
