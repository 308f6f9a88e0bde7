-- Rows whose fields are stored in one text.
use Rattle.std.specs.Prelude.{◌≡◌, ◌≤◌, ◌++◌, ℕ, true, length, slice_range}
use Rattle.spec_lib.specs.Texts.{Text}
use Rattle.script_player.specs.Rows.{RowView, has_needed_fields}
use Rattle.script_player.specs.RowViews.{borrowed_view}
use Rattle.script_player.specs.declared.places.Places.{Places}
use Rattle.script_player.specs.declared.row.BorrowedRow.{BorrowedRow}

-- a text begins with another
abbrev pub IsExtendedTo : Text → Text → Type 0
IsExtendedTo old new = (more : Text) × (new ≡ old ++ more)

-- the row whose fields are at these places of a text
abbrev pub row_at_places : Text → Places → RowView
row_at_places text at = record {
  lane = at.lane;
  verb = at.verb;
  repo = slice_range text at.start at.repo;
  key = slice_range text at.repo at.key;
  digest = slice_range text at.key at.digest;
  range = slice_range text at.digest at.range;
  body = slice_range text at.range at.body;
}

-- the places are in order within the text, and the fields fit the row's command
pub record ArePlacesWithin (text : Text) (at : Places) : Type 0 where
  pub repo : at.start ≤ at.repo
  pub key : at.repo ≤ at.key
  pub digest : at.key ≤ at.digest
  pub range : at.digest ≤ at.range
  pub body : at.range ≤ at.body
  pub all : at.body ≤ length text
  pub fit : let row = row_at_places text at in has_needed_fields row.verb row.repo row.key row.digest row.range row.body ≡ true

-- a field is appended to a text, and `end` is the new length
abbrev pub AddsField : Text → Text → Text → ℕ → Type 0
AddsField old field new end = (new ≡ old ++ field) × (end ≡ length new)

-- a text has a row at these places
abbrev pub HoldsRow : Text → Places → BorrowedRow → Type 0
HoldsRow text at row = ArePlacesWithin text at × (row_at_places text at ≡ borrowed_view row)
