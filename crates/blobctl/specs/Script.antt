-- The rows of a script, and its first bad row.
use Rattle.std.specs.Prelude.{⊤, ◌≡◌, ◌⊎◌, ◌≤◌, ℕ, ◌+◌, List, [], ◌∷◌, ◌++◌, length, map, Some, None}
use Rattle.csv.specs.Reading.{AreRecords, Reached, default_config, strip_bom}
use Rattle.csv.specs.declared.parser.State.{State}
use Rattle.csv.specs.declared.parser.State.TheVariants as st
use Rattle.spec_lib.specs.Texts.{Text}
use Rattle.blobctl.specs.declared.fault.Fault.{Fault}
use Rattle.blobctl.specs.declared.fault.Fault.TheVariants.{BadRow, Read, Write, Memory}
use Rattle.blobctl.specs.Records.{Record, row_of}
use Rattle.script_player.specs.Rows.{RowView}

-- these are all the records of the script (RFC 4180): no header row, no trimming, without the byte order mark
abbrev pub AreRecordsOf : Text → List Record → Type 0
AreRecordsOf script records = AreRecords default_config st.StartRecord (strip_bom script) records

-- the script begins with these records
abbrev pub BeginsWith : Text → List Record → Type 0
BeginsWith script records = (s : State) × (rest : Text) × Reached default_config st.StartRecord (strip_bom script) records s rest

-- each of these records is good, and these are their rows
abbrev pub AreGoodRecords : List Record → List RowView → Type 0
AreGoodRecords records rows = map row_of records ≡ map Some rows

-- the most rows of a script
abbrev pub max_rows : ℕ
max_rows = 65536

-- these rows are the script's, one for each of its records
pub record AreRowsOf (script : Text) (rows : List RowView) : Type 0 where
  pub records : List Record
  pub all : AreRecordsOf script records
  pub good : AreGoodRecords records rows
  pub few : length records ≤ max_rows

-- the record of this number, counted from 1, is the script's first bad one: it has no row, or is one too many
pub record IsFirstBad (script : Text) (number : ℕ) : Type 0 where
  pub before : List Record
  pub rows : List RowView
  pub bad : Record
  pub begins : BeginsWith script (before ++ bad ∷ [])
  pub good : AreGoodRecords before rows
  pub place : number ≡ length before + 1
  pub few : length before ≤ max_rows
  pub why : (row_of bad ≡ None) ⊎ (number ≡ max_rows + 1)

-- a fault of the rows: a number is that of the first bad row
abbrev pub ExplainsRows : Text → Fault → Type 0
ExplainsRows script (BadRow n) = IsFirstBad script n
ExplainsRows script Memory = ⊤
ExplainsRows script Read = ⊥
ExplainsRows script Write = ⊥

-- the row of this record was added to the rows
abbrev pub AddsRow : Record → List RowView → List RowView → Type 0
AddsRow fields old new = (line : RowView) × (row_of fields ≡ Some line) × (new ≡ old ++ line ∷ [])

-- memory ran out, or the record of this number is bad
abbrev pub ExplainsRow : Record → ℕ → Fault → Type 0
ExplainsRow fields number e = (e ≡ Memory) ⊎ ((e ≡ BadRow number) × (row_of fields ≡ None))
