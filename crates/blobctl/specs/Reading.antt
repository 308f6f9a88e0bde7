-- A reader of records in the middle of a script. No public contract cites this.
use Rattle.std.specs.Prelude.{◌≡◌, Bool, true, false, List, [], ◌∷◌, ◌++◌, Some}
use Rattle.csv.specs.Reading.{Ready, Reached, default_config, source_of, strip_bom}
use Rattle.csv.specs.declared.parser.State.TheVariants as st
use Rattle.csv.specs.declared.reader.Reader.{Reader}
use Rattle.csv.specs.declared.reader.Trim.TheVariants as trim
use Rattle.spec_lib.specs.Texts.{Text}
use Rattle.blobctl.specs.Records.{Record}
use Rattle.blobctl.specs.Script.{AreRecordsOf}

-- the reader has taken exactly these records of the script
pub record IsAfter (script : Text) (before : List Record) (reader : Reader Text) : Type 0 where
  pub untrimmed : reader.trim ≡ trim.None
  pub ready : Ready reader
  pub config : reader.config ≡ default_config
  pub rest : Text
  pub source : source_of (λ s. Some s) reader ≡ Some rest
  pub reached : Reached default_config st.StartRecord (strip_bom script) before reader.state rest

-- if a record was found, the reader has taken it after those that it had taken
abbrev pub TakesNext : Reader Text → Reader Text → Record → Bool → Type 0
TakesNext old new fields found =
    (script : Text) → (before : List Record) → IsAfter script before old → found ≡ true → IsAfter script (before ++ fields ∷ []) new

-- if no record was found, the reader had taken all records of the script
abbrev pub IsAtLast : Reader Text → Bool → Type 0
IsAtLast old found = (script : Text) → (before : List Record) → IsAfter script before old → found ≡ false → AreRecordsOf script before
