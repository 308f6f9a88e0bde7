-- Records taken one by one from a reader.
use Rattle.std.proofs.Common.{◌≡◌, ◌⊎◌, ◌≤◌, ◌+◌, ◌++◌, ◌∷◌, [], ◌∙◌, ℕ, List, Some, None, true, map, length, inl, inr, ap, sym}
use Rattle.std.proofs.lemmas.List.{map-append}
use Rattle.csv.specs.Reading.{ReadRecord, default_config, strip_bom, took_first}
use Rattle.csv.specs.declared.parser.State.TheVariants as st
use Rattle.csv.specs.declared.reader.Reader.{Reader}
use Rattle.csv.proofs.ReadFacts.{rows-more}
use Rattle.spec_lib.specs.Texts.{Text}
use Rattle.blobctl.specs.Reading.{IsAfter}
use Rattle.blobctl.specs.Records.{Record, row_of}
use Rattle.script_player.specs.Rows.{RowView}
use Rattle.blobctl.specs.Script.{AreGoodRecords, BeginsWith, ExplainsRows, max_rows}
use Rattle.blobctl.specs.declared.fault.Fault.{Fault}
use Rattle.blobctl.specs.declared.fault.Fault.TheVariants.{BadRow, Memory}

-- one more record was taken
pub one_taken : (old new : Reader Text) (fields : Record) (script : Text) (before : List Record) → IsAfter script before old
    → ReadRecord (λ s. Some s) old new true fields → took_first new ≡ true → IsAfter script (before ++ fields ∷ []) new
one_taken old new fields script before h read first =
    let more = rows-more (λ (s : Text). Some s) old new fields default_config st.StartRecord (strip_bom script) h.rest before h.config h.source h.reached read in
    record {
      untrimmed = read.3 ∙ h.untrimmed;
      ready = inl first;
      config = read.2 ∙ h.config;
      rest = more.0;
      source = more.1;
      reached = more.2;
    }

-- the taken records are the first of the script
pub begins : (reader : Reader Text) (script : Text) (before : List Record) → IsAfter script before reader → BeginsWith script before
begins reader script before h = (reader.state, h.rest, h.reached)

-- a good record after good ones
pub one_good : (before : List Record) (rows : List RowView) (fields : Record) (line : RowView) → AreGoodRecords before rows → row_of fields ≡ Some line
    → AreGoodRecords (before ++ fields ∷ []) (rows ++ line ∷ [])
one_good before rows fields line good here =
    map-append row_of before (fields ∷ [])
    ∙ ap (λ x. x ++ row_of fields ∷ []) good
    ∙ ap (λ x. map Some rows ++ x ∷ []) here
    ∙ sym (map-append Some rows (line ∷ []))

-- a record without a row after good ones is the first bad one
pub explained : (script : Text) (before : List Record) (rows : List RowView) (fields : Record) (number : ℕ) (fault : Fault) → BeginsWith script (before ++ fields ∷ [])
    → AreGoodRecords before rows → number ≡ length before + 1 → length before ≤ max_rows
    → (fault ≡ Memory) ⊎ ((fault ≡ BadRow number) × (row_of fields ≡ None)) → ExplainsRows script fault
explained script before rows fields number fault first good place few why =
    elim why [
      | inl e ↦ rw e tt
      | inr b ↦ rw b.0 (record { before = before; rows = rows; bad = fields; begins = first; good = good; place = place; few = few; why = inl b.1 })
    ]
