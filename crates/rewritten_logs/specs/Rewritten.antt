-- What a start restores whose log was rewritten.
use Rattle.std.specs.Prelude.{◌≡◌, ◌++◌, ℕ, true, List, [], map}
use Rattle.std.specs.FinMap as fmap
use Rattle.ghost_log.specs.declared.view.Entry.{Entry}
use Rattle.ghost_log.specs.Entries.{IsPrefix}
use Rattle.locked_book.specs.CutLogs.{RestoresFirstSteps}
use Rattle.locked_book.specs.History.{steps_of}
use Rattle.locked_book.specs.Logging.{has_log}
use Rattle.locked_book.specs.Names.{StoreNames}
use Rattle.locked_book.specs.Restoring.{IsRestorable, opening_state, records_of}
use Rattle.log_records.specs.Changes.{Change}
use Rattle.log_records.specs.Laws.{AreChangesIn}
use Rattle.log_state.specs.Reading.{LeaveSameState}
use Rattle.rewritten_logs.specs.Linked.{AgreesByLinkedNotes}
use Rattle.spec_lib.specs.Texts.{Text}
use Rattle.store_model.specs.Catalog.{Tenant}
use Rattle.store_model.specs.Durable.{TakenSessions, after_changes, taken_after_steps}
use Rattle.store_model.specs.Histories.{State, Step}

-- the names of tenants
abbrev pub names_in : List Tenant → List Text
names_in tenants = map (λ t. t.name) tenants

-- Closed files replace the first bytes of what a store wrote, which are whole records. Either they are these bytes, or they are a base: it leaves the
-- same state as some files, of which the first replace written bytes, and the others were closed after them.
pub data IsReplacedBy (names : List Text) : List ℕ → List ℕ → Type 0 where
  Written : (bytes : List ℕ) (changes : List Change) → AreChangesIn bytes changes [] → IsReplacedBy names bytes bytes
  Replaced : (written files more base : List ℕ) → IsReplacedBy names written files → LeaveSameState names (files ++ more) base →
      IsReplacedBy names (written ++ more) base

-- A store restores first steps of a history, as its log was rewritten: the bytes are first bytes of what the store of the history wrote.
pub record IsRewrittenRestart (names : StoreNames) (history : List (Entry Step)) (bytes : List ℕ) (taken : TakenSessions) (s : State) : Type 0 where
  pub restores : RestoresFirstSteps names history bytes
  pub agrees : AgreesByLinkedNotes taken (after_changes (opening_state names) restores.kept) s.catalog

-- A store of the same tenants has the durable state of another one after some first steps, up to notes, if its log is the other's first bytes with a base
-- that replaces some of them.
abbrev pub RewrittenLogsRestart : Type 0
RewrittenLogsRestart = (names : StoreNames) (history : List (Entry Step)) (s : State) (other : StoreNames) (replayed : List (Entry Step)) (t : State)
    (written base rest : List ℕ) → IsRestorable names history s → IsRestorable other replayed t →
    has_log names.policy ≡ true → has_log other.policy ≡ true → other.setting.tenants ≡ names.setting.tenants →
    IsReplacedBy (names_in names.setting.tenants) written base → IsPrefix (written ++ rest) (records_of names history) →
    records_of other replayed ≡ base ++ rest →
    IsRewrittenRestart names history (written ++ rest) (taken_after_steps fmap.empty (steps_of replayed)) t
