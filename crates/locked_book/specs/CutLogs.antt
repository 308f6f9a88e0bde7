-- What the first bytes of a store's log restore, such as those that a crash leaves.
use Rattle.std.specs.Prelude.{◌≡◌, ◌++◌, ℕ, Bool, true, false, List, [], is_some, length, take}
use Rattle.std.specs.FinMap as fmap
use Rattle.ghost_log.specs.declared.view.Entry.{Entry}
use Rattle.ghost_log.specs.Entries.{IsPrefix}
use Rattle.log_records.specs.Changes as logged
use Rattle.log_records.specs.Laws.{AreChangesIn}
use Rattle.noted_logs.specs.Noted.{HaveSameNotes}
use Rattle.store_model.specs.Catalog.{Catalog}
use Rattle.store_model.specs.Durable.{Agrees, Change, DurableState, TakenSessions, after_changes, changes_of, taken_after_steps}
use Rattle.store_model.specs.Histories.{State, Step}
use Rattle.store_model.specs.Recovery.{SurvivesCrash}
use Rattle.locked_book.specs.History.{steps_of}
use Rattle.locked_book.specs.Logging.{has_log}
use Rattle.locked_book.specs.Names.{StoreNames}
use Rattle.locked_book.specs.Restoring.{IsRestorable, logged_changes, opening_state, records_of}

-- the changes of these entries
abbrev pub changes_in : StoreNames → List (Entry Step) → List Change
changes_in names entries = changes_of names.setting.tenants (steps_of entries)

-- the changes of these entries, as the log describes them
abbrev pub logged_in : StoreNames → List (Entry Step) → List logged.Change
logged_in names entries = logged_changes names.longest (steps_of entries)

-- The bytes are read as the first changes of a history, with a rest that no record begins. A store that starts with
-- these changes has its state after some first steps of the history. If the bytes have all records of some first
-- entries, the changes of these entries are among them.
pub record RestoresFirstSteps (names : StoreNames) (history : List (Entry Step)) (bytes : List ℕ) : Type 0 where
  pub kept : List Change
  pub lost : List Change
  pub rest : List ℕ
  pub split : changes_in names history ≡ kept ++ lost
  pub read : AreChangesIn bytes (take (length kept) (logged_in names history)) rest
  pub survives : SurvivesCrash (opening_state names) names.opening [] (steps_of history) kept
  pub complete : (first : List (Entry Step)) → IsPrefix first history → IsPrefix (records_of names first) bytes →
      IsPrefix (changes_in names first) kept

-- The first bytes of a log restore the state after some first steps.
abbrev pub CutLogsRestore : Type 0
CutLogsRestore = (names : StoreNames) (history : List (Entry Step)) (s : State) (bytes : List ℕ) →
    IsRestorable names history s → has_log names.policy ≡ true → IsPrefix bytes (records_of names history) →
    RestoresFirstSteps names history bytes

-- a catalog agrees with a durable state or, if contents may lie in files, with one that has the same notes
abbrev pub AgreesByNotes : Bool → TakenSessions → DurableState → Catalog → Type 0
AgreesByNotes false taken D C = Agrees taken D C
AgreesByNotes true taken D C = (E : DurableState) × HaveSameNotes E D × Agrees taken E C

-- The bytes restore first steps of a history, and a state agrees with the durable state after their changes: up to the
-- notes of contents, if these may lie in files.
pub record IsRestartOf (names : StoreNames) (history : List (Entry Step)) (bytes : List ℕ) (taken : TakenSessions) (s : State) : Type 0 where
  pub restores : RestoresFirstSteps names history bytes
  pub agrees : AgreesByNotes (is_some names.longest) taken (after_changes (opening_state names) restores.kept) s.catalog

-- A store of the same tenants, whose log has the first bytes of another store's log, has the durable state of the other
-- store after some first steps.
abbrev pub SameLogsRestart : Type 0
SameLogsRestart = (names : StoreNames) (history : List (Entry Step)) (s : State) (other : StoreNames)
    (replayed : List (Entry Step)) (t : State) → IsRestorable names history s → IsRestorable other replayed t →
    has_log names.policy ≡ true → has_log other.policy ≡ true → other.setting.tenants ≡ names.setting.tenants → other.longest ≡ names.longest →
    IsPrefix (records_of other replayed) (records_of names history) →
    IsRestartOf names history (records_of other replayed) (taken_after_steps fmap.empty (steps_of replayed)) t
