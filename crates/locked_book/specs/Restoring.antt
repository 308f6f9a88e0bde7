-- What the log of a store restores.
use Rattle.std.specs.Prelude.{◌≡◌, ◌++◌, ℕ, true, List, Option, filter_map}
use Rattle.std.specs.FinMap as fmap
use Rattle.std.specs.List.{AllByRecursion}
use Rattle.ghost_log.specs.declared.view.Entry.{Entry}
use Rattle.ghost_log.specs.Entries.{IsPrefix}
use Rattle.durable_log.specs.Encoding.{encode}
use Rattle.durable_log.specs.Views.{DeviceView}
use Rattle.log_records.specs.Changes as logged
use Rattle.log_records.specs.Records.{records_bytes}
use Rattle.store_model.specs.Durable.{Agrees, AgreesAfter, AreReturnedAsTaken, DurableState, initial_durable}
use Rattle.store_model.specs.Histories.{IsLegal, State, Step}
use Rattle.locked_book.specs.Described.{IsLogged}
use Rattle.locked_book.specs.History.{DeskView, LogLeadsTo, SeesAll, steps_of}
use Rattle.locked_book.specs.Logging.{has_log, logged_step, recorded_bytes}
use Rattle.locked_book.specs.Names.{OpensNew, StoreNames}
use Rattle.locked_book.specs.Returns.{AreWellFormed}

-- the records of a history, in order
abbrev pub records_of : StoreNames → List (Entry Step) → List ℕ
records_of names history = encode (recorded_bytes names.policy names.longest) history

-- steps as the log describes them
abbrev pub logged_changes : Option ℕ → List Step → List logged.Change
logged_changes longest steps = filter_map (logged_step longest) steps

-- the durable state of a store before its first step
abbrev pub opening_state : StoreNames → DurableState
opening_state names = initial_durable names.setting.tenants

-- A history leads to this state, and its log restores the state: the log has the records of its steps, each of which
-- describes the step's change, and the durable state after these changes agrees with the catalog. The other fields are
-- the premises under which a store survives crashes (`StoresSurviveCrashes`).
pub record IsRestorable (names : StoreNames) (history : List (Entry Step)) (s : State) : Type 0 where
  pub leads : LogLeadsTo names.opening history s
  pub records : has_log names.policy ≡ true → records_of names history ≡ records_bytes (logged_changes names.longest (steps_of history))
  pub describes : AllByRecursion (IsLogged names.longest names.setting.tenants) (steps_of history)
  pub agrees : AgreesAfter fmap.empty (opening_state names) (steps_of history) s.catalog
  pub opens : OpensNew names
  pub opening : Agrees fmap.empty (opening_state names) names.opening
  pub returned : AreReturnedAsTaken fmap.empty (steps_of history)
  pub formed : AreWellFormed history

-- the history is legal, and its log restores each state to which it leads
pub record RestoresItsStates (names : StoreNames) (history : List (Entry Step)) : Type 0 where
  pub legal : IsLegal names.opening (steps_of history)
  pub restores : (s : State) → LogLeadsTo names.opening history s → IsRestorable names history s

-- A desk has now seen the whole history of a store, of which it had seen a first part. It made no step. The log of the history restores each state
-- to which the history leads.
pub record SeesStoreHistory (names : StoreNames) (old new : DeskView) : Type 0 where
  pub amounts : new.amounts ≡ old.amounts
  pub sees : SeesAll new.trace.seen old.trace new.trace
  pub restores : RestoresItsStates names new.trace.seen

-- The device took over a first part of the history. Its disk has first bytes of the history's log, after those that it had before.
pub record IsOnDisk (names : StoreNames) (history : List (Entry Step)) (d : DeviceView Step) : Type 0 where
  pub taken : IsPrefix d.taken history
  pub in_order : IsPrefix d.written (names.log.base ++ records_of names history)

-- the disk has the whole log of the history, after what it had before, and no more
abbrev pub IsWholeOnDisk : StoreNames → List (Entry Step) → DeviceView Step → Type 0
IsWholeOnDisk names history d = d.written ≡ names.log.base ++ records_of names history
