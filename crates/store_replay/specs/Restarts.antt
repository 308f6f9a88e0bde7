-- What a start after a crash restores.
use Rattle.std.specs.Prelude.{◌≡◌, [], true}
use Rattle.std.specs.FinMap as fmap
use Rattle.ghost_log.specs.Entries.{IsPrefix}
use Rattle.locked_book.specs.CutLogs.{IsRestartOf, changes_in}
use Rattle.locked_book.specs.History.{LogLeadsTo, Trace, steps_of}
use Rattle.locked_book.specs.Logging.{has_log}
use Rattle.locked_book.specs.Names.{StoreNames}
use Rattle.locked_book.specs.Restoring.{records_of}
use Rattle.store_model.specs.Durable.{taken_after_steps}
use Rattle.store_model.specs.Histories.{IsLegal, State}

-- two stores of the same tenants record their changes in the same form, with nothing in front of the records
pub record HaveLogs (names other : StoreNames) : Type 0 where
  pub logs : has_log names.policy ≡ true
  pub other_logs : has_log other.policy ≡ true
  pub tenants : other.setting.tenants ≡ names.setting.tenants
  pub longest : other.longest ≡ names.longest
  pub base : names.log.base ≡ []
  pub other_base : other.log.base ≡ []

-- A store with this history is in a state that agrees with the state of another store after some first steps: its log has the changes of these steps
-- and no others. The changes of all steps that a desk of the other store knew to be durable are among them.
pub record HasFirstSteps (names : StoreNames) (trace : Trace) (other : StoreNames) (again : Trace) (t : State) : Type 0 where
  pub restart : IsRestartOf names trace.seen (records_of other again.seen) (taken_after_steps fmap.empty (steps_of again.seen)) t
  pub known : IsPrefix (changes_in names trace.durable) restart.restores.kept

-- The history of a store that was started leads to some state, and so is each state to which it leads.
pub record RestartsAs (names : StoreNames) (trace : Trace) (other : StoreNames) (again : Trace) : Type 0 where
  pub legal : IsLegal other.opening (steps_of again.seen)
  pub each : (t : State) → LogLeadsTo other.opening again.seen t → HasFirstSteps names trace other again t
