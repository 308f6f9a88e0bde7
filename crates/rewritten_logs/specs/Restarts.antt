-- What a start after a crash restores whose log was rewritten.
use Rattle.std.specs.Prelude.{ℕ, List}
use Rattle.std.specs.FinMap as fmap
use Rattle.ghost_log.specs.Entries.{IsPrefix}
use Rattle.locked_book.specs.CutLogs.{changes_in}
use Rattle.locked_book.specs.History.{LogLeadsTo, Trace, steps_of}
use Rattle.locked_book.specs.Names.{StoreNames}
use Rattle.rewritten_logs.specs.Rewritten.{IsRewrittenRestart}
use Rattle.store_model.specs.Durable.{taken_after_steps}
use Rattle.store_model.specs.Histories.{IsLegal, State}

-- A store with this history is in a state that agrees, by the notes of contents that have a link, with the state of another store after some first steps:
-- those whose records are these bytes. The changes of all steps that a desk of the other store knew to be durable are among them.
pub record HasRewrittenSteps (names : StoreNames) (trace : Trace) (bytes : List ℕ) (other : StoreNames) (again : Trace) (t : State) : Type 0 where
  pub restart : IsRewrittenRestart names trace.seen bytes (taken_after_steps fmap.empty (steps_of again.seen)) t
  pub known : IsPrefix (changes_in names trace.durable) restart.restores.kept

-- The history of a store that was started leads to some state, and so is each state to which it leads.
pub record RestartsRewritten (names : StoreNames) (trace : Trace) (bytes : List ℕ) (other : StoreNames) (again : Trace) : Type 0 where
  pub legal : IsLegal other.opening (steps_of again.seen)
  pub each : (t : State) → LogLeadsTo other.opening again.seen t → HasRewrittenSteps names trace bytes other again t
