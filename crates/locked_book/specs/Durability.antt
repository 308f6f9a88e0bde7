-- What desks know to be durable.
use Rattle.std.specs.Prelude.{◌≡◌, ℕ, List, ◌++◌}
use Rattle.ghost_log.specs.Entries.{IsPrefix, events_by}
use Rattle.durable_log.specs.Views as durable
use Rattle.store_model.specs.Histories.{Step}
use Rattle.locked_book.specs.History.{DeskView, Trace}
use Rattle.locked_book.specs.Logging.{promises}
use Rattle.locked_book.specs.Names.{StoreNames}
use Rattle.locked_book.specs.Restoring.{records_of}

-- a desk's trace as the trace of a writer of the log
abbrev pub log_trace : Trace → durable.Trace Step
log_trace t = record { number = t.number; seen = t.seen; own = t.own; durable = t.durable }

-- The desk's steps are those that it knows to be durable, and then some that the store does not promise to be durable: what a reply requires.
abbrev pub IsDurable : StoreNames → Trace → Type 0
IsDurable names trace = durable.IsCommitted (promises names.policy) (log_trace trace)

-- all that a writer had seen is durable, and so are all its own steps
pub record IsConfirmed (names : StoreNames) (old new : Trace) : Type 0 where
  pub covers : IsPrefix old.seen new.durable
  pub own : events_by new.number new.durable ≡ new.own
  pub durable : IsDurable names new

-- A desk made no step and counted nothing. It may have seen more of the history, and may know more of it to be durable.
pub record OnlyLearns (old new : DeskView) : Type 0 where
  pub amounts : new.amounts ≡ old.amounts
  pub own : new.trace.own ≡ old.trace.own
  pub number : new.trace.number ≡ old.trace.number
  pub seen : IsPrefix old.trace.seen new.trace.seen

-- all that a desk had seen is durable, and so are all its own steps
abbrev pub LearnsDurable : StoreNames → DeskView → DeskView → Type 0
LearnsDurable names old new = IsConfirmed names old.trace new.trace

-- ---- after a crash

-- The desk knows a first part of the history that it has seen to be durable. The bytes have all records of that part, and they are first bytes of the
-- history's log.
pub record Survives (names : StoreNames) (trace : Trace) (left : List ℕ) : Type 0 where
  pub known : IsPrefix trace.durable trace.seen
  pub durable : IsPrefix (names.log.base ++ records_of names trace.durable) left
  pub in_order : IsPrefix left (names.log.base ++ records_of names trace.seen)
