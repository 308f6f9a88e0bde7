-- The history of a table of leases, and the traces of its writers.
use Rattle.std.specs.Prelude.{◌≡◌, ℕ, List, [], ◌∷◌, ◌++◌, Option}
use Rattle.std.specs.FinMap as fmap
use Rattle.atomic_table.specs.Seated.{TableId}
use Rattle.ghost_log.specs.declared.view.Entry.{Entry}
use Rattle.ghost_log.specs.Entries.{entry, events_by, IsPrefix}
use Rattle.ghost_log.specs.Calls.{Writer}
use Rattle.spec_lib.specs.Texts.{Text}
use Rattle.store_api.specs.LeaseViews.{Extent}
use Rattle.wire_server.specs.LeaseEvents.{TableEvent}
use Rattle.lease_table.specs.Tables.{LeaseMap, IsTableStep, read_event}

-- ---- histories

-- the events lead from one table to another, one step after another
abbrev pub AreTableSteps : LeaseMap → List TableEvent → LeaseMap → Type 0
AreTableSteps old [] new = new ≡ old
AreTableSteps old (event ∷ events) new = (mid : LeaseMap) × IsTableStep old event mid × AreTableSteps mid events new

-- the events lead from the empty table to this one
abbrev pub LeadsTo : List TableEvent → LeaseMap → Type 0
LeadsTo events leases = AreTableSteps fmap.empty events leases

-- the history is one that a single thread could have made
abbrev pub IsLegal : List TableEvent → Type 0
IsLegal events = (leases : LeaseMap) × LeadsTo events leases

-- ---- logs

-- the events of a log by all writers
abbrev pub events_of : List (Entry TableEvent) → List TableEvent
events_of [] = []
events_of (e ∷ es) = e.event ∷ events_of es

-- the log leads from the empty table to this one
abbrev pub LogLeadsTo : List (Entry TableEvent) → LeaseMap → Type 0
LogLeadsTo entries leases = LeadsTo (events_of entries) leases

-- the event is a step of a table that the history leads to
abbrev pub CanExtend : List (Entry TableEvent) → TableEvent → Type 0
CanExtend entries event = (t t' : LeaseMap) × LogLeadsTo entries t × IsTableStep t event t'

-- the new history leads to the table to which the event leads from a table of the old one
abbrev pub ExtendsLog : List (Entry TableEvent) → TableEvent → List (Entry TableEvent) → Type 0
ExtendsLog old event new = (t t' : LeaseMap) → LogLeadsTo old t → IsTableStep t event t' → LogLeadsTo new t'

-- ---- writers

-- a writer's trace: the name of the log, its number, the part of the history that it has seen, and its own events
pub record LeaseTrace : Type 0 where
  pub log : TableId
  pub number : ℕ
  pub seen : List (Entry TableEvent)
  pub own : List TableEvent

-- the trace of a writer
abbrev pub trace_of : Writer TableEvent → LeaseTrace
trace_of w = record { log = w.name; number = w.number; seen = w.seen; own = w.own }

-- the trace is part of a legal history of this log, whose events under its number are its own
pub record IsLeaseHistoryPart (log : TableId) (trace : LeaseTrace) : Type 0 where
  pub named : trace.log ≡ log
  pub legal : IsLegal (events_of trace.seen)
  pub own : events_by trace.number trace.seen ≡ trace.own

-- the event was added at the end of a legal history that extends the writer's, as the last of the writer's own events
pub record AddsEvent (old : LeaseTrace) (event : TableEvent) (new : LeaseTrace) : Type 0 where
  pub between : List (Entry TableEvent)
  pub seen : new.seen ≡ (old.seen ++ between) ++ entry old.number event ∷ []
  pub own : new.own ≡ old.own ++ event ∷ []
  pub log : new.log ≡ old.log
  pub number : new.number ≡ old.number
  pub agrees : events_by new.number new.seen ≡ new.own
  pub legal : IsLegal (events_of new.seen)

-- the event of a read, or of one that found no lease, was added
abbrev pub AddsReadEvent : LeaseTrace → ℕ → Text → ℕ → ℕ → LeaseTrace → Option Extent → Type 0
AddsReadEvent old number digest start end new found = AddsEvent old (read_event number digest start end found) new

-- two writers see one whole history, which extends that of each, and add nothing
pub record SeesOneHistory (one other one' other' : LeaseTrace) : Type 0 where
  pub same : one'.seen ≡ other'.seen
  pub first : IsPrefix one.seen one'.seen
  pub second : IsPrefix other.seen other'.seen
  pub first_own : one'.own ≡ one.own
  pub second_own : other'.own ≡ other.own
