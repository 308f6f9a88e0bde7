-- Histories that an event extends.
use Rattle.std.proofs.Common.{◌≡◌, ℕ, List, [], ◌∷◌, ◌++◌, refl, sym, ap, ◌∙◌, subst}
use Rattle.std.specs.FinMap as fmap
use Rattle.atomic_table.specs.Seated.{TableId}
use Rattle.ghost_log.specs.declared.view.Entry.{Entry}
use Rattle.ghost_log.specs.Entries.{entry, events_by}
use Rattle.ghost_log.specs.Calls as shared
use Rattle.ghost_log.proofs.Lists.{events_own}
use Rattle.wire_server.specs.LeaseEvents.{TableEvent}
use Rattle.lease_table.specs.Histories.{AddsEvent, AreTableSteps, IsLegal, IsLeaseHistoryPart, LogLeadsTo, LeaseTrace, events_of, trace_of}
use Rattle.lease_table.specs.Tables.{IsTableStep, LeaseMap}

-- a run that a step extends is a run
pub AreTableSteps-append : (events : List TableEvent) (a b c : LeaseMap) (event : TableEvent) → AreTableSteps a events b → IsTableStep b event c → AreTableSteps a (events ++ event ∷ []) c
AreTableSteps-append [] a b c event run last = (c, subst (λ (x : LeaseMap). IsTableStep x event c) run last, refl)
AreTableSteps-append (e ∷ es) a b c event run last = (run.0, run.1, AreTableSteps-append es run.0 b c event run.2 last)

-- the events of a log with one more entry
pub events_of-push : (entries : List (Entry TableEvent)) (e : Entry TableEvent) → events_of (entries ++ e ∷ []) ≡ events_of entries ++ e.event ∷ []
events_of-push [] e = refl
events_of-push (x ∷ xs) e = ap (λ es. x.event ∷ es) (events_of-push xs e)

-- a log that a step extends leads to the step's table
pub LogLeadsTo-push : (entries : List (Entry TableEvent)) (number : ℕ) (event : TableEvent) (t t' : LeaseMap) → LogLeadsTo entries t → IsTableStep t event t' → LogLeadsTo (entries ++ entry number event ∷ []) t'
LogLeadsTo-push entries number event t t' run last = subst (λ (es : List TableEvent). AreTableSteps fmap.empty es t') (sym (events_of-push entries (entry number event))) (AreTableSteps-append (events_of entries) fmap.empty t t' event run last)

module _ (l : shared.Log TableEvent) (w : shared.Writer TableEvent) (event : TableEvent) (t t' : LeaseMap) (agrees : shared.Agrees l w) (run : LogLeadsTo l.entries t) (last : IsTableStep t event t') where
  abbrev pub after : shared.Writer TableEvent
  after = shared.writer_after_append event l.entries w

  pub own_events_after : events_by after.number after.seen ≡ after.own
  own_events_after = events_own w.number l.entries (event ∷ []) ∙ ap (λ es. es ++ event ∷ []) agrees.own

  pub legal_after : IsLegal (events_of after.seen)
  legal_after = (t', LogLeadsTo-push l.entries w.number event t t' run last)

  pub part_after : (log : TableId) → w.name ≡ log → IsLeaseHistoryPart log (trace_of after)
  part_after log named = record { named = named; legal = legal_after; own = own_events_after }

  pub adds_after : (was : LeaseTrace) → trace_of w ≡ was → AddsEvent was event (trace_of after)
  adds_after was same = subst (λ (t : LeaseTrace). AddsEvent t event (trace_of after)) same (record {
    between = agrees.seen.0;
    seen = ap (λ es. es ++ entry w.number event ∷ []) (sym agrees.seen.1);
    own = refl;
    log = refl;
    number = refl;
    agrees = own_events_after;
    legal = legal_after;
  })

-- a writer that has seen a whole legal history is part of it
pub caught_up : (l : shared.Log TableEvent) (w : shared.Writer TableEvent) (log : TableId) → w.name ≡ log → shared.Agrees l w → IsLegal (events_of l.entries) → IsLeaseHistoryPart log (trace_of (shared.writer_after_catch_up l.entries w))
caught_up l w log named agrees legal = record { named = named; legal = legal; own = agrees.own }
