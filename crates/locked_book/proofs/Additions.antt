-- A history continues by a step.
use Rattle.std.proofs.Common.{◌≡◌, ℕ, List, [], ◌∷◌, ◌++◌, refl, sym, ap, ◌∙◌, subst}
use Rattle.ghost_log.specs.declared.view.Entry.{Entry}
use Rattle.ghost_log.specs.Entries.{entry, events_by}
use Rattle.ghost_log.specs.Calls as shared
use Rattle.ghost_log.proofs.Lists.{events_own}
use Rattle.atomic_table.specs.Seated.{TableId}
use Rattle.durable_log.specs.Views as durable
use Rattle.durable_log.specs.Views.{BacklogView, log_of, trace_with, writer_of}
use Rattle.store_model.specs.Catalog.{Catalog}
use Rattle.store_model.specs.Histories.{Step, State, IsStep, AreSteps, initial_state, IsLegal}
use Rattle.locked_book.specs.History.{Adds, LogLeadsTo, Trace, steps_of}

pub goes_on : (steps : List Step) (a b c : State) (step : Step) → AreSteps a steps b → IsStep b step c → AreSteps a (steps ++ step ∷ []) c
goes_on [] a b c step run last = (c, subst (λ (x : State). IsStep x step c) run last, refl)
goes_on (t ∷ ts) a b c step run last = (run.0, run.1, goes_on ts run.0 b c step run.2 last)

pub steps_of-push : (entries : List (Entry Step)) (e : Entry Step) → steps_of (entries ++ e ∷ []) ≡ steps_of entries ++ e.event ∷ []
steps_of-push [] e = refl
steps_of-push (x ∷ xs) e = ap (λ ts. x.event ∷ ts) (steps_of-push xs e)

pub leaves_on : (C : Catalog) (entries : List (Entry Step)) (number : ℕ) (step : Step) (s s' : State) → LogLeadsTo C entries s → IsStep s step s' → LogLeadsTo C (entries ++ entry number step ∷ []) s'
leaves_on C entries number step s s' run last = subst (λ (ts : List Step). AreSteps (initial_state C) ts s') (sym (steps_of-push entries (entry number step))) (goes_on (steps_of entries) (initial_state C) s s' step run last)

-- a writer's trace as the trace of a desk
abbrev pub trace_of : durable.Trace Step → Trace
trace_of t = record { number = t.number; seen = t.seen; own = t.own; durable = t.durable }

module _ (C : Catalog) (name : TableId) (b : BacklogView Step) (w : durable.Trace Step) (step : Step) (s s' : State) (agrees : shared.Agrees (log_of name b) (writer_of name w)) (run : LogLeadsTo C b.history s) (last : IsStep s step s') where
  abbrev pub after : durable.Trace Step
  after = trace_with step b.history w

  pub own_steps : events_by after.number after.seen ≡ after.own
  own_steps = events_own w.number b.history (step ∷ []) ∙ ap (λ ts. ts ++ step ∷ []) agrees.own

  pub legal_after : IsLegal C (steps_of after.seen)
  legal_after = (s', leaves_on C b.history w.number step s s' run last)

  pub adds : (was : Trace) → trace_of w ≡ was → Adds C was step (trace_of after)
  adds was same = subst (λ (t : Trace). Adds C t step (trace_of after)) same (record {
    between = agrees.seen.0;
    seen = ap (λ es. es ++ entry w.number step ∷ []) (sym agrees.seen.1);
    own = refl;
    number = refl;
    durable = refl;
    agrees = own_steps;
    legal = legal_after;
  })
