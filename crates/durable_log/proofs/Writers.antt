-- What a writer knows of its own events.
use Rattle.std.proofs.Common.{◌≡◌, Bool, true, false, List, [], ◌∷◌, ◌++◌, sym, ap, subst, ◌∙◌, append_assoc}
use Rattle.std.proofs.lemmas.List.{append-nil, append_cancel_left}
use Rattle.std.proofs.lemmas.List.Elements.{All-append, All-cons, All-contains, All-nil, Contains-append_left, Contains-push}
use Rattle.std.specs.Prelude.{Contains}
use Rattle.ghost_log.specs.Entries.{IsPrefix, events_by}
use Rattle.durable_log.specs.Views.{Trace, Commits, IsCommitted, IsUnconfirmed, trace_with}
use Rattle.durable_log.proofs.Prefixes.{prefix_self}
use Rattle.ghost_log.specs.declared.view.Entry.{Entry}

-- what it had seen is durable
pub commits : {E : Type 0} (old new : Trace E) → new.durable ≡ old.seen → new.number ≡ old.number → new.own ≡ old.own → events_by old.number old.seen ≡ old.own → Commits old new
commits old new durable number own seen = record {
  covers = subst (λ k. IsPrefix old.seen k) (sym durable) (prefix_self old.seen);
  own = ap (λ n. events_by n new.durable) number ∙ (ap (events_by old.number) durable ∙ (seen ∙ sym own));
}

module _ {E : Type 0} (promises : E → Bool) where
  -- all its own events are durable
  pub committed : (t : Trace E) → events_by t.number t.durable ≡ t.own → IsCommitted promises t
  committed t all = record { rest = []; own = sym (append-nil (events_by t.number t.durable) ∙ all); unpromised = All-nil (λ e. promises e ≡ false) }

  -- it added an event that is not promised
  pub committed_with : (t : Trace E) (event : E) (history : List (Entry E)) → promises event ≡ false → IsCommitted promises t → IsCommitted promises (trace_with event history t)
  committed_with t event history free c = record {
    rest = c.rest ++ event ∷ [];
    own = ap (λ w. w ++ event ∷ []) c.own ∙ append_assoc (events_by t.number t.durable) c.rest (event ∷ []);
    unpromised = All-append (λ e. promises e ≡ false) c.rest (event ∷ []) c.unpromised (All-cons (λ e. promises e ≡ false) event [] free (All-nil (λ e. promises e ≡ false)));
  }

  -- what it has seen does not matter
  pub committed_seeing : (t u : Trace E) → u.number ≡ t.number → u.own ≡ t.own → u.durable ≡ t.durable → IsCommitted promises t → IsCommitted promises u
  committed_seeing t u number own durable c = record {
    rest = c.rest;
    own = own ∙ (c.own ∙ ap (λ w. w ++ c.rest) (ap (λ n. events_by n t.durable) (sym number) ∙ ap (events_by u.number) (sym durable)));
    unpromised = c.unpromised;
  }

  -- an own promised event stays unconfirmed after another event
  pub still_unconfirmed : (t : Trace E) (event : E) (history : List (Entry E)) → IsUnconfirmed promises t → IsUnconfirmed promises (trace_with event history t)
  still_unconfirmed t event history u = record {
    rest = u.rest ++ event ∷ [];
    own = ap (λ w. w ++ event ∷ []) u.own ∙ append_assoc (events_by t.number t.durable) u.rest (event ∷ []);
    event = u.event;
    among = Contains-append_left u.rest (event ∷ []) u.event u.among;
    promised = u.promised;
  }

  -- a promised event was added
  pub now_unconfirmed : (t : Trace E) (event : E) (history : List (Entry E)) → promises event ≡ true → IsCommitted promises t → IsUnconfirmed promises (trace_with event history t)
  now_unconfirmed t event history promised c = record {
    rest = c.rest ++ event ∷ [];
    own = ap (λ w. w ++ event ∷ []) c.own ∙ append_assoc (events_by t.number t.durable) c.rest (event ∷ []);
    event = event;
    among = Contains-push c.rest event;
    promised = promised;
  }

  -- a committed writer has no own promised event that is not known to be durable
  pub committed_or_not : (t : Trace E) → IsUnconfirmed promises t → IsCommitted promises t → ⊥
  committed_or_not t u c =
      let same : u.rest ≡ c.rest = append_cancel_left (events_by t.number t.durable) u.rest c.rest (sym u.own ∙ c.own) in
      let free : promises u.event ≡ false = All-contains (λ e. promises e ≡ false) c.rest u.event c.unpromised (subst (λ es. Contains es u.event) same u.among) in
      let promised = u.promised in cc
