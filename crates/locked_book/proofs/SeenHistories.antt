-- What a writer has seen after a commit is a legal history.
use Rattle.std.proofs.Common.{◌≡◌, ◌∙◌, ◌++◌, ℕ, Bool, true, false, List, OnErr, OnOk, Result, Ok, Err, ap, refl, subst, sym}
use Rattle.ghost_log.specs.declared.view.Entry.{Entry}
use Rattle.store_model.specs.Catalog.{Catalog}
use Rattle.store_model.specs.Amounts.{Amounts}
use Rattle.store_model.specs.Histories.{IsLegal, State, Step}
use Rattle.ghost_log.specs.Entries.{IsPrefix}
use Rattle.durable_log.specs.Views.{DeviceView, Waits}
use Rattle.durable_log.proofs.Prefixes.{prefix_self}
use Rattle.locked_book.specs.Durability.{Survives, log_trace}
use Rattle.locked_book.specs.History.{DeskView, LogLeadsTo, SeesAll, Trace, steps_of}
use Rattle.locked_book.specs.Names.{StoreNames}
use Rattle.locked_book.specs.Restoring.{IsOnDisk, IsRestorable, IsWholeOnDisk, RestoresItsStates, SeesStoreHistory, records_of}

module _ (C : Catalog) (history old new : List (Entry Step)) (all : IsLegal C (steps_of history)) (before : IsLegal C (steps_of old)) where
  -- it has seen the whole history if it was confirmed, and else what it had seen
  pub legal_if_confirmed : (done : Bool) → (done ≡ true → new ≡ history) → (done ≡ false → new ≡ old) → IsLegal C (steps_of new)
  legal_if_confirmed true sees kept = subst (λ es. IsLegal C (steps_of es)) (sym (sees refl)) all
  legal_if_confirmed false sees kept = subst (λ es. IsLegal C (steps_of es)) (sym (kept refl)) before

  -- it has seen the whole history unless the call failed
  pub legal_unless_failed : {A E X : Type 0} (r : Result A E) → OnOk r (new ≡ history) → OnErr r X → (X → new ≡ old) → IsLegal C (steps_of new)
  legal_unless_failed (Ok a) sees failed kept = subst (λ es. IsLegal C (steps_of es)) (sym sees) all
  legal_unless_failed (Err e) sees failed kept = subst (λ es. IsLegal C (steps_of es)) (sym (kept failed)) before

-- a writer that has now seen the whole history has made no step
pub waits_seeing : (whole : List (Entry Step)) (old new : Trace) → SeesAll whole old new → Waits (log_trace old) (log_trace new)
waits_seeing whole old new s = record { seen = subst (λ es. IsPrefix old.seen es) (sym s.seen) s.began; own = s.own; number = s.number }

pub waits_nothing : (t : Trace) → Waits (log_trace t) (log_trace t)
waits_nothing t = record { seen = prefix_self t.seen; own = refl; number = refl }

-- ---- a desk that has seen the whole history

-- a desk with these amounts and this trace
abbrev pub desk_of : Amounts → Trace → DeskView
desk_of amounts trace = record { amounts = amounts; trace = trace }

module _ (names : StoreNames) {whole : List (Entry Step)} {was now : Trace} (s : SeesAll whole was now) where
  -- the log of what it has seen restores each state to which that leads
  pub restores_seen : IsLegal names.opening (steps_of whole) → ((state : State) → LogLeadsTo names.opening whole state → IsRestorable names whole state) → RestoresItsStates names now.seen
  restores_seen legal all = subst (RestoresItsStates names) (sym s.seen) (record { legal = legal; restores = all })

  -- what the whole history leads to
  pub leads_seen : {after : Trace} (state : State) → after ≡ now → LogLeadsTo names.opening whole state → LogLeadsTo names.opening after.seen state
  leads_seen {after} state same leads =
      subst (λ (t : Trace). LogLeadsTo names.opening t.seen state) (sym same) (subst (λ (es : List (Entry Step)). LogLeadsTo names.opening es state) (sym s.seen) leads)

  pub sees_store_history : {amounts : Amounts} {after : Trace} {old : DeskView} → desk_of amounts was ≡ old → after ≡ now → RestoresItsStates names now.seen → SeesStoreHistory names old (desk_of amounts after)
  sees_store_history {amounts} {after} {old} is same restores =
      subst (λ (t : Trace). SeesStoreHistory names old (desk_of amounts t)) (sym same) (record {
        amounts = ap (λ (d : DeskView). d.amounts) is;
        sees = subst (λ (t : Trace). SeesAll now.seen t now) (ap (λ (d : DeskView). d.trace) is) (subst (λ (es : List (Entry Step)). SeesAll es was now) (sym s.seen) s);
        restores = restores;
      })

  -- what the disk has of the history
  pub on_disk_seen : {mid : List (Entry Step)} {d : DeviceView Step} → mid ≡ whole → IsPrefix d.taken mid → IsPrefix d.written (names.log.base ++ records_of names mid) → IsOnDisk names now.seen d
  on_disk_seen {mid} {d} is taken written = subst (λ (es : List (Entry Step)). IsOnDisk names es d) (is ∙ sym s.seen) (record { taken = taken; in_order = written })

  pub whole_seen : {mid : List (Entry Step)} (d : DeviceView Step) → mid ≡ whole → IsWholeOnDisk names mid d → IsWholeOnDisk names now.seen d
  whole_seen {mid} d is written = subst (λ (es : List (Entry Step)). IsWholeOnDisk names es d) (is ∙ sym s.seen) written

  -- what a crash leaves of the history
  pub survives_seen : {mid : List (Entry Step)} {after : Trace} {left : List ℕ} → mid ≡ whole → after ≡ now → IsPrefix now.durable mid
      → IsPrefix (names.log.base ++ records_of names now.durable) left → IsPrefix left (names.log.base ++ records_of names mid) → Survives names after left
  survives_seen {mid} {after} {left} is same known durable in_order =
      subst (λ (t : Trace). Survives names t left) (sym same) (record {
        known = subst (λ (es : List (Entry Step)). IsPrefix now.durable es) (is ∙ sym s.seen) known;
        durable = durable;
        in_order = subst (λ (es : List (Entry Step)). IsPrefix left (names.log.base ++ records_of names es)) (is ∙ sym s.seen) in_order;
      })
