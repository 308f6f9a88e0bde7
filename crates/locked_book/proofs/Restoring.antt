-- The log of a history restores the state to which the history leads.
use Rattle.std.proofs.Common.{◌≡◌, ◌∙◌, ℕ, true, List, [], ◌∷◌, ◌++◌, Option, None, Some, ap, refl, subst, sym}
use Rattle.std.specs.Prelude.{◌==◌, if◌then◌else◌}
use Rattle.std.specs.FinMap as fmap
use Rattle.std.specs.List.{AllByRecursion, cons_option}
use Rattle.ghost_log.specs.declared.view.Entry.{Entry}
use Rattle.ghost_log.specs.Entries.{events_by}
use Rattle.durable_log.specs.Encoding.{encode}
use Rattle.log_records.specs.Records.{records_bytes}
use Rattle.log_records.specs.Changes as logged
use Rattle.store_model.specs.Durable.{Agrees, AreReturnedAsTaken}
use Rattle.store_model.specs.Histories.{LeadsTo, State, Step, initial_state}
use Rattle.store_model.specs.Lanes.{IsPaired, LaneSteps, all_steps, steps_by}
use Rattle.store_model.specs.Recovery.{IsWellFormedStep}
use Rattle.store_model.proofs.Durable.Histories.{logs_extend, new_stores_agree}
use Rattle.store_model.proofs.Durable.Lanes.{lanes_return_hands}
use Rattle.locked_book.specs.History.{LogLeadsTo, steps_of}
use Rattle.locked_book.specs.Logging.{change_bytes, has_log, logged_step, recorded_bytes, step_bytes}
use Rattle.locked_book.specs.Names.{OpensNew, StoreNames}
use Rattle.locked_book.specs.Restoring.{IsRestorable, logged_changes, opening_state}
use Rattle.locked_book.specs.Returns.{AreReturned, AreWellFormed}
use Rattle.locked_book.proofs.LoggedSteps.{steps_logged}
use Rattle.locked_book.specs.declared.policy.LogPolicy.{LogPolicy}
use Rattle.locked_book.specs.declared.policy.LogPolicy.TheVariants as policy

-- ---- hands are returned as they were taken

-- the log as steps of lanes
abbrev lanes_of : List (Entry Step) → LaneSteps
lanes_of [] = []
lanes_of (e ∷ es) = (e.writer, e.event) ∷ lanes_of es

all_steps-lanes_of : (entries : List (Entry Step)) → all_steps (lanes_of entries) ≡ steps_of entries
all_steps-lanes_of [] = refl
all_steps-lanes_of (e ∷ es) = ap (λ steps. e.event ∷ steps) (all_steps-lanes_of es)

steps_by-lanes_of : (lane : ℕ) (entries : List (Entry Step)) → steps_by lane (lanes_of entries) ≡ events_by lane entries
steps_by-lanes_of lane [] = refl
steps_by-lanes_of lane (e ∷ es) = ap (λ steps. if e.writer == lane then e.event ∷ steps else steps) (steps_by-lanes_of lane es)

-- a new store's opening catalog agrees with its first durable state
opening_agrees : (names : StoreNames) → OpensNew names → Agrees fmap.empty (opening_state names) names.opening
opening_agrees names opens =
    subst (Agrees fmap.empty (opening_state names)) (sym opens.new) (new_stores_agree names.setting.tenants names.setting.slots names.setting.contents)

-- if each writer returns only what it took last, every hand is returned as it was taken
returned_as_taken : (names : StoreNames) (history : List (Entry Step)) (s : State) → OpensNew names → LogLeadsTo names.opening history s → AreReturned history → AreWellFormed history →
    AreReturnedAsTaken fmap.empty (steps_of history)
returned_as_taken names history s opens leads returned formed =
    let steps = all_steps-lanes_of history in
    subst (AreReturnedAsTaken fmap.empty) steps
    (lanes_return_hands (opening_state names) names.opening (lanes_of history) s (opening_agrees names opens) opens.sound
    (subst (λ ts. LeadsTo names.opening ts s) (sym steps) leads)
    (subst (AllByRecursion IsWellFormedStep) (sym steps) formed)
    (λ lane. subst (IsPaired None) (sym (steps_by-lanes_of lane history)) (returned lane)))

-- ---- the bytes of the log

change_first : (change : Option logged.Change) (rest : List logged.Change) → change_bytes change ++ records_bytes rest ≡ records_bytes (cons_option change rest)
change_first None rest = refl
change_first (Some c) rest = refl

-- the records of the steps are those of what the log describes of them
records_of_steps : (longest : Option ℕ) (history : List (Entry Step)) → encode (step_bytes longest) history ≡ records_bytes (logged_changes longest (steps_of history))
records_of_steps longest [] = refl
records_of_steps longest (e ∷ es) =
    ap (λ bytes. step_bytes longest e.event ++ bytes) (records_of_steps longest es)
    ∙ change_first (logged_step longest e.event) (logged_changes longest (steps_of es))

pub history_records : (p : LogPolicy) (longest : Option ℕ) (history : List (Entry Step)) → has_log p ≡ true →
    encode (recorded_bytes p longest) history ≡ records_bytes (logged_changes longest (steps_of history))
history_records policy.NoLog longest history some = absurd cc
history_records policy.Never longest history some = records_of_steps longest history
history_records policy.Closes longest history some = records_of_steps longest history
history_records policy.Each longest history some = records_of_steps longest history

-- ---- the durable state

pub restorable : (names : StoreNames) (history : List (Entry Step)) (s : State) → OpensNew names → LogLeadsTo names.opening history s → AreReturned history → AreWellFormed history → IsRestorable names history s
restorable names history s opens leads returned formed =
    let opening = opening_agrees names opens in
    let all = returned_as_taken names history s opens leads returned formed in
    record {
      leads = leads;
      records = history_records names.policy names.longest history;
      describes = steps_logged names.longest names.setting.tenants (steps_of history) fmap.empty (opening_state names) (initial_state names.opening) s opening refl opens.sound leads all formed;
      agrees = logs_extend fmap.empty (opening_state names) (initial_state names.opening) (steps_of history) s opening leads all;
      opens = opens;
      opening = opening;
      returned = all;
      formed = formed;
    }
