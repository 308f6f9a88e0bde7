-- Steps keep a catalog sound, and its slots and its limit on blobs; so a store survives a crash.
use Rattle.std.proofs.Common.{true, ◌≡◌, ℕ, false, List, [], ◌∷◌, ◌++◌, length, Some, Result, Ok, Err, refl, sym, ap, ◌∙◌, subst, append_assoc, arith, ⊎_elim}
use Rattle.std.specs.Prelude.{IfSome}
use Rattle.std.specs.List.{AllByRecursion}
use Rattle.std.specs.FinMap.{empty, get}
use Rattle.blob_digest.specs.declared.refusal.Refusal.{Refusal}
use Rattle.spec_lib.specs.Texts.{Text}
use Rattle.spec_lib.proofs.Outcomes.{bound_ok}
use Rattle.store_model.specs.Catalog.{Catalog, HandRecord, Session, ContentRules}
use Rattle.store_model.specs.Commands
use Rattle.store_model.specs.Commands.{Outcome, after_cancel, finish, has_slot, put_back, put_back_outcome_in, session_of_hand, take}
use Rattle.store_model.specs.Durable.{Agrees, AreReturnedAsTaken, DurableState, IsReturnedAsTaken, TakenSessions, after_changes, change_of, changes_of, taken_after_step, taken_after_steps}
use Rattle.store_model.specs.Histories.{AreSteps, CommandCall, FinishCall, MayLeadTo, PutBackCall, State, Step, SweepCall, SweepPartCall, TakeCall, initial_state}
use Rattle.store_model.specs.Invariant.{Sound}
use Rattle.store_model.specs.Recovery.{IsWellFormedStep, StoresSurviveCrashes}
use Rattle.store_model.specs.Runs as runs
use Rattle.store_model.specs.Runs.{Command, outcome}
use Rattle.store_model.specs.Sessions.{HasNoOpenReserve, with_old_chunks}
use Rattle.store_model.proofs.Commands.Finish.{Sound-after_finish}
use Rattle.store_model.proofs.Commands.Hands.{IsProper, Sound-after_put_back, Sound-after_take, Sound-home}
use Rattle.store_model.proofs.Commands.Runs.{Sound-case}
use Rattle.store_model.proofs.Commands.Sweep.{Sound-sweep}
use Rattle.store_model.proofs.Durable.Agreement.{after_record}
use Rattle.store_model.proofs.Durable.Commands.{left_ok}
use Rattle.store_model.proofs.Durable.Histories.{durable_hand, step_agrees}
use Rattle.store_model.proofs.Durable.Restored.{stores_restart}
use Rattle.store_model.proofs.Durable.Torn.{first_returned, torn_logs_agree}
use Rattle.store_model.proofs.Noninterference.Hands.{cancel_leaves, finish_leaves, put_back_leaves, take_leaves}
use Rattle.store_model.proofs.Noninterference.LocalRespect.{Leaves, abandon_leaves, answers_leave, append_leaves, close_leaves, delete_leaves, delete_manifest_leaves, lease_leaves, mount_leaves, put_leaves, reading_leave, remove_repo_leaves, start_leaves}

-- ---- slots and the limit on blobs

abbrev pub SameSetting : Catalog → Catalog → Type 0
SameSetting C X = (X.slots ≡ C.slots) × (X.contents ≡ C.contents)

-- a command also retires no slot
abbrev pub SameSlots : Catalog → Catalog → Type 0
SameSlots C X = (X.slots ≡ C.slots) × (X.contents ≡ C.contents) × (X.retired ≡ C.retired)

pub command_setting : (C : Catalog) (command : Command) → Leaves (SameSlots C) (outcome false C command)
command_setting C (runs.Start r) = answers_leave (SameSlots C) runs.Number _ (start_leaves (SameSlots C) C r (λ t _. (refl, refl, refl)))
command_setting C (runs.Status r n) = reading_leave (SameSlots C) runs.Number C (Commands.status C r n) (refl, refl, refl)
command_setting C (runs.Append r n g b) = answers_leave (SameSlots C) runs.Number _ (append_leaves (SameSlots C) C r n g b (λ t _. (refl, refl, refl)))
command_setting C (runs.Close r n d g b) = answers_leave (SameSlots C) runs.Number _ (close_leaves (SameSlots C) C r has_slot n d g b (λ t after _ _ _. (refl, refl, refl)))
command_setting C (runs.Abandon r n) = answers_leave (SameSlots C) runs.Number _ (abandon_leaves (SameSlots C) C r n (λ t _. (refl, refl, refl)))
command_setting C (runs.Mount r d from) = answers_leave (SameSlots C) runs.Mounting _ (mount_leaves (SameSlots C) C r d from (λ t _. (refl, refl, refl)) (λ t _ _. (refl, refl, refl)))
command_setting C (runs.Delete r d) = answers_leave (SameSlots C) (λ _. runs.Done) _ (delete_leaves (SameSlots C) C r d (refl, refl, refl))
command_setting C (runs.PutManifest r b) = answers_leave (SameSlots C) runs.Bytes _ (put_leaves (SameSlots C) C r b (refl, refl, refl) (λ t _. (refl, refl, refl)))
command_setting C (runs.GetManifest r m) = reading_leave (SameSlots C) runs.Bytes C (Commands.get_manifest C r m) (refl, refl, refl)
command_setting C (runs.DeleteManifest r m) = answers_leave (SameSlots C) (λ _. runs.Done) _ (delete_manifest_leaves (SameSlots C) C r m (refl, refl, refl))
command_setting C (runs.RemoveRepo r) = answers_leave (SameSlots C) (λ _. runs.Done) _ (remove_repo_leaves (SameSlots C) C r (λ _ _. (refl, refl, refl)))
command_setting C (runs.Lease r d) = answers_leave (SameSlots C) runs.Bytes _ (lease_leaves (SameSlots C) C r false d (λ b _. (refl, refl, refl)))

pub step_setting : (s : State) (step : Step) (X : Catalog) → MayLeadTo s step X → SameSetting s.catalog X
step_setting s (CommandCall command (Ok x)) X leaves = let same = left_ok (SameSlots s.catalog) (outcome false s.catalog command) x X (command_setting s.catalog command) leaves in (same.0, same.1)
step_setting s (CommandCall command (Err e)) X leaves = subst (λ (Y : Catalog). SameSetting s.catalog Y) (sym (⊎_elim (λ y. y.1) (λ y. y.1) leaves)) (refl, refl)
step_setting s (SweepCall swept) X leaves = subst (λ (Y : Catalog). SameSetting s.catalog Y) (sym leaves.rest) (refl, refl)
step_setting s (SweepPartCall swept) X leaves = subst (λ (Y : Catalog). SameSetting s.catalog Y) (sym leaves.1.rest) (refl, refl)
step_setting s (TakeCall r n g len (Ok h)) X leaves = left_ok (SameSetting s.catalog) (take s.catalog r n g len) h X (take_leaves (SameSetting s.catalog) s.catalog r n g len (λ t _. (refl, refl))) leaves
step_setting s (TakeCall r n g len (Err e)) X leaves = subst (λ (Y : Catalog). SameSetting s.catalog Y) (sym leaves.1) (refl, refl)
step_setting s (PutBackCall h (Ok n)) X leaves = left_ok (SameSetting s.catalog) (put_back s.catalog h) n X (put_back_leaves (SameSetting s.catalog) s.catalog h (λ x _. (refl, refl))) leaves
step_setting s (PutBackCall h (Err e)) X leaves = subst (λ (Y : Catalog). SameSetting s.catalog Y) (sym leaves.1) (refl, refl)
step_setting s (FinishCall h d (Ok n)) X leaves = left_ok (SameSetting s.catalog) (finish s.catalog h d) n X (finish_leaves (SameSetting s.catalog) s.catalog h d (λ x _ _. (refl, refl))) leaves
step_setting s (FinishCall h d (Err e)) X leaves =
    subst (λ (Y : Catalog). SameSetting s.catalog Y) (sym leaves.1) (cancel_leaves (SameSetting s.catalog) s.catalog h (refl, refl) (λ x _. (refl, refl)))

-- ---- sound catalogs

module _ (taken : TakenSessions) (D : DurableState) (C : Catalog) (a : Agrees taken D C) (sound : Sound C) (h : HandRecord) (returned : get taken h.key ≡ Some (h.repo, h.chunks)) (fills : IfSome h.last (λ b. length b ≡ h.reserved)) where
  proper : (s : Session) → session_of_hand (get C.sessions h.key) h ≡ Ok s → IsProper h
  proper s here = record { pieces = (durable_hand taken D C a h returned s here).2; last = fills }

  pub sound_put_back : (n : ℕ) (X : Catalog) → put_back C h ≡ Ok (n, X) → Sound X
  sound_put_back n X is =
      let b = bound_ok (put_back_outcome_in C.sessions h) _ (n, X) is in
      let c = bound_ok (session_of_hand (get C.sessions h.key) h) _ b.0 b.1 in
      Sound-after_put_back C X h n (proper c.0 c.1) is sound

  sound_finish : HasNoOpenReserve h → (d : Text) (n : ℕ) (X : Catalog) → finish C h d ≡ Ok (n, X) → Sound X
  sound_finish full d n X is =
      let b = bound_ok (session_of_hand (get C.sessions h.key) h) _ (n, X) is in
      Sound-after_finish C X h d n (proper b.0 b.1) full is sound

  sound_cancel : Sound (after_cancel C h)
  sound_cancel = by (session_of_hand (get C.sessions h.key) h) refl
    where
      by : (o : Result Session Refusal) → session_of_hand (get C.sessions h.key) h ≡ o → Sound (record C { sessions = with_old_chunks C.sessions h o })
      by (Ok s) here = let p = proper s here in Sound-home C h p s here h.chunks p.pieces (omega arith) sound
      by (Err e) here = sound

pub step_sound : (taken : TakenSessions) (D : DurableState) (s : State) (step : Step) (X : Catalog) → Agrees taken D s.catalog → MayLeadTo s step X → IsReturnedAsTaken taken step → IsWellFormedStep step → Sound s.catalog → Sound X
step_sound taken D s (CommandCall command (Ok x)) X a leaves returned right sound = Sound-case s.catalog X command (Ok x) right leaves sound
step_sound taken D s (CommandCall command (Err e)) X a leaves returned right sound = subst (λ (Y : Catalog). Sound Y) (sym (⊎_elim (λ y. y.1) (λ y. y.1) leaves)) sound
step_sound taken D s (SweepCall swept) X a leaves returned right sound = Sound-sweep (λ _. true) s.catalog X swept leaves sound.lawful sound.quotas sound.shares sound.slots
step_sound taken D s (SweepPartCall swept) X a leaves returned right sound = Sound-sweep leaves.0 s.catalog X swept leaves.1 sound.lawful sound.quotas sound.shares sound.slots
step_sound taken D s (TakeCall r n g len (Ok h)) X a leaves returned right sound = Sound-after_take s.catalog X r n len g h leaves sound
step_sound taken D s (TakeCall r n g len (Err e)) X a leaves returned right sound = subst (λ (Y : Catalog). Sound Y) (sym leaves.1) sound
step_sound taken D s (PutBackCall h (Ok n)) X a leaves returned right sound = sound_put_back taken D s.catalog a sound h returned right n X leaves
step_sound taken D s (PutBackCall h (Err e)) X a leaves returned right sound = subst (λ (Y : Catalog). Sound Y) (sym leaves.1) sound
step_sound taken D s (FinishCall h d (Ok n)) X a leaves returned right sound = sound_finish taken D s.catalog a sound h returned right.0 right.1 d n X leaves
step_sound taken D s (FinishCall h d (Err e)) X a leaves returned right sound = subst (λ (Y : Catalog). Sound Y) (sym leaves.1) (sound_cancel taken D s.catalog a sound h returned right.0)

-- ---- a history

steps_sound : (steps : List Step) (taken : TakenSessions) (D : DurableState) (s s' : State) → Agrees taken D s.catalog → Sound s.catalog → AreSteps s steps s' → AreReturnedAsTaken taken steps → AllByRecursion IsWellFormedStep steps →
    Sound s'.catalog × SameSetting s.catalog s'.catalog
steps_sound [] taken D s s' a sound run returned right = subst (λ (x : State). Sound x.catalog × SameSetting s.catalog x.catalog) (sym run) (sound, (refl, refl))
steps_sound (step ∷ steps) taken D s s' a sound run returned right =
    let mid : State = run.0 in
    let same = step_setting s step mid.catalog run.1.leaves in
    let later = steps_sound steps (taken_after_step taken step) (after_record D (change_of s.catalog.tenants step)) mid s' (step_agrees taken D s step mid.catalog a run.1.leaves returned.0)
    (step_sound taken D s step mid.catalog a run.1.leaves returned.0 right.0 sound) run.2 returned.1 right.1 in
    (later.0, (later.1.0 ∙ same.0, later.1.1 ∙ same.1))

first_right : (first rest : List Step) → AllByRecursion IsWellFormedStep (first ++ rest) → AllByRecursion IsWellFormedStep first
first_right [] rest all = tt
first_right (step ∷ first) rest all = (all.0, first_right first rest all.1)

pub stores_survive_crashes : StoresSurviveCrashes
stores_survive_crashes D C done later s kept lost opens sound run returned right is =
    let cut = torn_logs_agree D C done later s kept lost opens run returned is in
    let both : done ++ later ≡ (done ++ cut.first) ++ cut.rest = ap (λ xs. done ++ xs) cut.split ∙ sym (append_assoc done cut.first cut.rest) in
    let there = steps_sound (done ++ cut.first) empty D (initial_state C) cut.at opens sound cut.leads
    (first_returned (done ++ cut.first) cut.rest empty (subst (λ xs. AreReturnedAsTaken empty xs) both returned)) (first_right (done ++ cut.first) cut.rest (subst (λ xs. AllByRecursion IsWellFormedStep xs) both right)) in
    let slots_are : cut.at.catalog.slots ≡ C.slots = there.1.0 in
    let limit_is : cut.at.catalog.contents ≡ C.contents = there.1.1 in
    record {
      cut = cut;
      restored = stores_restart (taken_after_steps empty (done ++ cut.first)) (after_changes D (changes_of D.tenants done ++ kept)) cut.at.catalog cut.agrees there.0 C.slots C.contents
          (omega arith) sound.slots.few (let same = ap (λ (r : ContentRules). r.max_blob) limit_is in omega arith) sound.lawful.limits.max_blob (sym (ap (λ (r : ContentRules). r.on_disk) limit_is));
    }
