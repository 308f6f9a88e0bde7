-- What a log describes of a step of a history is the step's change.
use Rattle.std.proofs.Common.{◌≡◌, ◌∙◌, ℕ, Bool, false, List, [], ◌∷◌, Option, Some, None, Ok, Err, ap, arith, refl, subst, sym}
use Rattle.std.proofs.lemmas.Bool.{le-ltb}
use Rattle.std.specs.FinMap.{get}
use Rattle.std.specs.List.{AllByRecursion}
use Rattle.std.specs.Option.{option_map}
use Rattle.blob_digest.specs.Names.{tenant_name}
use Rattle.blob_digest.specs.declared.refusal.Refusal.TheVariants.{NameUnknown}
use Rattle.log_records.specs.Changes as logged
use Rattle.spec_lib.specs.Texts.{Text}
use Rattle.spec_lib.proofs.Outcomes.{bound_ok, some_of_ok}
use Rattle.store_model.specs.Catalog.{Catalog, SessionNumber, Tenant, tenant_of}
use Rattle.store_model.specs.Commands as commands
use Rattle.store_model.specs.Durable.{Agrees, AreReturnedAsTaken, DurableState, IsReturnedAsTaken, TakenSessions, change_of, chunk_change, command_change, filled_chunk, session_key, taken_after_step}
use Rattle.store_model.specs.Histories.{AreSteps, CommandCall, FinishCall, MayLeadTo, PutBackCall, State, Step, SweepCall, SweepPartCall, TakeCall}
use Rattle.store_model.specs.Invariant.{Sound, WellFormed}
use Rattle.store_model.specs.Recovery.{IsWellFormedStep}
use Rattle.store_model.specs.Runs as runs
use Rattle.store_model.specs.Runs.{Answer, Command, outcome}
use Rattle.store_model.specs.Sessions.{session_of_hand}
use Rattle.store_model.specs.declared.mount.Mount.{Mount}
use Rattle.store_model.specs.declared.mount.Mount.TheVariants as mounting
use Rattle.store_model.proofs.Durable.Agreement.{after_record}
use Rattle.store_model.proofs.Durable.Commands.{answered_ok}
use Rattle.store_model.proofs.Durable.Crashes.{step_sound}
use Rattle.store_model.proofs.Durable.Histories.{after_record_tenants, returned_owner, step_agrees}
use Rattle.locked_book.specs.Described.{IsLogged, logged_change, name_at}
use Rattle.locked_book.specs.Logging.{is_beyond, is_noted, logged_chunk, logged_command, logged_if_any, logged_mount, logged_seal}
use Rattle.locked_book.proofs.TenantNames.{key_name, known_name}

-- ---- commands

-- nothing is noted of a step without a chunk
no_notes : (longest : Option ℕ) → is_beyond longest 0 ≡ false
no_notes None = refl
no_notes (Some l) = le-ltb l 0 (omega arith)

-- a chunk is described with the name of the tenant of its session
chunk_logged : (tenants : List Tenant) (noted : Bool) (name : Text) (key : SessionNumber) (bytes : Text) → name_at tenants key.0 ≡ name → logged_if_any noted name key.1 bytes ≡ option_map (logged_change tenants noted) (chunk_change key bytes)
chunk_logged tenants noted name key [] named = refl
chunk_logged tenants noted name key (b ∷ bytes) named = ap (λ (t : Text). Some (logged_chunk noted t key.1 (b ∷ bytes))) (sym named)

mount_logged : (tenants : List Tenant) (repo digest : Text) (m : Mount) → ◌≡◌ {A = Option logged.Change} (Some (logged_mount repo digest m)) (option_map (logged_change tenants false) (command_change tenants (runs.Mount repo digest None) (runs.Mounting m)))
mount_logged tenants repo digest mounting.Mounted = refl
mount_logged tenants repo digest (mounting.Session number) = refl

module _ (C X : Catalog) where
  -- the key of a session of a known tenant
  key_known : (r : Text) (t : ℕ) → commands.tenant C r ≡ Ok t → name_at C.tenants (session_key C.tenants r 0).0 ≡ tenant_name r
  key_known r t known = key_name C.tenants r t (some_of_ok (tenant_of C.tenants r) NameUnknown t known)

  command_logged : (command : Command) (x : Answer) → outcome false C command ≡ Ok (x, X) → logged_command command x ≡ option_map (logged_change C.tenants false) (command_change C.tenants command x)
  command_logged (runs.Start r) (runs.Number n) is = refl
  command_logged (runs.Start r) (runs.Mounting m) is = refl
  command_logged (runs.Start r) (runs.Bytes b) is = refl
  command_logged (runs.Start r) runs.Done is = refl
  command_logged (runs.Status r n) x is = refl
  command_logged (runs.Append r n g b) x is =
      let h = answered_ok runs.Number (commands.append C r n g b) x X is in
      let t = bound_ok (commands.tenant C r) _ (h.0, X) h.1 in
      chunk_logged C.tenants false (tenant_name r) (session_key C.tenants r n) b (key_known r t.0 t.1)
  command_logged (runs.Close r n d g b) x is =
      let h = answered_ok runs.Number (commands.close C r n d g b) x X is in
      let t = bound_ok (commands.tenant C r) _ (h.0, X) h.1 in
      ap (λ (name : Text). Some (logged_seal false name n d b)) (sym (key_known r t.0 t.1))
  command_logged (runs.Abandon r n) x is =
      let h = answered_ok runs.Number (commands.abandon C r n) x X is in
      let t = bound_ok (commands.tenant C r) _ (h.0, X) h.1 in
      ap (λ (name : Text). Some (logged.SessionDropped name n)) (sym (key_known r t.0 t.1))
  command_logged (runs.Mount r d from) (runs.Number n) is = refl
  command_logged (runs.Mount r d from) (runs.Mounting m) is = mount_logged C.tenants r d m
  command_logged (runs.Mount r d from) (runs.Bytes b) is = refl
  command_logged (runs.Mount r d from) runs.Done is = refl
  command_logged (runs.Delete r d) x is = refl
  command_logged (runs.PutManifest r b) x is = refl
  command_logged (runs.GetManifest r m) x is = refl
  command_logged (runs.DeleteManifest r m) x is = refl
  command_logged (runs.RemoveRepo r) x is = refl
  command_logged (runs.Lease r d) x is = refl

-- ---- steps

step_logged : (longest : Option ℕ) (taken : TakenSessions) (D : DurableState) (s : State) (step : Step) (X : Catalog) → Agrees taken D s.catalog → WellFormed s.catalog → MayLeadTo s step X → IsReturnedAsTaken taken step → IsLogged longest s.catalog.tenants step
step_logged longest taken D s (CommandCall command (Ok x)) X a lawful leaves returned =
    subst (λ (noted : Bool). logged_command command x ≡ option_map (logged_change s.catalog.tenants noted) (command_change s.catalog.tenants command x)) (sym (no_notes longest)) (command_logged s.catalog X command x leaves)
step_logged longest taken D s (CommandCall command (Err e)) X a lawful leaves returned = refl
step_logged longest taken D s (SweepCall swept) X a lawful leaves returned = refl
step_logged longest taken D s (SweepPartCall swept) X a lawful leaves returned = refl
step_logged longest taken D s (TakeCall r n g len reply) X a lawful leaves returned = refl
step_logged longest taken D s (PutBackCall h (Ok n)) X a lawful leaves returned =
    let C = s.catalog in
    let b = bound_ok (commands.put_back_outcome_in C.sessions h) _ (n, X) leaves in
    let c = bound_ok (session_of_hand (get C.sessions h.key) h) _ b.0 b.1 in
    let owner = returned_owner taken D C a h returned lawful c.0 c.1 in
    chunk_logged C.tenants (is_noted longest (PutBackCall h (Ok n))) (tenant_name h.repo) h.key (filled_chunk h) (known_name C.tenants h.repo h.key.0 owner.1)
step_logged longest taken D s (PutBackCall h (Err e)) X a lawful leaves returned = refl
step_logged longest taken D s (FinishCall h d (Ok n)) X a lawful leaves returned =
    let C = s.catalog in
    let b = bound_ok (session_of_hand (get C.sessions h.key) h) _ (n, X) leaves in
    let owner = returned_owner taken D C a h returned lawful b.0 b.1 in
    ap (λ (name : Text). Some (logged_seal (is_noted longest (FinishCall h d (Ok n))) name h.key.1 d (filled_chunk h))) (sym (known_name C.tenants h.repo h.key.0 owner.1))
step_logged longest taken D s (FinishCall h d (Err e)) X a lawful leaves returned = refl

-- the log describes each step of a history
pub steps_logged : (longest : Option ℕ) (tenants : List Tenant) (steps : List Step) (taken : TakenSessions) (D : DurableState) (s s' : State) → Agrees taken D s.catalog → D.tenants ≡ tenants → Sound s.catalog → AreSteps s steps s' → AreReturnedAsTaken taken steps →
    AllByRecursion IsWellFormedStep steps → AllByRecursion (IsLogged longest tenants) steps
steps_logged longest tenants [] taken D s s' a same sound run returned right = tt
steps_logged longest tenants (step ∷ steps) taken D s s' a same sound run returned right =
    let mid : State = run.0 in
    let leaves = run.1.leaves in
    let change = change_of s.catalog.tenants step in (
      subst (λ ts. IsLogged longest ts step) (sym a.tenants ∙ same) (step_logged longest taken D s step mid.catalog a sound.lawful leaves returned.0),
      steps_logged longest tenants steps (taken_after_step taken step) (after_record D change) mid s' (step_agrees taken D s step mid.catalog a leaves returned.0) (after_record_tenants D change ∙ same)
          (step_sound taken D s step mid.catalog a leaves returned.0 right.0 sound) run.2 returned.1 right.1,
    )
