-- A repository links a stored blob only if another one has a link to it.
use Rattle.std.proofs.Common.{◌≡◌, ◌∙◌, true, false, List, [], ◌∷◌, Option, Some, None, Ok, Err, IfSome, ap, refl, subst, sym}
use Rattle.std.specs.Prelude.{if◌then◌else◌}
use Rattle.std.specs.FinMap as fmap
use Rattle.std.specs.List.{cons_option}
use Rattle.ghost_log.specs.declared.view.Entry.{Entry}
use Rattle.blob_digest.specs.declared.refusal.Refusal.TheVariants.{LimitReached}
use Rattle.spec_lib.specs.Outcomes.{refuse}
use Rattle.spec_lib.specs.Sets as set
use Rattle.spec_lib.specs.Texts.{Text}
use Rattle.spec_lib.proofs.Outcomes.{bound_ok}
use Rattle.store_model.specs.Catalog.{Catalog, Tenant}
use Rattle.store_model.specs.Commands as commands
use Rattle.store_model.specs.Durable.{Agrees, AreReturnedAsTaken, BlobLinked, Change, DurableState, TakenSessions, after_change, change_of, changes_of, chunk_change, command_change, filled_chunk, mount_change, session_key, taken_after_step}
use Rattle.store_model.specs.Histories.{AreSteps, CommandCall, FinishCall, MayLeadTo, PutBackCall, State, Step, SweepCall, SweepPartCall, TakeCall, initial_state}
use Rattle.store_model.specs.Runs as runs
use Rattle.store_model.specs.Runs.{Answer, Command, outcome}
use Rattle.store_model.specs.Catalog.{SessionNumber}
use Rattle.store_model.specs.declared.mount.Mount.{Mount}
use Rattle.store_model.specs.declared.mount.Mount.TheVariants as mounting
use Rattle.store_model.proofs.Commands.Accepted.{answer_by}
use Rattle.store_model.proofs.Commands.Mount.{source_of}
use Rattle.store_model.proofs.Durable.Agreement.{after_record}
use Rattle.store_model.proofs.Durable.Commands.{answered_ok}
use Rattle.store_model.proofs.Durable.Histories.{after_record_tenants, step_agrees}
use Rattle.locked_book.specs.CutLogs.{changes_in}
use Rattle.locked_book.specs.History.{steps_of}
use Rattle.locked_book.specs.Names.{StoreNames}
use Rattle.locked_book.specs.Restoring.{IsRestorable, opening_state}
use Rattle.rewritten_logs.specs.Linked.{IsLinkOf}

-- a change that links a blob links one that has a link already
abbrev pub IsLinkKept : DurableState → Change → Type 0
IsLinkKept D (BlobLinked repo digest) = (other : Text) × IsLinkOf D (other, digest)
IsLinkKept D c = Unit {0}

-- and so does each of the changes, one after another
abbrev pub LinksKept : DurableState → List Change → Type 0
LinksKept D [] = Unit {0}
LinksKept D (c ∷ cs) = IsLinkKept D c × LinksKept (after_change D c) cs

-- ---- steps

module _ (taken : TakenSessions) (D : DurableState) (C : Catalog) (a : Agrees taken D C) where
  abbrev Kept : Change → Type 0
  Kept c = IsLinkKept D c

  mount_kept : (r d : Text) (from : Option Text) (m : Mount) (X : Catalog) → commands.mount C r d from ≡ Ok (m, X) → Kept (mount_change C.tenants r d m)
  mount_kept r d from m X is =
      let b = bound_ok (commands.tenant C r) _ (m, X) is in
      elim (commands.has_source C b.0 d from) as (λ x. commands.has_source C b.0 d from ≡ x → (if x then commands.mounted_outcome C b.0 r d else commands.started_outcome C r) ≡ Ok (m, X) → Kept (mount_change C.tenants r d m)) [
        | true ↦ λ has h.
            let c = bound_ok (refuse (commands.lacks_room_for C b.0 r) LimitReached) _ (m, X) h in
            let source = source_of C b.0 d from has in
            let answer : mounting.Mounted ≡ m = answer_by c.2 in
            subst (λ (y : Mount). Kept (mount_change C.tenants r d y)) answer (source.0, ap (λ links. set.contains links (source.0, d)) a.links ∙ source.2)
        | false ↦ λ has h.
            let c = bound_ok (commands.start C r) _ (m, X) h in
            let answer : mounting.Session c.0.0 ≡ m = answer_by c.2 in
            subst (λ (y : Mount). Kept (mount_change C.tenants r d y)) answer tt
      ] refl b.2

  chunk_kept : (key : SessionNumber) (bytes : Text) → IfSome (chunk_change key bytes) Kept
  chunk_kept key [] = tt
  chunk_kept key (b ∷ bytes) = tt

  command_kept : (command : Command) (x : Answer) (X : Catalog) → outcome false C command ≡ Ok (x, X) → IfSome (command_change C.tenants command x) Kept
  command_kept (runs.Start r) (runs.Number n) X is = tt
  command_kept (runs.Start r) (runs.Mounting m) X is = tt
  command_kept (runs.Start r) (runs.Bytes b) X is = tt
  command_kept (runs.Start r) runs.Done X is = tt
  command_kept (runs.Status r n) x X is = tt
  command_kept (runs.Append r n g b) x X is = chunk_kept (session_key C.tenants r n) b
  command_kept (runs.Close r n d g b) x X is = tt
  command_kept (runs.Abandon r n) x X is = tt
  command_kept (runs.Mount r d from) x X is =
      let h = answered_ok runs.Mounting (commands.mount C r d from) x X is in
      subst (λ y. IfSome (command_change C.tenants (runs.Mount r d from) y) Kept) h.2 (mount_kept r d from h.0 X h.1)
  command_kept (runs.Delete r d) x X is = tt
  command_kept (runs.PutManifest r b) x X is = tt
  command_kept (runs.GetManifest r m) x X is = tt
  command_kept (runs.DeleteManifest r m) x X is = tt
  command_kept (runs.RemoveRepo r) x X is = tt
  command_kept (runs.Lease r d) x X is = tt

step_kept : (taken : TakenSessions) (D : DurableState) (s : State) (step : Step) (X : Catalog) → Agrees taken D s.catalog → MayLeadTo s step X → IfSome (change_of s.catalog.tenants step) (IsLinkKept D)
step_kept taken D s (CommandCall command (Ok x)) X a leaves = command_kept taken D s.catalog a command x X leaves
step_kept taken D s (CommandCall command (Err e)) X a leaves = tt
step_kept taken D s (SweepCall swept) X a leaves = tt
step_kept taken D s (SweepPartCall swept) X a leaves = tt
step_kept taken D s (TakeCall r n g len reply) X a leaves = tt
step_kept taken D s (PutBackCall h (Ok n)) X a leaves = chunk_kept taken D s.catalog a h.key (filled_chunk h)
step_kept taken D s (PutBackCall h (Err e)) X a leaves = tt
step_kept taken D s (FinishCall h d (Ok n)) X a leaves = tt
step_kept taken D s (FinishCall h d (Err e)) X a leaves = tt

-- ---- histories

cons_kept : (D : DurableState) (o : Option Change) (cs : List Change) → IfSome o (IsLinkKept D) → LinksKept (after_record D o) cs → LinksKept D (cons_option o cs)
cons_kept D None cs one rest = rest
cons_kept D (Some c) cs one rest = (one, rest)

steps_kept : (tenants : List Tenant) (steps : List Step) (taken : TakenSessions) (D : DurableState) (s s' : State) → Agrees taken D s.catalog → D.tenants ≡ tenants → AreSteps s steps s' → AreReturnedAsTaken taken steps →
    LinksKept D (changes_of tenants steps)
steps_kept tenants [] taken D s s' a same run returned = tt
steps_kept tenants (step ∷ steps) taken D s s' a same run returned =
    let mid : State = run.0 in
    let leaves = run.1.leaves in
    let change = change_of s.catalog.tenants step in
    let is : change ≡ change_of tenants step = ap (λ ts. change_of ts step) (sym a.tenants ∙ same) in
    cons_kept D (change_of tenants step) (changes_of tenants steps)
    (subst (λ o. IfSome o (IsLinkKept D)) is (step_kept taken D s step mid.catalog a leaves))
    (subst (λ o. LinksKept (after_record D o) (changes_of tenants steps)) is
    (steps_kept tenants steps (taken_after_step taken step) (after_record D change) mid s' (step_agrees taken D s step mid.catalog a leaves returned.0) (after_record_tenants D change ∙ same) run.2 returned.1))

-- in a history that its log restores, each change that links a blob links one that has a link
pub history_kept : (names : StoreNames) (history : List (Entry Step)) (s : State) → IsRestorable names history s → LinksKept (opening_state names) (changes_in names history)
history_kept names history s r =
    steps_kept names.setting.tenants (steps_of history) fmap.empty (opening_state names) (initial_state names.opening) s r.opening refl r.leads r.returned
