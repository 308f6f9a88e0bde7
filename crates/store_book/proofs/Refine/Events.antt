-- The clause of each call makes it an event of a run.
use Rattle.std.proofs.Common.{◌≡◌, ◌≢◌, Bool, true, false, Ok, Err, refl, sym, ap, ◌∙◌, inl, inr}
use Rattle.std.specs.Prelude.{◌⊎◌}
use Rattle.blob_digest.specs.declared.refusal.Refusal.{Refusal}
use Rattle.blob_digest.specs.declared.refusal.Refusal.TheVariants.{Memory, TooManyReaders}
use Rattle.store_model.specs.Catalog.{Catalog}
use Rattle.store_model.specs.Commands.{tenant, linked_blob, lease}
use Rattle.store_model.specs.Runs.{Command, Answer, map_outcome, reading_outcome, outcome, takes_memory, Lease, Bytes}
use Rattle.spec_lib.specs.Texts.{Text}
use Rattle.spec_lib.specs.Outcomes.{refuse}
use Rattle.store_book.specs.Events.{ChangesAreEvents, ExactChangesAreEvents, ReadsAreEvents, ExactReadsAreEvents, LeasesAreEvents}
use Rattle.spec_lib.proofs.Outcomes.{bound_ok, not_refused}
use Rattle.blob_digest.proofs.Refusals.{is_memory}

-- the error of a command
abbrev Refused : Catalog → Command → Refusal → Type 0
Refused C command e = ((crowded : Bool) × (outcome crowded C command ≡ Err e)) ⊎ ((e ≡ Memory) × (takes_memory command ≡ true))

refused : (C : Catalog) (command : Command) (crowded : Bool) (e : Refusal) → takes_memory command ≡ true → (e ≢ Memory → outcome crowded C command ≡ Err e) → Refused C command e
refused C command crowded e takes other = by (is_memory e)
  where
    by : (e ≡ Memory) ⊎ (e ≢ Memory) → Refused C command e
    by (inl m) = inr (m, takes)
    by (inr n) = inl (crowded, other n)

module _ (B : Type 0) (f : B → Answer) where
  pub changes : ChangesAreEvents B f
  changes C C' command o (Ok b) takes is does = is ∙ ap (map_outcome f) does
  changes C C' command o (Err e) takes is does = (refused C command false e takes (λ n. is ∙ ap (map_outcome f) (does.0 n)), does.1)

  pub changes_exactly : ExactChangesAreEvents B f
  changes_exactly C C' command o (Ok b) is does = is ∙ ap (map_outcome f) does
  changes_exactly C C' command o (Err e) is does = (inl (false, is ∙ ap (map_outcome f) does.0), does.1)

  pub reads : ReadsAreEvents B f
  reads C command o (Ok b) takes is does = is ∙ ap (reading_outcome f C) does
  reads C command o (Err e) takes is does = (refused C command false e takes (λ n. is ∙ ap (reading_outcome f C) (does n)), refl)

  pub reads_exactly : ExactReadsAreEvents B f
  reads_exactly C command (Ok b) is = is
  reads_exactly C command (Err e) is = (inl (false, is), refl)

-- a successful lease does not depend on the test for room
given_alone : (C : Catalog) (repo digest : Text) (crowded : Bool) (x : Text × Catalog) → lease crowded C repo digest ≡ Ok x → lease false C repo digest ≡ Ok x
given_alone C repo digest crowded x h =
    let a = bound_ok (tenant C repo) _ x h in
    let b = bound_ok (linked_blob C repo digest) _ x a.2 in
    let c = bound_ok (refuse crowded TooManyReaders) _ x b.2 in
    ap (λ (q : Bool). lease q C repo digest) (sym (not_refused _ _ _ c.1)) ∙ h

pub leases : LeasesAreEvents
leases C C' repo digest (Ok b) new does = ap (map_outcome Bytes) (given_alone C repo digest does.crowded (b, C') does.does)
leases C C' repo digest (Err e) new does = (refused C (Lease repo digest) does.crowded e refl (λ n. ap (map_outcome Bytes) (does.does.0 n)), does.does.1)
