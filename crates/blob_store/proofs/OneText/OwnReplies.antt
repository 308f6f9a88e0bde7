-- The steps of a history in which no reply is one that other tenants can cause.
use Rattle.std.proofs.Common.{◌≡◌, ℕ, Bool, false, List, [], ◌∷◌, Option, Some, None, Result, Ok, Err, refl, sym, ap, ◌∙◌, inl, inr}
use Rattle.std.specs.List.{AllByRecursion}
use Rattle.blob_digest.specs.declared.range.ByteRange.{ByteRange}
use Rattle.blob_digest.specs.declared.refusal.Refusal.{Refusal}
use Rattle.blob_digest.specs.declared.refusal.Refusal.TheVariants.{NameUnknown}
use Rattle.spec_lib.specs.Texts.{Text}
use Rattle.store_model.specs.Catalog.{Catalog, HandRecord, Tenant, tenant_of}
use Rattle.store_model.specs.Commands.{take}
use Rattle.store_model.specs.Histories.{AreSteps, MayLeadTo, CommandCall, State, Step, TakeCall}
use Rattle.store_model.specs.HistoryIsolation.{AreOwnReplies, IsOwnReply}
use Rattle.store_model.specs.Runs as runs
use Rattle.store_model.specs.Runs.{Answer, Command, outcome, repo_of}
use Rattle.store_model.proofs.Commands.Hands.{took}
use Rattle.blob_store.specs.OneText.{AreAllOwnReplies}
use Rattle.store_model.proofs.Noninterference.Histories.{tenants_left}

-- a step was made in a state of these tenants, and its reply is none that others can cause
pub record HasOwnReply (tenants : List Tenant) (step : Step) : Type 0 where
  pub state : State
  pub after : Catalog
  pub same : state.catalog.tenants ≡ tenants
  pub leaves : MayLeadTo state step after
  pub own : IsOwnReply state step

pub all_told : (tenants : List Tenant) (steps : List Step) (s s' : State) → s.catalog.tenants ≡ tenants → (run : AreSteps s steps s') → AreAllOwnReplies s steps s' run → AllByRecursion (HasOwnReply tenants) steps
all_told tenants [] s s' same run own = tt
all_told tenants (step ∷ steps) s s' same run own = (
  record { state = s; after = run.0.catalog; same = same; leaves = run.1.leaves; own = own.0 },
  all_told tenants steps run.0 s' (tenants_left s step run.0.catalog run.1.leaves ∙ same) run.2 own.1,
)

-- hence a tenant's replies are its own
pub own_of : (tenants : List Tenant) (t : ℕ) (steps : List Step) (s s' : State) (run : AreSteps s steps s') → AreAllOwnReplies s steps s' run → AreOwnReplies tenants t s steps s' run
own_of tenants t [] s s' run own = tt
own_of tenants t (step ∷ steps) s s' run own = ((λ _. own.0), own_of tenants t steps run.0 s' run.2 own.1)

-- ---- the tenant of a repository

module _ (tenants : List Tenant) where
  -- a checked-out session is of the tenant of its repository
  pub taken_owner : (r : Text) (n : ℕ) (g : Option ByteRange) (len : ℕ) (hand : HandRecord) → HasOwnReply tenants (TakeCall r n g len (Ok hand)) → tenant_of tenants r ≡ Some hand.key.0
  taken_owner r n g len hand told =
      let by = took told.state.catalog told.after r n len g hand told.leaves in
      ap (λ ts. tenant_of ts r) (sym told.same) ∙ by.known ∙ ap (λ (h : HandRecord). Some h.key.0) by.is

  -- a repository of no tenant is unknown to each command
  no_outcome : (crowded : Bool) (C : Catalog) (command : Command) → tenant_of C.tenants (repo_of command) ≡ None → outcome crowded C command ≡ Err NameUnknown
  no_outcome crowded C (runs.Start r) none = rw none refl
  no_outcome crowded C (runs.Status r n) none = rw none refl
  no_outcome crowded C (runs.Append r n g b) none = rw none refl
  no_outcome crowded C (runs.Close r n d g b) none = rw none refl
  no_outcome crowded C (runs.Abandon r n) none = rw none refl
  no_outcome crowded C (runs.Mount r d from) none = rw none refl
  no_outcome crowded C (runs.Delete r d) none = rw none refl
  no_outcome crowded C (runs.PutManifest r b) none = rw none refl
  no_outcome crowded C (runs.GetManifest r m) none = rw none refl
  no_outcome crowded C (runs.DeleteManifest r m) none = rw none refl
  no_outcome crowded C (runs.RemoveRepo r) none = rw none refl
  no_outcome crowded C (runs.Lease r d) none = rw none refl

  none_there : (C : Catalog) (r : Text) → C.tenants ≡ tenants → tenant_of tenants r ≡ None → tenant_of C.tenants r ≡ None
  none_there C r same none = ap (λ ts. tenant_of ts r) same ∙ none

  pub performed_unowned : (command : Command) (reply : Result Answer Refusal) → tenant_of tenants (repo_of command) ≡ None → HasOwnReply tenants (CommandCall command reply) → reply ≡ Err NameUnknown
  performed_unowned command reply none told = by reply told.leaves told.own
    where
      unknown : (crowded : Bool) → outcome crowded told.state.catalog command ≡ Err NameUnknown
      unknown crowded = no_outcome crowded told.state.catalog command (none_there told.state.catalog (repo_of command) told.same none)

      by : (x : Result Answer Refusal) → MayLeadTo told.state (CommandCall command x) told.after → IsOwnReply told.state (CommandCall command x) → x ≡ Err NameUnknown
      by (Ok a) leaves own = absurd (let e = sym (unknown false) ∙ leaves in cc)
      by (Err e) leaves own = elim leaves [
        | inl case ↦ elim case.0 [
          | inl x ↦ let same = sym x.1 ∙ unknown x.0 in cc
          | inr x ↦ absurd (own.0.0 x.0)
        ]
        | inr x ↦ absurd (own.1 x.0)
      ]

  pub took_unowned : (r : Text) (n : ℕ) (g : Option ByteRange) (len : ℕ) (reply : Result HandRecord Refusal) → tenant_of tenants r ≡ None → HasOwnReply tenants (TakeCall r n g len reply) → reply ≡ Err NameUnknown
  took_unowned r n g len reply none told = by reply told.leaves told.own
    where
      unknown : take told.state.catalog r n g len ≡ Err NameUnknown
      unknown = rw (none_there told.state.catalog r told.same none) refl

      by : (x : Result HandRecord Refusal) → MayLeadTo told.state (TakeCall r n g len x) told.after → IsOwnReply told.state (TakeCall r n g len x) → x ≡ Err NameUnknown
      by (Ok hand) leaves own = absurd (let e = sym unknown ∙ leaves in cc)
      by (Err e) leaves own = elim leaves.0 [
        | inl x ↦ let same = sym x ∙ unknown in cc
        | inr x ↦ absurd (own.1 x)
      ]
