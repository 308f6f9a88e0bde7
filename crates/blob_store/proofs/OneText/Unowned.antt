-- Rows that name a repository of no tenant: their replies depend on nothing else.
use Rattle.std.proofs.Common.{◌≡◌, ◌≢◌, ℕ, List, [], ◌∷◌, Option, Some, None, Result, Ok, Err, refl, ap, ◌∙◌, subst, inl, inr}
use Rattle.std.specs.Prelude.{length}
use Rattle.std.specs.List.{AllByRecursion}
use Rattle.blob_digest.specs.declared.range.ByteRange.{ByteRange}
use Rattle.blob_digest.specs.declared.refusal.Refusal.{Refusal}
use Rattle.blob_digest.specs.declared.refusal.Refusal.TheVariants.{Memory, NameUnknown}
use Rattle.spec_lib.specs.Texts.{Text}
use Rattle.store_model.specs.Catalog.{HandRecord, Tenant, tenant_of}
use Rattle.store_model.specs.Histories.{FinishCall, PutBackCall, Step, TakeCall}
use Rattle.store_model.specs.Runs.{repo_of}
use Rattle.store_api.specs.Answers.{Answer, Received, Refused, Stored, result_answer}
use Rattle.store_api.specs.CommandAnswers.{command_answer}
use Rattle.store_api.specs.Commands.{Append, Close, Command}
use Rattle.script_player.specs.RowCommands.{command_of}
use Rattle.script_player.specs.Rows.{RowView}
use Rattle.script_player.proofs.Spellings.{repo_spelled}
use Rattle.blob_store.specs.StoreBackends.{AreCommandSteps, AreUploadSteps}
use Rattle.blob_store.proofs.OneText.RowSteps.{AreLineSteps, AreRowSteps, Line, all_both}
use Rattle.blob_store.proofs.OneText.OwnReplies.{HasOwnReply, performed_unowned, took_unowned}

-- a command fails because its tenant is unknown, and a row without a command by its malformed field
abbrev pub unknown_answer : Result (Option Command) Refusal → Answer
unknown_answer (Ok o) = Refused NameUnknown
unknown_answer (Err e) = Refused e

-- the same holds of a row whose repository is no tenant's
abbrev pub IsUnknown : List Tenant → Line → Type 0
IsUnknown tenants l = tenant_of tenants l.0.repo ≡ None → l.1 ≡ unknown_answer (command_of l.0)

module _ (tenants : List Tenant) (answer : Answer) (steps : List Step) (not_memory : answer ≢ Refused Memory) (told : AllByRecursion (HasOwnReply tenants) steps) where
  upload_unknown : (r : Text) (n : ℕ) (g : Option ByteRange) (b : Text) (last : HandRecord → Result ℕ Refusal → Step) (f : ℕ → Answer) → tenant_of tenants r ≡ None → AreUploadSteps r n g b last f answer steps → answer ≡ Refused NameUnknown
  upload_unknown r n g b last f none are = elim are [
    | inl x ↦ let same : x.0 ≡ NameUnknown = (let e = first (Err x.0) [] x.1 in cc) in x.2 ∙ ap (λ e. Refused e) same
    | inr (inl x) ↦ absurd (let e = first (Ok x.0) _ x.2 in cc)
    | inr (inr x) ↦ absurd (not_memory x.3)
  ]
    where
      first : (reply : Result HandRecord Refusal) (rest : List Step) → steps ≡ TakeCall r n g (length b) reply ∷ rest → reply ≡ Err NameUnknown
      first reply rest is = took_unowned tenants r n g (length b) reply none (subst (AllByRecursion (HasOwnReply tenants)) is told).0

  command_unknown : (command : Command) → tenant_of tenants (repo_of command) ≡ None → AreCommandSteps command answer steps → answer ≡ Refused NameUnknown
  command_unknown (Append r n g b) none are = upload_unknown r n g b PutBackCall Received none are
  command_unknown (Close r n d g b) none are = upload_unknown r n g b (λ h x. FinishCall h d x) Stored none are
  command_unknown command none are = are.2 ∙ ap (result_answer (command_answer command)) (performed_unowned tenants command are.0 none (subst (AllByRecursion (HasOwnReply tenants)) are.1 told).0)

  spelled_unknown : (row : RowView) (o : Result (Option Command) Refusal) → command_of row ≡ o → tenant_of tenants row.repo ≡ None → AreRowSteps o answer steps → answer ≡ unknown_answer o
  spelled_unknown row (Ok (Some command)) spells none are = command_unknown command (ap (tenant_of tenants) (repo_spelled row command spells) ∙ none) are
  spelled_unknown row (Ok None) spells none are = absurd are
  spelled_unknown row (Err e) spells none are = are.0

pub all_unknown : (tenants : List Tenant) (lines : List Line) (steps : List Step) → AreLineSteps lines steps → AllByRecursion (HasOwnReply tenants) steps → AllByRecursion (IsUnknown tenants) lines
all_unknown tenants [] steps are told = tt
all_unknown tenants (l ∷ lines) steps are told =
    let both = all_both (HasOwnReply tenants) are.0 are.1 (subst (AllByRecursion (HasOwnReply tenants)) are.5 told) in
    ((λ none. spelled_unknown tenants l.1 are.0 are.3 both.0 l.0 (command_of l.0) refl none are.2), all_unknown tenants lines are.1 are.4 both.1)
