-- The steps of commands that fields spell.
use Rattle.std.specs.Prelude.{◌≡◌, false, Option, Some, None, Result, Ok, Err}
use Rattle.blob_digest.specs.declared.refusal.Refusal.{Refusal}
use Rattle.store_api.specs.Answers.{Answer, Refused}
use Rattle.store_api.specs.Commands.{Command, StoreRequest, Calls, is_lease}

-- the step of a command that leases no blob, or a refusal that changes nothing
abbrev pub StepOf : {S : Type 0} → (S → StoreRequest → Answer → S → Type 0) → Result (Option Command) Refusal → S → Answer → S → Type 0
StepOf acts (Ok (Some command)) old answer new = (is_lease command ≡ false) × acts old (Calls command) answer new
StepOf acts (Ok None) old answer new = ⊥
StepOf acts (Err refusal) old answer new = (answer ≡ Refused refusal) × (new ≡ old)
