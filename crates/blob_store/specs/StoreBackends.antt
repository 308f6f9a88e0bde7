-- How a desk's amounts and steps grow by the requests of a worker's rows.
use Rattle.std.specs.Prelude.{◌≡◌, ◌⊎◌, ◌+◌, ℕ, true, List, [], ◌∷◌, ◌++◌, Option, Result, Ok, Err, length, map}
use Rattle.blob_digest.specs.Vouched.{has_digest}
use Rattle.blob_digest.specs.declared.range.ByteRange.{ByteRange}
use Rattle.blob_digest.specs.declared.refusal.Refusal.{Refusal}
use Rattle.blob_digest.specs.declared.refusal.Refusal.TheVariants.{Memory}
use Rattle.spec_lib.specs.Texts.{Text}
use Rattle.pin_core.specs.declared.world.PinRecord.{PinRecord}
use Rattle.store_book.specs.SlotSteps.{HasPin}
use Rattle.store_model.specs.Amounts.{Amounts}
use Rattle.store_model.specs.Catalog.{Catalog, HandRecord}
use Rattle.store_model.specs.Histories.{Step, CommandCall, SweepCall, SweepPartCall, TakeCall, PutBackCall, FinishCall}
use Rattle.store_model.specs.Runs as runs
use Rattle.store_model.specs.declared.swept.Swept.{Swept as SweptCounts}
use Rattle.locked_book.specs.Found.{InSomeBook, swept_in_all}
use Rattle.locked_book.specs.History.{DeskView, filled_hand}
use Rattle.locked_book.specs.Names.{StoreNames}
use Rattle.store_api.specs.Answers.{Answer, Received, Stored, Swept, Refused, Verified, result_answer}
use Rattle.store_api.specs.CommandAnswers.{command_answer}
use Rattle.store_api.specs.Commands.{Command, Append, Close, StoreRequest, Calls, Verifies, Sweeps, SweepsInParts}
use Rattle.script_player.specs.Counts.{abandon_count, chunk_size, closed_size, request_amount}

-- ---- amounts

-- the desk's amounts grow by an accepted command, its chunk's bytes and a close's size; the abandoned bytes change only by an accepted abandon
pub record AmountActs (old : Amounts) (request : StoreRequest) (answer : Answer) (new : Amounts) : Type 0 where
  pub commands : new.commands ≡ old.commands + request_amount (λ _ _. 1) request answer
  pub received : new.received ≡ old.received + request_amount (λ command _. chunk_size command) request answer
  pub closed : new.closed ≡ old.closed + request_amount closed_size request answer
  pub abandoned : request_amount (λ command _. abandon_count command) request answer ≡ 0 → new.abandoned ≡ old.abandoned

-- ---- steps

-- the steps of an append or a close: a failed check-out; a check-out and the last step, with the chunk; or a check-out and a check-in, if memory ran out
abbrev pub AreUploadSteps : Text → ℕ → Option ByteRange → Text → (HandRecord → Result ℕ Refusal → Step) → (ℕ → Answer) → Answer → List Step → Type 0
AreUploadSteps repo number range bytes last f answer steps =
    ((e : Refusal) × (steps ≡ TakeCall repo number range (length bytes) (Err e) ∷ []) × (answer ≡ Refused e))
    ⊎ ((hand : HandRecord) × (result : Result ℕ Refusal) × (steps ≡ TakeCall repo number range (length bytes) (Ok hand) ∷ last (filled_hand hand bytes) result ∷ []) × (answer ≡ result_answer f result))
    ⊎ ((hand : HandRecord) × (back : Result ℕ Refusal) × (steps ≡ TakeCall repo number range (length bytes) (Ok hand) ∷ PutBackCall hand back ∷ []) × (answer ≡ Refused Memory))

-- the steps of a command with this reply: those of an append or a close, or one step of any other command
abbrev pub AreCommandSteps : Command → Answer → List Step → Type 0
AreCommandSteps (Append repo number range bytes) answer steps = AreUploadSteps repo number range bytes PutBackCall Received answer steps
AreCommandSteps (Close repo number digest range bytes) answer steps = AreUploadSteps repo number range bytes (λ hand result. FinishCall hand digest result) Stored answer steps
AreCommandSteps command answer steps = (result : Result runs.Answer Refusal) × (steps ≡ CommandCall command result ∷ []) × (answer ≡ result_answer (command_answer command) result)

-- the steps of a request: those of a command, none for a check of a lease, one for a sweep, or one for each part of a sweep
abbrev pub AreRequestSteps : StoreRequest → Answer → List Step → Type 0
AreRequestSteps (Calls command) answer steps = AreCommandSteps command answer steps
AreRequestSteps (Verifies size) answer steps = (answer ≡ Verified size) × (steps ≡ [])
AreRequestSteps Sweeps answer steps = (swept : SweptCounts) × (steps ≡ SweepCall swept ∷ []) × (answer ≡ Swept swept)
AreRequestSteps SweepsInParts answer steps = (parts : List SweptCounts) × (steps ≡ map SweepPartCall parts) × (answer ≡ Swept (swept_in_all parts))

-- the new steps are the old ones and then those of the request
abbrev pub StepActs : List Step → StoreRequest → Answer → List Step → Type 0
StepActs old request answer new = (steps : List Step) × AreRequestSteps request answer steps × (new ≡ old ++ steps)

-- ---- checks of leases

-- a pin on a blob of this size, whose slot is in use in some book of the store, in the pin's generation and with its digest
pub record FindsBlob (names : StoreNames) (size : ℕ) : Type 0 where
  pub hold : PinRecord
  pub bytes : Text
  pub kept : InSomeBook names (HasPin hold)
  pub content : has_digest hold.digest bytes ≡ true
  pub length : length bytes ≡ size

-- if the request checks a lease, the lease has such a pin
abbrev pub Finds : StoreNames → StoreRequest → Type 0
Finds names (Verifies size) = FindsBlob names size
Finds names _ = Unit {0}

-- ---- amounts and steps together

-- the amounts of a desk, and the steps that it made
pub record Work : Type 0 where
  pub amounts : Amounts
  pub steps : List Step

-- the amounts and the steps of this desk
abbrev pub work_of : DeskView → Work
work_of desk = record { amounts = desk.amounts; steps = desk.trace.own }

-- amounts and steps grow by those of the request
pub record WorkActs (old : Work) (request : StoreRequest) (answer : Answer) (new : Work) : Type 0 where
  pub amounts : AmountActs old.amounts request answer new.amounts
  pub steps : StepActs old.steps request answer new.steps

-- the desk's amounts and steps grow by those of the request, its number is unchanged, and a check of a lease finds its blob
pub record DeskActs (names : StoreNames) (old : DeskView) (request : StoreRequest) (answer : Answer) (new : DeskView) : Type 0 where
  pub work : WorkActs (work_of old) request answer (work_of new)
  pub number : new.trace.number ≡ old.trace.number
  pub finds : Finds names request

-- ---- queries

-- the catalog is that of some book of the store
abbrev pub IsFound : StoreNames → Catalog → Type 0
IsFound names catalog = InSomeBook names (λ book. catalog ≡ book.catalog)
