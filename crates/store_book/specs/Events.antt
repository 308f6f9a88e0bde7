-- Each call is an event of a run: if its clause holds, the command with its reply leads from the catalog before it to the one after it.
-- `result` is the result as the clause sees it, and `f` makes the reply from its value.
use Rattle.std.specs.Prelude.{◌≡◌, true, false, List, Result, Ok, Err}
use Rattle.blob_digest.specs.declared.refusal.Refusal.{Refusal}
use Rattle.blob_digest.specs.Outcomes.{Answers, Does, DoesExactly}
use Rattle.spec_lib.specs.Texts.{Text}
use Rattle.store_model.specs.Catalog.{Catalog}
use Rattle.store_model.specs.Commands.{Outcome}
use Rattle.store_model.specs.Runs.{Answer, Bytes, CommandEvent, Command, Happens, Lease, map_outcome, outcome, reading_outcome, takes_memory}
use Rattle.store_book.specs.BookState.{SlotView}
use Rattle.store_book.specs.SlotSteps.{Leases}

-- the reply for a call's result
abbrev pub reply_by : {B : Type 0} → (B → Answer) → Result B Refusal → Result Answer Refusal
reply_by f (Ok b) = Ok (f b)
reply_by f (Err e) = Err e

-- a call that changes the catalog and may be out of memory is an event
abbrev pub ChangesAreEvents : (B : Type 0) → (B → Answer) → Type 0
ChangesAreEvents B f = (C C' : Catalog) (command : Command) (o : Outcome B) (result : Result B Refusal) →
    takes_memory command ≡ true → outcome false C command ≡ map_outcome f o → Does (λ b. b) result C C' o → Happens C (CommandEvent command (reply_by f result)) C'

-- a call that changes the catalog and allocates nothing is an event
abbrev pub ExactChangesAreEvents : (B : Type 0) → (B → Answer) → Type 0
ExactChangesAreEvents B f = (C C' : Catalog) (command : Command) (o : Outcome B) (result : Result B Refusal) →
    outcome false C command ≡ map_outcome f o → DoesExactly (λ b. b) result C C' o → Happens C (CommandEvent command (reply_by f result)) C'

-- a call that changes nothing and may be out of memory is an event
abbrev pub ReadsAreEvents : (B : Type 0) → (B → Answer) → Type 0
ReadsAreEvents B f = (C : Catalog) (command : Command) (o result : Result B Refusal) →
    takes_memory command ≡ true → outcome false C command ≡ reading_outcome f C o → Answers (λ b. b) result o → Happens C (CommandEvent command (reply_by f result)) C

-- a call that changes nothing and allocates nothing is an event
abbrev pub ExactReadsAreEvents : (B : Type 0) → (B → Answer) → Type 0
ExactReadsAreEvents B f = (C : Catalog) (command : Command) (o : Result B Refusal) → outcome false C command ≡ reading_outcome f C o → Happens C (CommandEvent command (reply_by f o)) C

-- a lease is an event
abbrev pub LeasesAreEvents : Type 0
LeasesAreEvents = (C C' : Catalog) (repo digest : Text) (result : Result Text Refusal) (new : List SlotView) →
    Leases (λ b. b) result C C' new repo digest → Happens C (CommandEvent (Lease repo digest) (reply_by Bytes result)) C'
