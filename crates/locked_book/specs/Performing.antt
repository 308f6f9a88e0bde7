-- A command under the lock: its outcome, what it counts, and its desk's step.
use Rattle.std.specs.Prelude.{◌≡◌, ℕ, Bool, true, false, not, length, Option, Some, None, Result, Ok}
use Rattle.blob_digest.specs.declared.range.ByteRange.{ByteRange}
use Rattle.blob_digest.specs.declared.refusal.Refusal.{Refusal}
use Rattle.blob_digest.specs.declared.refusal.Refusal.TheVariants.{LimitReached}
use Rattle.blob_digest.specs.Outcomes.{Does, DoesExactly, OutcomeIn}
use Rattle.spec_lib.specs.Outcomes.{◌>>=◌, refuse}
use Rattle.spec_lib.specs.Texts.{Text}
use Rattle.store_book.specs.BookState.{BookState}
use Rattle.store_book.specs.SlotSteps.{IsCrowded}
use Rattle.store_model.specs.Catalog.{Catalog, HandRecord}
use Rattle.store_model.specs.Commands.{Outcome, after_cancel}
use Rattle.store_model.specs.Histories.{CommandCall, Step, accepted_amounts}
use Rattle.store_model.specs.Invariant.{Sound}
use Rattle.store_model.specs.Runs.{Abandon, Answer, Append, Close, Command, Lease, Number, outcome, takes_memory}
use Rattle.locked_book.specs.Counting.{StoreContent, accepted_outcome, cancel_outcome, finish_outcome, has_room, put_back_outcome, take_outcome, with_catalog, with_slots}
use Rattle.locked_book.specs.History.{DeskView, Makes}
use Rattle.locked_book.specs.Totals.{Counts}

-- the outcome of a command with what it counts; it fails with `LimitReached` if one more command can't be counted
abbrev pub performed_outcome : Bool → Command → StoreContent → OutcomeIn StoreContent Answer
performed_outcome crowded command k = do
  _ ← refuse (not (has_room k 0)) LimitReached
  accepted_outcome (accepted_amounts command) (λ C. outcome crowded C command) k

-- the reply and the content are the outcome's, or, for a command that allocates, memory ran out; a failed command changes nothing
abbrev pub RepliesBy : Bool → Result Answer Refusal → StoreContent → StoreContent → OutcomeIn StoreContent Answer → Type 0
RepliesBy true reply old new outcome = Does (λ a. a) reply old new outcome
RepliesBy false reply old new outcome = DoesExactly (λ a. a) reply old new outcome

-- A lease has its outcome, whatever happens to the slots. It fails with `TooManyReaders` only if a look found no room for one reader more.
pub record HasLeaseOutcome (repo digest : Text) (reply : Result Answer Refusal) (old new : StoreContent) : Type 0 where
  pub crowded : Bool
  pub does : RepliesBy true reply old (with_slots new old.book.slots) (performed_outcome crowded (Lease repo digest) old)
  pub look : crowded ≡ true → IsCrowded digest new.book.slots

-- a command's reply and the content after it are its outcome's
abbrev pub HasOutcome : Command → Result Answer Refusal → StoreContent → StoreContent → Type 0
HasOutcome (Lease repo digest) reply old new = HasLeaseOutcome repo digest reply old new
HasOutcome command reply old new =
    RepliesBy (takes_memory command) reply old new (performed_outcome false command old)

-- a command was performed for a desk: it has its outcome, and the desk made exactly this step
pub record Performs (C : Catalog) (command : Command) (reply : Result Answer Refusal) (old new : StoreContent) (desk desk' : DeskView) : Type 0 where
  pub does : HasOutcome command reply old new
  pub makes : Makes C (CommandCall command reply) desk desk'

-- ---- a command that is tried on a book

-- the bytes that an accepted command abandons
abbrev pub abandoned_of : Command → Answer → ℕ
abandoned_of (Abandon repo number) (Number n) = n
abandoned_of command a = 0

-- the bytes that a step abandons, if it is an accepted command
abbrev pub abandoned_bytes : Step → Option ℕ
abandoned_bytes (CommandCall command (Ok a)) = Some (abandoned_of command a)
abandoned_bytes step = None

-- the outcome of a command on the catalog, if one more can be counted
abbrev pub tried_outcome : Bool → Command → BookState → Counts → Outcome Answer
tried_outcome crowded command book counts = do
  _ ← refuse (not (has_room (record { book = book; counts = counts }) 0)) LimitReached
  outcome crowded book.catalog command

-- the reply and the catalog are the outcome's, or, for a command that allocates, memory ran out
abbrev pub TriesBy : Bool → Result Answer Refusal → Catalog → Catalog → Outcome Answer → Type 0
TriesBy true reply old new outcome = Does (λ a. a) reply old new outcome
TriesBy false reply old new outcome = DoesExactly (λ a. a) reply old new outcome

-- a command that is no lease was tried on a book with these counts: its reply, and the book after it
pub record TriesCommand (command : Command) (reply : Result Answer Refusal) (old : BookState) (counts : Counts) (new : BookState) : Type 0 where
  pub sound : Sound old.catalog
  pub does : TriesBy (takes_memory command) reply old.catalog new.catalog (tried_outcome false command old counts)
  pub table : new.table ≡ old.table
  pub slots : new.slots ≡ old.slots

-- A lease was tried. It fails with `TooManyReaders` only if a look found no room for one reader more.
pub record TriesLease (repo digest : Text) (reply : Result Answer Refusal) (old : BookState) (counts : Counts) (new : BookState) : Type 0 where
  pub crowded : Bool
  pub sound : Sound old.catalog
  pub does : TriesBy true reply old.catalog new.catalog (tried_outcome crowded (Lease repo digest) old counts)
  pub look : crowded ≡ true → IsCrowded digest new.slots
  pub table : new.table ≡ old.table
  pub slots : length new.slots ≡ length old.slots

-- this step was tried on a book with these counts, and it is a command of one step
abbrev pub Tries : BookState → Counts → Step → BookState → Type 0
Tries old counts (CommandCall (Lease repo digest) reply) new = TriesLease repo digest reply old counts new
Tries old counts (CommandCall (Append repo number range bytes) reply) new = ⊥
Tries old counts (CommandCall (Close repo number digest range bytes) reply) new = ⊥
Tries old counts (CommandCall command reply) new = TriesCommand command reply old counts new
Tries old counts step new = ⊥

-- if the step is a command, it was performed for a desk
abbrev pub PerformsStep : Catalog → Step → BookState → Counts → BookState → Counts → DeskView → DeskView → Type 0
PerformsStep C (CommandCall command reply) old counts new counts' desk desk' = Performs C command reply (record { book = old; counts = counts }) (record { book = new; counts = counts' }) desk desk'
PerformsStep C step old counts new counts' desk desk' = Unit {0}

-- ---- sessions that are checked out

-- the result and the content are the outcome of taking n bytes into a session
abbrev pub ChecksOut : Text → ℕ → Option ByteRange → ℕ → Result HandRecord Refusal → StoreContent → StoreContent → Type 0
ChecksOut repo number range n result old new = DoesExactly (λ h. h) result old new (take_outcome repo number range n old)

-- the result and the content are the outcome of checking this session in with its chunk
abbrev pub ChecksIn : HandRecord → Result ℕ Refusal → StoreContent → StoreContent → Type 0
ChecksIn hand result old new = DoesExactly (λ n. n) result old new (put_back_outcome hand old)

-- the result and the content are the outcome of checking this session in unchanged
abbrev pub ChecksInUnchanged : HandRecord → Result ℕ Refusal → StoreContent → StoreContent → Type 0
ChecksInUnchanged hand result old new = DoesExactly (λ n. n) result old new (cancel_outcome hand old)

-- The result and the content are the outcome of finishing this session, whatever happens to the slots. If it fails, the session is checked in.
abbrev pub Finishes : HandRecord → Text → Result ℕ Refusal → StoreContent → StoreContent → Type 0
Finishes hand digest result old new =
    Does (λ n. n) result (with_catalog old (after_cancel old.book.catalog hand)) (with_slots new old.book.slots) (finish_outcome hand digest old)
