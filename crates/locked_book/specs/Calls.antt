-- The step of the history that a call under the lock is.
use Rattle.std.specs.Prelude.{Result, Ok, Err}
use Rattle.std.specs.Option.{option_copied}
use Rattle.std.specs.Arc.{arc_value}
use Rattle.blob_digest.specs.declared.refusal.Refusal.{Refusal}
use Rattle.store_book.specs.Pinned.{blob_bytes}
use Rattle.store_model.specs.Runs.{Start, Status, Abandon, Mount, Delete, PutManifest, GetManifest, DeleteManifest, RemoveRepo, Lease, Answer, Number, Mounting, Bytes, Done}
use Rattle.store_model.specs.Histories.{Step, CommandCall, SweepCall, SweepPartCall, TakeCall, PutBackCall, FinishCall}
use Rattle.locked_book.specs.declared.call.Call.{Call}
use Rattle.locked_book.specs.declared.call.Call.TheVariants as call

-- a result as a command's reply
abbrev pub reply : {A : Type 0} → (A → Answer) → Result A Refusal → Result Answer Refusal
reply f (Ok a) = Ok (f a)
reply f (Err e) = Err e

-- the step that a call is, with its arguments and its result
abbrev pub step_of : Call → Step
step_of (call.Start repo result) = CommandCall (Start repo.now) (reply Number result.now)
step_of (call.Status repo number result) = CommandCall (Status repo.now number) (reply Number result.now)
step_of (call.Take repo number range len result) = TakeCall repo.now number range len result.now
step_of (call.PutBack hand result) = PutBackCall hand.now.value result.now
step_of (call.Finish hand digest result) = FinishCall hand.now.value digest.now result.now
step_of (call.Abandon repo number result) = CommandCall (Abandon repo.now number) (reply Number result.now)
step_of (call.Mount repo digest from result) = CommandCall (Mount repo.now digest.now (option_copied from)) (reply Mounting result.now)
step_of (call.Delete repo digest result) = CommandCall (Delete repo.now digest.now) (reply (λ _. Done) result.now)
step_of (call.PutManifest repo manifest result) = CommandCall (PutManifest repo.now manifest.now.value) (reply Bytes result.now)
step_of (call.RefuseManifest repo bytes e) = CommandCall (PutManifest repo.now bytes.now) (Err e.now)
step_of (call.GetManifest repo digest result) = CommandCall (GetManifest repo.now digest.now) (reply (λ m. Bytes (arc_value m)) result.now)
step_of (call.DeleteManifest repo digest result) = CommandCall (DeleteManifest repo.now digest.now) (reply (λ _. Done) result.now)
step_of (call.RemoveRepo repo result) = CommandCall (RemoveRepo repo.now) (reply (λ _. Done) result.now)
step_of (call.Lease repo digest result) = CommandCall (Lease repo.now digest.now) (reply (λ r. Bytes (blob_bytes (arc_value r.1))) result.now)
step_of (call.Sweep swept) = SweepCall swept.now
step_of (call.SweepPart swept) = SweepPartCall swept.now
