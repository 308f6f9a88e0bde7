-- What the log records of calls, and which of them it promises.
use Rattle.std.proofs.Common.{◌≡◌, ◌≢◌, ◌∙◌, ℕ, false, List, [], Option, None, Some, Result, Ok, Err, ap, refl, sym}
use Rattle.std.specs.Arc.{arc_value}
use Rattle.std.specs.Option.{option_map_or}
use Rattle.std.specs.Prelude.{◌&&◌, ◌||◌, is_ok, is_some}
use Rattle.std.proofs.Math.Bool.{or-false}
use Rattle.blob_digest.specs.Names.{tenant_name}
use Rattle.blob_digest.specs.declared.range.ByteRange.{ByteRange}
use Rattle.blob_digest.specs.declared.refusal.Refusal.{Refusal}
use Rattle.store_book.specs.Pinned.{blob_bytes}
use Rattle.spec_lib.specs.Texts.{Text}
use Rattle.store_model.specs.Catalog.{HandRecord}
use Rattle.store_model.specs.Histories.{CommandCall, FinishCall, PutBackCall, Step, SweepCall, SweepPartCall, TakeCall}
use Rattle.store_model.specs.Runs.{Answer, Bytes, Command, GetManifest, Lease, Number, PutManifest, Status}
use Rattle.locked_book.specs.Calls.{reply, step_of}
use Rattle.locked_book.specs.Logging.{IsSmall, IsUnrecorded, bytes_if_ok, check_in_bytes, chunk_record_bytes, finish_bytes, is_noted, is_change, is_changing, is_chunk, logged_by, manifest_bytes, promises, promises_changes, promises_chunks, recorded_bytes, step_bytes}
use Rattle.locked_book.specs.Returns.{MayReturn}
use Rattle.locked_book.specs.declared.call.Call.{Call}
use Rattle.locked_book.specs.declared.call.Call.TheVariants as call
use Rattle.locked_book.specs.declared.policy.LogPolicy.{LogPolicy}
use Rattle.locked_book.specs.declared.policy.LogPolicy.TheVariants as policy

-- ---- policies

pub logged_by-nil : (p : LogPolicy) → logged_by p [] ≡ []
logged_by-nil policy.NoLog = refl
logged_by-nil policy.Never = refl
logged_by-nil policy.Closes = refl
logged_by-nil policy.Each = refl

-- a step that changes nothing is not promised
pub unpromised : (p : LogPolicy) (step : Step) → is_change step ≡ false → is_chunk step ≡ false → promises p step ≡ false
unpromised policy.NoLog step a b = refl
unpromised policy.Never step a b = refl
unpromised policy.Closes step a b = ap (λ x. x || false) a
unpromised policy.Each step a b = ap (λ x. x || is_chunk step) a ∙ b

-- a step that adds no chunk is promised with the changes
pub promised_change : (p : LogPolicy) (step : Step) → is_chunk step ≡ false → promises p step ≡ (promises_changes p && is_change step)
promised_change policy.NoLog step b = refl
promised_change policy.Never step b = refl
promised_change policy.Closes step b = or-false (is_change step)
promised_change policy.Each step b = ap (λ x. is_change step || x) b ∙ or-false (is_change step)

-- ---- calls

-- nothing is recorded of a step, and it is not promised
abbrev pub RecordsNothing : LogPolicy → Option ℕ → Step → Type 0
RecordsNothing p longest step = (recorded_bytes p longest step ≡ []) × (promises p step ≡ false)

nothing : (p : LogPolicy) (longest : Option ℕ) (step : Step) → step_bytes longest step ≡ [] → is_change step ≡ false → is_chunk step ≡ false → RecordsNothing p longest step
nothing p longest step bytes change chunk = (ap (logged_by p) bytes ∙ logged_by-nil p, unpromised p step change chunk)

-- a command that only reads
reads : {A : Type 0} (p : LogPolicy) (longest : Option ℕ) (command : Command) (f : A → Answer) (result : Result A Refusal) →
    ((a : A) → step_bytes longest (CommandCall command (Ok (f a))) ≡ []) → is_changing command ≡ false → RecordsNothing p longest (CommandCall command (reply f result))
reads p longest command f (Ok a) bytes changing = nothing p longest (CommandCall command (Ok (f a))) (bytes a) changing refl
reads p longest command f (Err e) bytes changing = nothing p longest (CommandCall command (Err e)) refl refl refl

taken : (p : LogPolicy) (longest : Option ℕ) (repo : Text) (number : ℕ) (range : Option ByteRange) (len : ℕ) (result : Result HandRecord Refusal) → RecordsNothing p longest (TakeCall repo number range len result)
taken p longest repo number range len result = nothing p longest (TakeCall repo number range len result) refl refl refl

unfilled : (p : LogPolicy) (longest : Option ℕ) (hand : HandRecord) (result : Result ℕ Refusal) → hand.last ≡ None → RecordsNothing p longest (PutBackCall hand result)
unfilled p longest hand (Ok n) none = nothing p longest (PutBackCall hand (Ok n))
    (ap (λ (last : Option Text). chunk_record_bytes (is_noted longest (PutBackCall hand (Ok n))) (tenant_name hand.repo) hand.key.1 (option_map_or (λ b. b) last [])) none) refl (ap (λ (last : Option Text). is_some last) none)
unfilled p longest hand (Err e) none = nothing p longest (PutBackCall hand (Err e)) refl refl refl

pub unrecorded : (p : LogPolicy) (longest : Option ℕ) (c : Call) → IsUnrecorded c → RecordsNothing p longest (step_of c)
unrecorded p longest (call.Start repo result) u = absurd u
unrecorded p longest (call.Status repo number result) u = reads p longest (Status repo.now number) Number result.now (λ a. refl) refl
unrecorded p longest (call.Take repo number range len result) u = taken p longest repo.now number range len result.now
unrecorded p longest (call.PutBack hand result) u = unfilled p longest hand.now.value result.now u
unrecorded p longest (call.Finish hand digest result) u = absurd u
unrecorded p longest (call.Abandon repo number result) u = absurd u
unrecorded p longest (call.Mount repo digest from result) u = absurd u
unrecorded p longest (call.Delete repo digest result) u = absurd u
unrecorded p longest (call.PutManifest repo manifest result) u = absurd u
unrecorded p longest (call.RefuseManifest repo bytes e) u = nothing p longest (CommandCall (PutManifest repo.now bytes.now) (Err e.now)) refl refl refl
unrecorded p longest (call.GetManifest repo digest result) u = reads p longest (GetManifest repo.now digest.now) (λ m. Bytes (arc_value m)) result.now (λ a. refl) refl
unrecorded p longest (call.DeleteManifest repo digest result) u = absurd u
unrecorded p longest (call.RemoveRepo repo result) u = absurd u
unrecorded p longest (call.Lease repo digest result) u = reads p longest (Lease repo.now digest.now) (λ r. Bytes (blob_bytes (arc_value r.1))) result.now (λ a. refl) refl
unrecorded p longest (call.Sweep swept) u = nothing p longest (SweepCall swept.now) refl refl refl
unrecorded p longest (call.SweepPart swept) u = nothing p longest (SweepPartCall swept.now) refl refl refl

-- a call without a body returns no hand, and adds no chunk
pub small : (c : Call) → IsSmall c → (own : List Step) → MayReturn own (step_of c) × (is_chunk (step_of c) ≡ false)
small (call.Start repo result) s own = (tt, refl)
small (call.Status repo number result) s own = (tt, refl)
small (call.Take repo number range len result) s own = (tt, refl)
small (call.PutBack hand result) s own = absurd s
small (call.Finish hand digest result) s own = absurd s
small (call.Abandon repo number result) s own = (tt, refl)
small (call.Mount repo digest from result) s own = (tt, refl)
small (call.Delete repo digest result) s own = (tt, refl)
small (call.PutManifest repo manifest result) s own = absurd s
small (call.RefuseManifest repo bytes e) s own = (tt, refl)
small (call.GetManifest repo digest result) s own = (tt, refl)
small (call.DeleteManifest repo digest result) s own = (tt, refl)
small (call.RemoveRepo repo result) s own = (tt, refl)
small (call.Lease repo digest result) s own = (tt, refl)
small (call.Sweep swept) s own = (tt, refl)
small (call.SweepPart swept) s own = (tt, refl)

-- ---- records that are made before their steps

pub check_in_record : (p : LogPolicy) (longest : Option ℕ) (hand : HandRecord) (result : Result ℕ Refusal) → bytes_if_ok result (check_in_bytes p longest hand) ≡ recorded_bytes p longest (PutBackCall hand result)
check_in_record p longest hand (Ok n) = refl
check_in_record p longest hand (Err e) = sym (logged_by-nil p)

pub check_in_promise : (p : LogPolicy) (hand : HandRecord) (result : Result ℕ Refusal) → hand.last ≢ None → (promises_chunks p && is_ok result) ≡ promises p (PutBackCall hand result)
check_in_promise p hand result filled = promised p hand.last result filled
  where
    promised : (p : LogPolicy) (last : Option Text) (result : Result ℕ Refusal) → last ≢ None → (promises_chunks p && is_ok result) ≡ promises p (PutBackCall (record hand { last = last }) result)
    promised p None result filled = absurd (filled refl)
    promised policy.NoLog (Some b) (Ok n) filled = refl
    promised policy.Never (Some b) (Ok n) filled = refl
    promised policy.Closes (Some b) (Ok n) filled = refl
    promised policy.Each (Some b) (Ok n) filled = refl
    promised policy.NoLog (Some b) (Err e) filled = refl
    promised policy.Never (Some b) (Err e) filled = refl
    promised policy.Closes (Some b) (Err e) filled = refl
    promised policy.Each (Some b) (Err e) filled = refl

pub finish_record : (p : LogPolicy) (longest : Option ℕ) (hand : HandRecord) (digest : Text) (result : Result ℕ Refusal) → bytes_if_ok result (finish_bytes p longest hand digest) ≡ recorded_bytes p longest (FinishCall hand digest result)
finish_record p longest hand digest (Ok n) = refl
finish_record p longest hand digest (Err e) = sym (logged_by-nil p)

pub finish_promise : (p : LogPolicy) (hand : HandRecord) (digest : Text) (result : Result ℕ Refusal) → (promises_changes p && is_ok result) ≡ promises p (FinishCall hand digest result)
finish_promise p hand digest (Ok n) = sym (promised_change p (FinishCall hand digest (Ok n)) refl)
finish_promise p hand digest (Err e) = sym (promised_change p (FinishCall hand digest (Err e)) refl)

pub manifest_record : {A : Type 0} (p : LogPolicy) (longest : Option ℕ) (repo bytes : Text) (f : A → Answer) (result : Result A Refusal) →
    bytes_if_ok result (manifest_bytes p repo bytes) ≡ recorded_bytes p longest (CommandCall (PutManifest repo bytes) (reply f result))
manifest_record p longest repo bytes f (Ok a) = refl
manifest_record p longest repo bytes f (Err e) = sym (logged_by-nil p)

pub manifest_promise : {A : Type 0} (p : LogPolicy) (repo bytes : Text) (f : A → Answer) (result : Result A Refusal) → (promises_changes p && is_ok result) ≡ promises p (CommandCall (PutManifest repo bytes) (reply f result))
manifest_promise p repo bytes f (Ok a) = sym (promised_change p (CommandCall (PutManifest repo bytes) (Ok (f a))) refl)
manifest_promise p repo bytes f (Err e) = sym (promised_change p (CommandCall (PutManifest repo bytes) (Err e)) refl)
