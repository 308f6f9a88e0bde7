-- Histories as runs of whole commands: check-outs are dropped, and each upload happens when its hand is checked in or finished.
use Rattle.std.specs.Prelude.{◌≡◌, ◌≢◌, ◌⊎◌, ℕ, Option, Some, Result, Ok, Err, List, [], ◌∷◌, ◌++◌, length}
use Rattle.std.specs.FinMap as fmap
use Rattle.std.specs.List.{AllByRecursion}
use Rattle.blob_digest.specs.declared.range.ByteRange.{ByteRange}
use Rattle.blob_digest.specs.declared.refusal.Refusal.{Refusal}
use Rattle.blob_digest.specs.declared.refusal.Refusal.TheVariants.{Busy, Memory, Quota}
use Rattle.spec_lib.specs.Texts.{Text}
use Rattle.store_model.specs.Catalog.{HandRecord, Tenant, session_number_cmp, opening, ContentRules}
use Rattle.store_model.specs.Histories.{AreSteps, SweepCall, SweepPartCall, FinishCall, IsUncountable, LeadsTo, CommandCall, PutBackCall, State, Step, TakeCall, initial_state}
use Rattle.store_model.specs.Invariant.{Sound}
use Rattle.store_model.specs.Runs.{Answer, Append, CommandEvent, Close, Command, Event, HasShortName, IsRun, Number, SweepEvent, SweepPartEvent}

-- ---- the commands of steps

-- a checked-out session: its hand, its repository and the range of its chunk
pub record CheckedOut : Type 0 where
  pub hand : HandRecord
  pub repo : Text
  pub range : Option ByteRange

-- the checked-out sessions, by their keys
abbrev pub CheckedOutSessions : Type 0
CheckedOutSessions = fmap.FinMap session_number_cmp CheckedOut

-- the command is an append to a session or a close of it, with this chunk
abbrev pub IsUpload : Text → ℕ → Option ByteRange → Text → Command → Type 0
IsUpload repo n range bytes command = (command ≡ Append repo n range bytes) ⊎ ((digest : Text) × (command ≡ Close repo n digest range bytes))

-- the events are one append or close with a chunk of this length, which fails with e
abbrev pub IsFailedUpload : Text → ℕ → Option ByteRange → ℕ → Refusal → List Event → Type 0
IsFailedUpload repo n range len e events = (command : Command) × (bytes : Text) × (length bytes ≡ len) × IsUpload repo n range bytes command × (events ≡ CommandEvent command (Err e) ∷ [])

-- the hand is the checked-out one, with a chunk of the reserved length filled in
abbrev pub IsFilledHand : CheckedOut → HandRecord → Text → Type 0
IsFilledHand out hand bytes = (length bytes ≡ out.hand.reserved) × (hand ≡ record out.hand { last = Some bytes })

-- a length as the reply of a command
abbrev pub length_reply : Result ℕ Refusal → Result Answer Refusal
length_reply (Ok n) = Ok (Number n)
length_reply (Err e) = Err e

-- the events of a check-in are an append if a chunk was filled in, else an upload that failed with `Memory`
abbrev pub IsCheckIn : CheckedOut → HandRecord → Result ℕ Refusal → List Event → Type 0
IsCheckIn out hand reply events =
    ((bytes : Text) × IsFilledHand out hand bytes × (events ≡ CommandEvent (Append out.repo hand.key.1 out.range bytes) (length_reply reply) ∷ []))
    ⊎ ((hand ≡ out.hand) × IsFailedUpload out.repo hand.key.1 out.range out.hand.reserved Memory events)

-- the event of a finish is a close with the chunk that was filled in
abbrev pub IsFinish : CheckedOut → HandRecord → Text → Result ℕ Refusal → List Event → Type 0
IsFinish out hand digest reply events = (bytes : Text) × IsFilledHand out hand bytes × (events ≡ CommandEvent (Close out.repo hand.key.1 digest out.range bytes) (length_reply reply) ∷ [])

-- a step corresponds to these events and leaves these sessions checked out; a failed check-out is its whole append or close
abbrev pub CorrespondsTo : CheckedOutSessions → Step → List Event → CheckedOutSessions → Type 0
CorrespondsTo hands (CommandCall command reply) events after = (events ≡ CommandEvent command reply ∷ []) × (after ≡ hands)
CorrespondsTo hands (SweepCall swept) events after = (events ≡ SweepEvent swept ∷ []) × (after ≡ hands)
CorrespondsTo hands (SweepPartCall swept) events after = (events ≡ SweepPartEvent swept ∷ []) × (after ≡ hands)
CorrespondsTo hands (TakeCall r n g len (Ok h)) events after = (events ≡ []) × (after ≡ fmap.insert hands h.key (record { hand = h; repo = r; range = g }))
CorrespondsTo hands (TakeCall r n g len (Err e)) events after = IsFailedUpload r n g len e events × (after ≡ hands)
CorrespondsTo hands (PutBackCall h reply) events after = (out : CheckedOut) × (fmap.get hands h.key ≡ Some out) × IsCheckIn out h reply events × (after ≡ fmap.remove hands h.key)
CorrespondsTo hands (FinishCall h d reply) events after = (out : CheckedOut) × (fmap.get hands h.key ≡ Some out) × IsFinish out h d reply events × (after ≡ fmap.remove hands h.key)

-- the steps correspond to these events, and no session is checked out at the end
abbrev pub AreWholeCommands : CheckedOutSessions → List Step → List Event → Type 0
AreWholeCommands hands [] events = (hands ≡ fmap.empty) × (events ≡ [])
AreWholeCommands hands (step ∷ steps) events = (first : List Event) × (rest : List Event) × (after : CheckedOutSessions) × CorrespondsTo hands step first after × (events ≡ first ++ rest) × AreWholeCommands after steps rest

-- ---- the premise

-- the error is not one that a checked-out session may cause: `Busy` or `Quota`
abbrev pub IsContentionFree : Refusal → Type 0
IsContentionFree e = (e ≢ Busy) × ((used quota : ℕ) → e ≢ Quota used quota)

-- the reply of a step is free of contention: neither `Busy` nor `Quota`, nor an error because it can't be counted
abbrev pub IsContentionFreeStep : State → Step → Type 0
IsContentionFreeStep s (CommandCall command (Err e)) = IsContentionFree e × ¬ (IsUncountable s 0 e)
IsContentionFreeStep s (TakeCall r n g len (Err e)) = IsContentionFree e × ¬ (IsUncountable s len e)
IsContentionFreeStep s (FinishCall h d (Err e)) = IsContentionFree e
IsContentionFreeStep s step = Unit {0}

-- the reply of every step is free of contention
abbrev pub AreContentionFree : (s : State) (steps : List Step) (s' : State) → AreSteps s steps s' → Type 0
AreContentionFree s [] s' run = Unit {0}
AreContentionFree s (step ∷ steps) s' run = IsContentionFreeStep s step × AreContentionFree run.0 steps s' run.2

-- ---- the theorem

-- A history that is free of contention and ends with no session checked out is a run of whole commands with the same catalog at the end.
abbrev pub HistoriesAreRuns : Type 0
HistoriesAreRuns = (tenants : List Tenant) (slots : ℕ) (contents : ContentRules) (steps : List Step) (s : State) (events : List Event) → Sound (opening tenants slots contents) →
    (run : LeadsTo (opening tenants slots contents) steps s) → AreContentionFree (initial_state (opening tenants slots contents)) steps s run →
    AreWholeCommands fmap.empty steps events → AllByRecursion HasShortName events → IsRun (opening tenants slots contents) events s.catalog
