-- Commands with their replies, and runs of commands and sweeps.
use Rattle.std.specs.Prelude.{◌≡◌, ◌≤◌, ◌⊎◌, ℕ, Bool, true, false, Option, Some, None, Result, Ok, Err, List, [], ◌∷◌, length}
use Rattle.std.specs.List.{AllByRecursion}
use Rattle.blob_digest.specs.declared.range.ByteRange.{ByteRange}
use Rattle.blob_digest.specs.declared.refusal.Refusal.{Refusal}
use Rattle.blob_digest.specs.declared.refusal.Refusal.TheVariants.{Memory}
use Rattle.store_model.specs.declared.mount.Mount as mount
use Rattle.spec_lib.specs.Texts.{Text}
use Rattle.store_model.specs.Catalog.{Catalog}
use Rattle.store_model.specs.Invariant.{Sound}
use Rattle.store_model.specs.Commands
use Rattle.store_model.specs.Commands.{Outcome}
use Rattle.store_model.specs.declared.swept.Swept.{Swept as SweptCounts}
use Rattle.store_model.specs.Sweep.{IsSweep, IsSweepPart}

-- a command: its repository and its other arguments
pub data Command : Type 0 where
  Start : Text → Command
  Status : Text → ℕ → Command
  Append : Text → ℕ → Option ByteRange → Text → Command
  Close : Text → ℕ → Text → Option ByteRange → Text → Command
  Abandon : Text → ℕ → Command
  Mount : Text → Text → Option Text → Command
  Delete : Text → Text → Command
  PutManifest : Text → Text → Command
  GetManifest : Text → Text → Command
  DeleteManifest : Text → Text → Command
  RemoveRepo : Text → Command
  Lease : Text → Text → Command

-- the first repository of a command, whose tenant is the caller
abbrev pub repo_of : Command → Text
repo_of (Start r) = r
repo_of (Status r n) = r
repo_of (Append r n g b) = r
repo_of (Close r n d g b) = r
repo_of (Abandon r n) = r
repo_of (Mount r d from) = r
repo_of (Delete r d) = r
repo_of (PutManifest r b) = r
repo_of (GetManifest r m) = r
repo_of (DeleteManifest r m) = r
repo_of (RemoveRepo r) = r
repo_of (Lease r d) = r

-- the result of a command: a number or length, the result of a mount, a digest or bytes, or nothing
pub data Answer : Type 0 where
  Number : ℕ → Answer
  Mounting : mount.Mount → Answer
  Bytes : Text → Answer
  Done : Answer

-- an outcome with its result mapped by f
abbrev pub map_outcome : {A B : Type 0} → (A → B) → Outcome A → Outcome B
map_outcome f (Ok x) = Ok (f x.0, x.1)
map_outcome f (Err e) = Err e

-- the outcome of a command that changes nothing, from its result
abbrev pub reading_outcome : {A : Type 0} → (A → Answer) → Catalog → Result A Refusal → Outcome Answer
reading_outcome f C (Ok a) = Ok (f a, C)
reading_outcome f C (Err e) = Err e

-- the outcome of a command; `crowded` is whether the slot that it leases has too many readers
abbrev pub outcome : Bool → Catalog → Command → Outcome Answer
outcome crowded C (Start r) = map_outcome Number (Commands.start C r)
outcome crowded C (Status r n) = reading_outcome Number C (Commands.status C r n)
outcome crowded C (Append r n g b) = map_outcome Number (Commands.append C r n g b)
outcome crowded C (Close r n d g b) = map_outcome Number (Commands.close C r n d g b)
outcome crowded C (Abandon r n) = map_outcome Number (Commands.abandon C r n)
outcome crowded C (Mount r d from) = map_outcome Mounting (Commands.mount C r d from)
outcome crowded C (Delete r d) = map_outcome (λ _. Done) (Commands.delete C r d)
outcome crowded C (PutManifest r b) = map_outcome Bytes (Commands.put_manifest C r b)
outcome crowded C (GetManifest r m) = reading_outcome Bytes C (Commands.get_manifest C r m)
outcome crowded C (DeleteManifest r m) = map_outcome (λ _. Done) (Commands.delete_manifest C r m)
outcome crowded C (RemoveRepo r) = map_outcome (λ _. Done) (Commands.remove_repo C r)
outcome crowded C (Lease r d) = map_outcome Bytes (Commands.lease crowded C r d)

-- ---- the cases of a command

-- whether a command may allocate
abbrev pub takes_memory : Command → Bool
takes_memory (Status r n) = false
takes_memory (Abandon r n) = false
takes_memory (Delete r d) = false
takes_memory (DeleteManifest r m) = false
takes_memory (RemoveRepo r) = false
takes_memory command = true

-- a command with this reply leads from one catalog to another: by its outcome, or unchanged with `Memory`
abbrev pub IsCommandCase : Catalog → Command → Result Answer Refusal → Catalog → Type 0
IsCommandCase C command (Ok a) C' = outcome false C command ≡ Ok (a, C')
IsCommandCase C command (Err e) C' = (((crowded : Bool) × (outcome crowded C command ≡ Err e)) ⊎ ((e ≡ Memory) × (takes_memory command ≡ true))) × (C' ≡ C)

-- ---- runs

-- an event of a run: a command with its reply, or a sweep or part of one with its counts
pub data Event : Type 0 where
  CommandEvent : Command → Result Answer Refusal → Event
  SweepEvent : SweptCounts → Event
  SweepPartEvent : SweptCounts → Event

-- an event leads from one catalog to another
abbrev pub Happens : Catalog → Event → Catalog → Type 0
Happens C (CommandEvent command reply) C' = IsCommandCase C command reply C'
Happens C (SweepEvent swept) C' = IsSweep C swept C'
Happens C (SweepPartEvent swept) C' = IsSweepPart C swept C'

-- a list of events, one after another, leads from one catalog to another
abbrev pub IsRun : Catalog → List Event → Catalog → Type 0
IsRun C [] C' = C' ≡ C
IsRun C (e ∷ es) C' = (mid : Catalog) × Happens C e mid × IsRun mid es C'

-- the first repository name of a command has at most 255 bytes
abbrev pub HasShortName : Event → Type 0
HasShortName (CommandEvent command reply) = length (repo_of command) ≤ 255
HasShortName (SweepEvent swept) = Unit {0}
HasShortName (SweepPartEvent swept) = Unit {0}

-- Every run from a sound catalog leads to a sound catalog, if its repository names have at most 255 bytes.
abbrev pub RunsStaySound : Type 0
RunsStaySound = (C C' : Catalog) (es : List Event) → AllByRecursion HasShortName es → IsRun C es C' → Sound C → Sound C'

-- ---- a run of given commands and sweeps

-- the requests of a list of events: a command, or none for a sweep or part of one
abbrev pub asked_commands : List Event → List (Option Command)
asked_commands [] = []
asked_commands (CommandEvent command reply ∷ es) = Some command ∷ asked_commands es
asked_commands (SweepEvent s ∷ es) = None ∷ asked_commands es
asked_commands (SweepPartEvent s ∷ es) = None ∷ asked_commands es

-- a run of these requests exists from the catalog C
pub record HasRun (C : Catalog) (wanted : List (Option Command)) : Type 0 where
  pub events : List Event
  pub last : Catalog
  pub run : IsRun C events last
  pub as_asked : asked_commands events ≡ wanted

-- Every list of commands and sweeps has a run from every catalog.
abbrev pub RunsExist : Type 0
RunsExist = (wanted : List (Option Command)) (C : Catalog) → HasRun C wanted
