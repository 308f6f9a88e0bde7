-- The replay of a log by commands: the command of each change, and the conditions under which it succeeds.
use Rattle.std.specs.Prelude.{◌≡◌, ℕ, IsOk, List, [], ◌∷◌, Option, Some, None, Ok, true, false}
use Rattle.std.specs.Option.{option_map}
use Rattle.std.specs.FinMap as fmap
use Rattle.std.specs.List.{AllByRecursion, cons_option}
use Rattle.store_model.specs.Catalog.{Catalog, Tenant, opening, ContentRules}
use Rattle.store_model.specs.Commands.{fits_stored, has_slot}
use Rattle.store_model.specs.Durable.{Agrees, AreReturnedAsTaken, BlobLinked, BlobUnlinked, Change, ChunkReceived, DurableState, IsReturnedAsTaken, ManifestDeleted, ManifestPut, RepoRemoved, SessionDropped, SessionOpened, SessionSealed, TakenSessions, after_change, after_changes, change_of, changes_of, command_change, initial_durable}
use Rattle.store_model.specs.Histories.{LeadsTo, MayLeadTo, State, Step}
use Rattle.store_model.specs.Invariant.{Sound}
use Rattle.store_model.specs.Noninterference.{commands_of, replies}
use Rattle.store_model.specs.Recovery.{IsWellFormedStep}
use Rattle.store_model.specs.Runs.{Abandon, Answer, Append, Close, Command, Delete, DeleteManifest, Event, IsRun, Mount, PutManifest, RemoveRepo, Start, outcome}
use Rattle.store_model.specs.Sessions.{content_in}

-- ---- one change

-- the command that makes a change again in a store with this durable state; the changes of rewritten logs have none
abbrev pub replay_command : DurableState → Change → Option Command
replay_command D (SessionOpened repo key) = Some (Start repo)
replay_command D (ChunkReceived key bytes) =
    option_map (λ s. Append s.repo key.1 None bytes) (fmap.get D.sessions key)
replay_command D (SessionSealed key digest last) =
    option_map (λ s. Close s.repo key.1 digest None last) (fmap.get D.sessions key)
replay_command D (SessionDropped key) = option_map (λ s. Abandon s.repo key.1) (fmap.get D.sessions key)
replay_command D (BlobLinked repo digest) = Some (Mount repo digest None)
replay_command D (BlobUnlinked repo digest) = Some (Delete repo digest)
replay_command D (ManifestPut repo bytes) = Some (PutManifest repo bytes)
replay_command D (ManifestDeleted repo digest) = Some (DeleteManifest repo digest)
replay_command D (RepoRemoved repo) = Some (RemoveRepo repo)
replay_command D change = None

-- if the change seals a session, there is a slot for its blob, and no stored blob of its digest has another length
abbrev pub HasRoomFor : DurableState → Catalog → Change → Type 0
HasRoomFor D C (SessionSealed key digest last) =
    (has_slot C digest ≡ Ok tt) × (fits_stored C.contents (fmap.get C.residents digest) (content_in D.sessions key last) ≡ true)
HasRoomFor D C change = Unit {0}

-- the command of the change succeeds, records the same change, and leads to a sound, agreeing catalog
pub record HasReplay (D : DurableState) (C : Catalog) (change : Change) : Type 0 where
  pub command : Command
  pub answer : Answer
  pub catalog : Catalog
  pub names : replay_command D change ≡ Some command
  pub accepted : outcome false C command ≡ Ok (answer, catalog)
  pub records : command_change D.tenants command answer ≡ Some change
  pub agrees : Agrees fmap.empty (after_change D change) catalog
  pub sound : Sound catalog

-- A step that recorded the change may lead from the state s to the catalog X, and the durable state agrees with s before it.
pub record IsRecordedStep (taken : TakenSessions) (D : DurableState) (s : State) (step : Step) (X : Catalog) (change : Change) : Type 0 where
  pub agrees : Agrees taken D s.catalog
  pub sound : Sound s.catalog
  pub leaves : MayLeadTo s step X
  pub returned : IsReturnedAsTaken taken step
  pub well_formed : IsWellFormedStep step
  pub records : change_of D.tenants step ≡ Some change

-- The change of a step has a replay in every store that agrees with the durable state before the step and has room.
abbrev pub ChangesHaveReplays : Type 0
ChangesHaveReplays = (taken : TakenSessions) (D : DurableState) (s : State) (step : Step) (X : Catalog)
    (change : Change) → IsRecordedStep taken D s step X change →
    (C : Catalog) → Agrees fmap.empty D C → Sound C → C.contents ≡ s.catalog.contents →
    HasRoomFor D C change → HasReplay D C change

-- ---- a whole log

-- the commands that make a list of changes again
abbrev pub replay_commands : DurableState → List Change → List Command
replay_commands D [] = []
replay_commands D (change ∷ changes) =
    cons_option (replay_command D change) (replay_commands (after_change D change) changes)

-- A run of the commands of these changes, which all succeed, and of sweeps leads to a sound, agreeing catalog.
pub record HasLogReplay (D : DurableState) (C : Catalog) (changes : List Change) : Type 0 where
  pub events : List Event
  pub catalog : Catalog
  pub run : IsRun C events catalog
  pub asks : commands_of events ≡ replay_commands D changes
  pub accepts : AllByRecursion IsOk (replies events)
  pub agrees : Agrees fmap.empty (after_changes D changes) catalog
  pub sound : Sound catalog

-- The log of a legal history of a sound new store has a replay in a new store with the same settings.
abbrev pub LogsHaveReplays : Type 0
LogsHaveReplays = (tenants : List Tenant) (slots : ℕ) (contents : ContentRules) (steps : List Step) (s : State) →
    Sound (opening tenants slots contents) → LeadsTo (opening tenants slots contents) steps s →
    AreReturnedAsTaken fmap.empty steps → AllByRecursion IsWellFormedStep steps →
    HasLogReplay (initial_durable tenants) (opening tenants slots contents) (changes_of tenants steps)
