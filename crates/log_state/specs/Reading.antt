-- What was read of logs, and the state that they leave.
use Rattle.std.specs.Prelude.{◌≡◌, ◌++◌, ℕ, List, [], Option}
use Rattle.std.specs.Io.KnownBytes.{Consumes, IsAtEnd}
use Rattle.std.specs.List.{AllByRecursion}
use Rattle.log_frames.specs.Frames.{AreFrames, Frame, frames_bytes, payloads}
use Rattle.log_frames.specs.Headers.{start_of}
use Rattle.log_records.specs.Changes.{Change, IsChange}
use Rattle.log_records.specs.Records.{records_bytes}
use Rattle.spec_lib.specs.Texts.{Text}
use Rattle.log_state.specs.LoggedStates.{AreSame, LoggedState, state_after, state_in}
use Rattle.log_state.specs.declared.reading.LogReading.{LogReading}

-- These bytes are the records of some changes, and a rest. The changes leave this state in a store with these tenants.
pub record LeaveState (names : List Text) (bytes left : List ℕ) (S : LoggedState) : Type 0 where
  pub changes : List Change
  pub fit : AllByRecursion IsChange changes
  pub whole : bytes ≡ records_bytes changes ++ left
  pub state : S ≡ state_after names changes

-- Two logs with these records leave the same state in a store with these tenants, but for contents without a link.
pub record LeaveSameState (names : List Text) (bytes others : List ℕ) : Type 0 where
  pub state : LoggedState
  pub other : LoggedState
  pub left_by : LeaveState names bytes [] state
  pub left_by_others : LeaveState names others [] other
  pub same : AreSame state other

-- the names of the tenants of a reading
abbrev pub names_of : LogReading → List Text
names_of r = r.state.tenants.now

-- these bytes were read
abbrev pub HasRead : List ℕ → LogReading → Type 0
HasRead bytes r = LeaveState (names_of r) bytes r.left.items (state_in r.state)

-- the records in front of a rest were taken
pub record TakesRecords (old : LogReading) (bytes rest : List ℕ) (new : LogReading) : Type 0 where
  pub tenants : names_of new ≡ names_of old
  pub more : (before : List ℕ) → LeaveState (names_of old) before [] (state_in old.state)
      → LeaveState (names_of old) (before ++ bytes) rest (state_in new.state)

-- a payload was taken: whatever was read before, now the payload was read after it
pub record TakesPayload (old : LogReading) (payload : List ℕ) (new : LogReading) : Type 0 where
  pub tenants : names_of new ≡ names_of old
  pub more : (before : List ℕ) → HasRead before old → HasRead (before ++ payload) new

-- A log with this id was read as a whole: it has these frames and ends after them. Whatever was read before, now their payloads were read after it,
-- and no part of a record is left.
pub record ReadsLog (id : ℕ) (log : Option (List ℕ)) (old new : LogReading) : Type 0 where
  pub frames : List Frame
  pub fit : AreFrames id (start_of id) frames
  pub rest : Option (List ℕ)
  pub begins : Consumes log rest (frames_bytes id (start_of id) frames)
  pub ends : IsAtEnd rest
  pub tenants : names_of new ≡ names_of old
  pub more : (before : List ℕ) → HasRead before old → HasRead (before ++ payloads frames) new
  pub whole : new.left.items ≡ []

-- whatever was read in both readings, both leave the same state
abbrev pub LeaveSame : LogReading → LogReading → Type 0
LeaveSame r q = (bytes others : List ℕ) → HasRead bytes r → HasRead others q → LeaveSameState (names_of r) bytes others
