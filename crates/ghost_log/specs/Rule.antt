-- The rule of the table: the owner has the log, and each writer has a prefix of it and its own events.
use Rattle.std.specs.Prelude.{◌≡◌, ℕ, ◌≤◌, ◌<◌, List, [], Option, Some, None}
use mathlib.Core.Option.{some}
use lib.ListN.{get_elem?}
use Rattle.ghost_log.specs.declared.view.WriterView.{WriterView}
use Rattle.ghost_log.specs.declared.view.Contents.{Contents}
use Rattle.ghost_log.specs.declared.view.View.{View}
use Rattle.ghost_log.specs.declared.view.View.TheVariants.{Owner, OfWriter, Empty}
use Rattle.ghost_log.specs.Entries.{Entry, IsPrefix, events_by}

-- the owner's contents with these entries, this number of writers and this writer in transit
abbrev pub contents : {E : Type 0} → List (Entry E) → ℕ → Option (WriterView E) → Contents E
contents entries writers transit = record { entries = entries; writers = writers; transit = transit }

-- the knowledge of a writer with this number, this prefix and these events
abbrev pub known : {E : Type 0} → ℕ → List (Entry E) → List E → WriterView E
known number seen own = record { number = number; seen = seen; own = own }

-- a writer of this log has seen a prefix of it, and its own events are those of the entries with its number
pub record IsWriterOf {E : Type 0} (entries : List (Entry E)) (writers : ℕ) (k : WriterView E) : Type 0 where
  pub number : k.number < writers
  pub seen : IsPrefix k.seen entries
  pub own : events_by k.number entries ≡ k.own

-- the writer in transit, if there is one, is a writer of this log and at the owner's seat
abbrev pub InTransit : {E : Type 0} → Contents E → (ℕ → ℕ) → Option (WriterView E) → Type 0
InTransit c seat None = Unit {0}
InTransit c seat (Some k) = (seat k.number ≡ 0) × IsWriterOf c.entries c.writers k

-- the view of the seat with this number is true of the log
abbrev pub IsTrueView : {E : Type 0} → Contents E → (ℕ → ℕ) → ℕ → View E → Type 0
IsTrueView c seat id (Owner o) = (id ≡ 0) × (o ≡ c)
IsTrueView c seat id (OfWriter k) = (seat k.number ≡ id) × IsWriterOf c.entries c.writers k
IsTrueView c seat id Empty = Unit {0}

-- the views of all seats are true of one log
pub record FollowsRule {E : Type 0} (views : List (View E)) : Type 0 where
  pub contents : Contents E
  -- the seat of each writer
  pub seat : ℕ → ℕ
  pub top : get_elem? views 0 ≡ some (Owner contents)
  pub each : (id : ℕ) (v : View E) → get_elem? views id ≡ some v → IsTrueView contents seat id v
  pub transit : InTransit contents seat contents.transit
  -- no entry has a number that no writer has
  pub unused : (number : ℕ) → contents.writers ≤ number → events_by number contents.entries ≡ []

-- the owner's view of an empty log without writers
abbrev pub initial_view : {E : Type 0} → View E
initial_view = Owner (contents [] 0 None)
