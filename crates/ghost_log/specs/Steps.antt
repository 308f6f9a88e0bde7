-- The kinds of steps: the facts that each finds, and the views after it.
use Rattle.std.specs.Prelude.{◌≡◌, ℕ, ◌+◌, ◌≤◌, List, [], ◌++◌, Option, Some, None}
use Rattle.atomic_table.specs.Table.{Me, Step}
use Rattle.ghost_log.specs.declared.view.WriterView.{WriterView}
use Rattle.ghost_log.specs.declared.view.Contents.{Contents}
use Rattle.ghost_log.specs.declared.view.View.{View}
use Rattle.ghost_log.specs.declared.view.View.TheVariants.{Owner, OfWriter, Empty}
use Rattle.ghost_log.specs.Entries.{Entry, entries_by, events_by}
use Rattle.ghost_log.specs.Rule.{contents, known, IsWriterOf}

-- ---- splits and joins

-- the owner's view after the writer in transit got a seat of its own
abbrev pub without_transit : {E : Type 0} → View E → View E
without_transit (Owner c) = Owner (contents c.entries c.writers None)
without_transit v = v

-- the view of the seat that the writer in transit gets
abbrev pub own_seat_view : {E : Type 0} → Option (WriterView E) → View E
own_seat_view None = Empty
own_seat_view (Some k) = OfWriter k

-- the view of the writer in the owner's transit
abbrev pub transit_view : {E : Type 0} → View E → View E
transit_view (Owner c) = own_seat_view c.transit
transit_view v = Empty

-- the owner's view with this writer in transit
abbrev pub with_transit : {E : Type 0} → Contents E → View E → View E
with_transit c (OfWriter k) = Owner (contents c.entries c.writers (Some k))
with_transit c v = Owner c

-- the owner's view after it took a writer's seat in
abbrev pub view_taken_in : {E : Type 0} → View E → View E → View E
view_taken_in (Owner c) v = with_transit c v
view_taken_in u v = u

-- the owner's view with one more writer
abbrev pub view_with_writer : {E : Type 0} → View E → View E
view_with_writer (Owner c) = Owner (contents c.entries (c.writers + 1) c.transit)
view_with_writer v = v

-- the view of a new writer, which has seen the whole log and appended nothing
abbrev pub new_writer_view : {E : Type 0} → View E → View E
new_writer_view (Owner c) = OfWriter (known c.writers c.entries [])
new_writer_view v = Empty

-- ---- the one step on the word

-- the writer in transit, if there is one, is a writer of this log
abbrev pub TransitIsOf : {E : Type 0} → Contents E → Option (WriterView E) → Type 0
TransitIsOf c None = Unit {0}
TransitIsOf c (Some k) = IsWriterOf c.entries c.writers k

-- the writer in transit is one of this log, and no entry has a number that no writer has
pub record GivesFacts {E : Type 0} (c : Contents E) : Type 0 where
  pub transit : TransitIsOf c c.transit
  pub unused : (number : ℕ) → c.writers ≤ number → events_by number c.entries ≡ []

-- the contents after the writer in transit appended these events and saw the whole log
abbrev pub appended_contents : {E : Type 0} → List E → Contents E → Option (WriterView E) → Contents E
appended_contents events c None = c
appended_contents {E = E} events c (Some k) =
    let entries : List (Entry E) = c.entries ++ entries_by k.number events in contents entries c.writers (Some (known k.number entries (k.own ++ events)))

-- the step gives the owner these facts, and its contents are those after the append
abbrev pub appends : {E : Type 0} → List E → Step (Unit {0}) → Me (Unit {0}) (View E) → ℕ → Me (Unit {0}) (View E) → Type 0
appends events s (Owner c, held) n me = GivesFacts c × (me ≡ (Owner (appended_contents events c c.transit), held))
appends events s (v, held) n me = me ≡ (v, held)
