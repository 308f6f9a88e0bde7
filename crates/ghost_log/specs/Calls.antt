-- A log and a writer, as contracts see them, and the changes that the calls make.
use Rattle.std.specs.Prelude.{◌≡◌, ℕ, ◌+◌, ◌<◌, ◌≤◌, List, [], ◌∷◌, ◌++◌, None}
use Rattle.atomic_table.specs.Seated.{TableId}
use Rattle.ghost_log.specs.declared.view.WriterView.{WriterView}
use Rattle.ghost_log.specs.declared.view.Contents.{Contents}
use Rattle.ghost_log.specs.declared.view.View.{View}
use Rattle.ghost_log.specs.declared.view.View.TheVariants.{Owner, OfWriter}
use Rattle.ghost_log.specs.Entries.{Entry, entry, entries_by, events_by, IsPrefix}
use Rattle.ghost_log.specs.Rule.{contents, known}

-- a log: its name, all its entries, and the number of writers
pub record Log (E : Type 0) : Type 0 where
  pub name : TableId
  pub entries : List (Entry E)
  pub writers : ℕ

-- a writer: the name of its log, its number, the prefix of the log that it has seen, and its own events
pub record Writer (E : Type 0) : Type 0 where
  pub name : TableId
  pub number : ℕ
  pub seen : List (Entry E)
  pub own : List E

-- The writer has seen a prefix of the log, its own events are those of the entries with its number, in order, and no entry has a number that no
-- writer has.
pub record Agrees {E : Type 0} (l : Log E) (w : Writer E) : Type 0 where
  pub number : w.number < l.writers
  pub seen : IsPrefix w.seen l.entries
  pub own : events_by w.number l.entries ≡ w.own
  pub unused : (number : ℕ) → l.writers ≤ number → events_by number l.entries ≡ []

-- ---- the changes that the calls make

-- the log with one more writer
abbrev pub with_writer : {E : Type 0} → Log E → Log E
with_writer l = record { name = l.name; entries = l.entries; writers = l.writers + 1 }

-- the writer with the next number, which has seen the whole log and appended nothing
abbrev pub new_writer : {E : Type 0} → Log E → Writer E
new_writer l = record { name = l.name; number = l.writers; seen = l.entries; own = [] }

-- the log with one more entry at the end
abbrev pub with_entry : {E : Type 0} → ℕ → E → Log E → Log E
with_entry number event l = record { name = l.name; entries = l.entries ++ entry number event ∷ []; writers = l.writers }

-- the writer after it appended one event to a log with these entries
abbrev pub writer_after_append : {E : Type 0} → E → List (Entry E) → Writer E → Writer E
writer_after_append event entries w = record { name = w.name; number = w.number; seen = entries ++ entry w.number event ∷ []; own = w.own ++ event ∷ [] }

-- the writer after it has seen a whole log with these entries
abbrev pub writer_after_catch_up : {E : Type 0} → List (Entry E) → Writer E → Writer E
writer_after_catch_up entries w = record { name = w.name; number = w.number; seen = entries; own = w.own }

-- the log with more entries by one writer
abbrev pub with_entries : {E : Type 0} → ℕ → List E → Log E → Log E
with_entries number events l = record { name = l.name; entries = l.entries ++ entries_by number events; writers = l.writers }

-- the writer after it appended these events to a log with these entries
abbrev pub writer_after_events : {E : Type 0} → List E → List (Entry E) → Writer E → Writer E
writer_after_events events entries w = record { name = w.name; number = w.number; seen = entries ++ entries_by w.number events; own = w.own ++ events }

-- ---- the views as values

-- the contents in the owner's view
abbrev pub contents_of : {E : Type 0} → View E → Contents E
contents_of (Owner c) = c
contents_of v = contents [] 0 None

-- the writer's knowledge in its view
abbrev pub known_of : {E : Type 0} → View E → WriterView E
known_of (OfWriter k) = k
known_of v = known 0 [] []

-- the writer's knowledge in the one view of its seat
abbrev pub known_in : {E : Type 0} → List (View E) → WriterView E
known_in [] = known 0 [] []
known_in (v ∷ vs) = known_of v

-- the log with this name and these contents
abbrev pub log : {E : Type 0} → TableId → Contents E → Log E
log name c = record { name = name; entries = c.entries; writers = c.writers }

-- the writer of the log with this name that knows this
abbrev pub writer : {E : Type 0} → TableId → WriterView E → Writer E
writer name k = record { name = name; number = k.number; seen = k.seen; own = k.own }
