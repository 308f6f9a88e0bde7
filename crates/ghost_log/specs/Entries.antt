-- Logs as lists of entries, and the events of one writer.
use Rattle.std.specs.Prelude.{ℕ, ◌==◌, List, [], ◌∷◌, map, if◌then◌else◌}
pub use mathlib.Core.List.{IsPrefix}
pub use Rattle.ghost_log.specs.declared.view.Entry.{Entry}

-- the entry of this event by the writer with this number
abbrev pub entry : {E : Type 0} → ℕ → E → Entry E
entry number event = record { writer = number; event = event }

-- the entries of one writer's events, in order
abbrev pub entries_by : {E : Type 0} → ℕ → List E → List (Entry E)
entries_by number events = map (entry number) events

-- the events of one writer, in order
abbrev pub events_by : {E : Type 0} → ℕ → List (Entry E) → List E
events_by number [] = []
events_by number (e ∷ es) = if e.writer == number then e.event ∷ events_by number es else events_by number es
