-- The events of a log, in order.
use Rattle.std.specs.Prelude.{List, [], ◌∷◌}
use Rattle.ghost_log.specs.declared.view.Entry.{Entry}

-- the events of entries, in order
abbrev pub events_of : {E : Type 0} → List (Entry E) → List E
events_of [] = []
events_of (e ∷ es) = e.event ∷ events_of es
