-- The pieces that a log of one event shows.
use Rattle.std.specs.Prelude.{ℕ, List, [], ◌∷◌}
use Rattle.ghost_log.specs.declared.view.Entry.{Entry}

-- the pieces of the first event
abbrev pub pieces_shown : List (Entry (List (List ℕ))) → List (List ℕ)
pieces_shown [] = []
pieces_shown (e ∷ es) = e.event
