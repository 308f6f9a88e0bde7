-- What a cell was set to.
use Rattle.std.specs.Prelude.{ℕ, List, [], ◌∷◌}
use Rattle.ghost_log.specs.declared.view.Entry.{Entry}

-- the event of the last entry, or this value if there is none
abbrev pub last_of : List ℕ → List (Entry (List ℕ)) → List ℕ
last_of value [] = value
last_of value (e ∷ es) = last_of e.event es
