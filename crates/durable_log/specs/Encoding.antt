-- A history as bytes.
use Rattle.std.specs.Prelude.{ℕ, List, [], ◌∷◌, ◌++◌}
use Rattle.ghost_log.specs.declared.view.Entry.{Entry}

-- the records of a history, in order
abbrev pub encode : {E : Type 0} → (E → List ℕ) → List (Entry E) → List ℕ
encode bytes [] = []
encode bytes (e ∷ es) = bytes e.event ++ encode bytes es
