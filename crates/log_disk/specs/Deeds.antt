-- The calls on a file, and the bytes that it holds after them.
use Rattle.std.specs.Prelude.{ℕ, List, [], ◌∷◌, ◌++◌, Option, Some, None}
use Rattle.ghost_log.specs.declared.view.Entry.{Entry}

-- the bytes that were written and those that are synced, after more bytes were written or all bytes were synced
abbrev pub after_deed : List ℕ × List ℕ → Option (List ℕ) → List ℕ × List ℕ
after_deed at (Some bytes) = (at.0 ++ bytes, at.1)
after_deed at None = (at.0, at.0)

-- the same after several calls
abbrev pub after_deeds : List ℕ × List ℕ → List (Entry (Option (List ℕ))) → List ℕ × List ℕ
after_deeds at [] = at
after_deeds at (e ∷ es) = after_deeds (after_deed at e.event) es
