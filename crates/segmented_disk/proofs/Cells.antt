-- A cell that was set once more.
use Rattle.std.proofs.Common.{◌≡◌, ℕ, List, [], ◌∷◌, ◌++◌, refl}
use Rattle.ghost_log.specs.declared.view.Entry.{Entry}
use Rattle.ghost_log.specs.Entries.{entry}
use Rattle.segmented_disk.specs.Cells.{last_of}

pub last_of-snoc : (value : List ℕ) (es : List (Entry (List ℕ))) (n : ℕ) (bytes : List ℕ) → last_of value (es ++ entry n bytes ∷ []) ≡ bytes
last_of-snoc value [] n bytes = refl
last_of-snoc value (e ∷ es) n bytes = last_of-snoc e.event es n bytes
