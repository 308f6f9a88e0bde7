-- The places of pieces.
use Rattle.std.specs.Prelude.{◌≡◌, ℕ, ◌+◌, ◌<◌, ◌≤◌, List, get_or, length, sum_by, take}
use Rattle.content_files.specs.declared.note.Note.{Note}

-- the piece i begins at `start`, and has the byte at the offset
pub record IsPlaceOf (notes : List Note) (offset i start : ℕ) : Type 0 where
  pub within : i < length notes
  pub before : start ≡ sum_by (λ n. n.len) (take i notes)
  pub from : start ≤ offset
  pub to : (none : Note) → offset < start + (get_or notes i none).len

-- the first `count` pieces have this length together
abbrev pub IsCountWithin : List Note → ℕ → ℕ → Type 0
IsCountWithin notes len count = (count ≤ length notes) × (len ≡ sum_by (λ n. n.len) (take count notes))
