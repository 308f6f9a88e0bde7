-- What a write that fails leaves on a disk.
use Rattle.std.specs.Prelude.{◌≡◌, ℕ, List, ◌++◌}
use mathlib.Core.List.{IsPrefix}

-- the old bytes are followed by a prefix of those that were to be written
pub record IsTorn (old bytes new : List ℕ) : Type 0 where
  pub part : List ℕ
  pub of : IsPrefix part bytes
  pub ends : new ≡ old ++ part
