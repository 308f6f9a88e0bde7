-- The number of slots of a store.
use Rattle.std.specs.Prelude.{ℕ}

-- the greatest number of slots of a store, 2^24
abbrev pub greatest_slots : ℕ
greatest_slots = 16777216
