-- The names of a durable log, which its type parameter carries.
use Rattle.std.specs.Prelude.{ℕ, List, []}
use Rattle.atomic_table.specs.Seated.{TableId}

-- a durable log: the log of its events, the logs of its marks, and the bytes on its disk in front of those of its history
pub record Names : Type 0 where
  pub history : TableId
  pub durable_marks : TableId
  pub taken_marks : TableId
  pub base : List ℕ

-- a table of no words
abbrev pub no_table : TableId
no_table = record { words = 0; slots = 0; views_name = 0; atom = 0; block = 0; offset = 0; slot_names = [] }

-- the names of no log
abbrev pub no_names : Names
no_names = record { history = no_table; durable_marks = no_table; taken_marks = no_table; base = [] }
