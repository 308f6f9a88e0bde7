-- Runs: calls on one log by any writers in any order, each with the effect of its contract.
use Rattle.std.specs.Prelude.{◌≡◌, ℕ, List, [], ◌∷◌, ◌++◌, set}
use mathlib.Core.Option.{some}
use lib.ListN.{get_elem?}
use Rattle.atomic_table.specs.Seated.{TableId}
use Rattle.ghost_log.specs.Entries.{Entry, entry}
use Rattle.ghost_log.specs.Calls.{Log, Writer, Agrees, with_writer, new_writer, with_entry, writer_after_append, writer_after_catch_up}

-- a call: a new writer is made, or the writer of this number appends, or catches up
pub data Call (E : Type 0) : Type 0 where
  Joins : Call E
  Appends : ℕ → E → Call E
  CatchesUp : ℕ → Call E

-- a log and all its writers, by their numbers, at one moment
pub record LogMoment (E : Type 0) : Type 0 where
  pub log : Log E
  pub writers : List (Writer E)

-- the empty log of this name without writers
abbrev pub initial_moment : {E : Type 0} → TableId → LogMoment E
initial_moment name = record { log = record { name = name; entries = []; writers = 0 }; writers = [] }

-- the writer of this number is changed, and the others are unchanged
abbrev pub ChangesWriter : {E : Type 0} → LogMoment E → ℕ → (Writer E → Writer E) → LogMoment E → Type 0
ChangesWriter {E = E} m n change m' = (w : Writer E) × (get_elem? m.writers n ≡ some w) × (m'.writers ≡ set m.writers n (change w))

-- a call leads from one moment to another
abbrev pub CallLeads : {E : Type 0} → LogMoment E → Call E → LogMoment E → Type 0
CallLeads m Joins m' = (m'.log ≡ with_writer m.log) × (m'.writers ≡ m.writers ++ new_writer m.log ∷ [])
CallLeads m (Appends n event) m' = (m'.log ≡ with_entry n event m.log) × ChangesWriter m n (writer_after_append event m.log.entries) m'
CallLeads m (CatchesUp n) m' = (m'.log ≡ m.log) × ChangesWriter m n (writer_after_catch_up m.log.entries) m'

-- calls in turn lead from one moment to another
abbrev pub IsLogRun : {E : Type 0} → LogMoment E → List (Call E) → LogMoment E → Type 0
IsLogRun m [] m' = m' ≡ m
IsLogRun {E = E} m (c ∷ cs) m' = (next : LogMoment E) × CallLeads m c next × IsLogRun next cs m'

-- the appended entries, in the order of the calls
abbrev pub appended_in : {E : Type 0} → List (Call E) → List (Entry E)
appended_in [] = []
appended_in (Joins ∷ cs) = appended_in cs
appended_in (Appends n event ∷ cs) = entry n event ∷ appended_in cs
appended_in (CatchesUp n ∷ cs) = appended_in cs

-- the log is the list of appended entries, in the order of the calls, and each writer has its number and agrees with the log
pub record ExplainsLog {E : Type 0} (calls : List (Call E)) (m : LogMoment E) : Type 0 where
  pub entries : m.log.entries ≡ appended_in calls
  pub writers : (n : ℕ) (w : Writer E) → get_elem? m.writers n ≡ some w → (w.number ≡ n) × Agrees m.log w

-- every moment of every run is explained by its calls
abbrev pub EveryRun : Type 0 → Type 0
EveryRun E = (name : TableId) (calls : List (Call E)) (m : LogMoment E) → IsLogRun (initial_moment name) calls m → ExplainsLog calls m
