-- Histories: lists of steps, each made under the store's lock; an upload's chunk is copied and hashed between two steps.
use Rattle.std.specs.Prelude.{◌≡◌, ◌≢◌, ◌⊎◌, ◌+◌, ◌^◌, ◌&&◌, nat_lt, ℕ, Bool, false, List, [], ◌∷◌, Option, Some, None, Result, Ok, Err, length}
use Rattle.blob_digest.specs.declared.range.ByteRange.{ByteRange}
use Rattle.blob_digest.specs.declared.refusal.Refusal.{Refusal}
use Rattle.blob_digest.specs.declared.refusal.Refusal.TheVariants.{LimitReached, Memory}
use Rattle.spec_lib.specs.Texts.{Text}
use Rattle.store_model.specs.Amounts.{Amounts, zero_amounts, add_amounts, command_amounts_of}
use Rattle.store_model.specs.Catalog.{Catalog, HandRecord}
use Rattle.store_model.specs.Commands.{take, put_back, finish, after_cancel}
use Rattle.store_model.specs.Hands.{checked_out_count, reserved_bytes, filled_length}
use Rattle.store_model.specs.Runs.{Command, Append, Close, Abandon, Answer, Number, IsCommandCase}
use Rattle.store_model.specs.Sweep.{IsSweep, IsSweepPart}
use Rattle.store_model.specs.declared.swept.Swept.{Swept}

-- A step with its reply: a command, a sweep or part of one, or the check-out, check-in or finish of a session.
pub data Step : Type 0 where
  CommandCall : Command → Result Answer Refusal → Step
  SweepCall : Swept → Step
  SweepPartCall : Swept → Step
  TakeCall : Text → ℕ → Option ByteRange → ℕ → Result HandRecord Refusal → Step
  PutBackCall : HandRecord → Result ℕ Refusal → Step
  FinishCall : HandRecord → Text → Result ℕ Refusal → Step

-- a state: the catalog, and the totals of the amounts so far
pub record State : Type 0 where
  pub catalog : Catalog
  pub totals : Amounts

-- ---- amounts

-- the amounts of an accepted command
abbrev pub accepted_amounts : Command → Answer → Amounts
accepted_amounts (Append r n g b) a = command_amounts_of (length b) 0 0
accepted_amounts (Close r n d g b) (Number m) = command_amounts_of (length b) m 0
accepted_amounts (Abandon r n) (Number m) = command_amounts_of 0 0 m
accepted_amounts command a = command_amounts_of 0 0 0

-- the amounts of a check-in: those of one command if a chunk was filled in, else none
abbrev pub chunk_amounts : Option Text → Amounts
chunk_amounts None = zero_amounts
chunk_amounts (Some b) = command_amounts_of (length b) 0 0

-- the amounts of a step, which are zero if it failed
abbrev pub step_amounts : Step → Amounts
step_amounts (CommandCall command (Ok a)) = accepted_amounts command a
step_amounts (CommandCall command (Err e)) = zero_amounts
step_amounts (SweepCall swept) = zero_amounts
step_amounts (SweepPartCall swept) = zero_amounts
step_amounts (TakeCall r n g len reply) = zero_amounts
step_amounts (PutBackCall h (Ok n)) = chunk_amounts h.last
step_amounts (PutBackCall h (Err e)) = zero_amounts
step_amounts (FinishCall h d (Ok n)) = command_amounts_of (filled_length h) n 0
step_amounts (FinishCall h d (Err e)) = zero_amounts

-- whether one more command of n bytes can be counted, in addition to the checked-out sessions
abbrev pub can_count : State → ℕ → Bool
can_count s n = nat_lt (s.totals.commands + checked_out_count s.catalog + 1) (2 ^ 64) && nat_lt (s.totals.received + reserved_bytes s.catalog + n) (2 ^ 64)

-- the error is `LimitReached` because a command of n bytes can't be counted
abbrev pub IsUncountable : State → ℕ → Refusal → Type 0
IsUncountable s n e = (can_count s n ≡ false) × (e ≡ LimitReached)

-- ---- steps

-- the step may lead from the state s to the catalog C'
abbrev pub MayLeadTo : State → Step → Catalog → Type 0
MayLeadTo s (CommandCall command (Ok a)) C' = IsCommandCase s.catalog command (Ok a) C'
MayLeadTo s (CommandCall command (Err e)) C' = IsCommandCase s.catalog command (Err e) C' ⊎ (IsUncountable s 0 e × (C' ≡ s.catalog))
MayLeadTo s (SweepCall swept) C' = IsSweep s.catalog swept C'
MayLeadTo s (SweepPartCall swept) C' = IsSweepPart s.catalog swept C'
MayLeadTo s (TakeCall r n g len (Ok h)) C' = take s.catalog r n g len ≡ Ok (h, C')
MayLeadTo s (TakeCall r n g len (Err e)) C' = ((take s.catalog r n g len ≡ Err e) ⊎ IsUncountable s len e) × (C' ≡ s.catalog)
MayLeadTo s (PutBackCall h (Ok n)) C' = put_back s.catalog h ≡ Ok (n, C')
MayLeadTo s (PutBackCall h (Err e)) C' = (put_back s.catalog h ≡ Err e) × (C' ≡ s.catalog)
MayLeadTo s (FinishCall h d (Ok n)) C' = finish s.catalog h d ≡ Ok (n, C')
MayLeadTo s (FinishCall h d (Err e)) C' = (e ≢ Memory → finish s.catalog h d ≡ Err e) × (C' ≡ after_cancel s.catalog h)

-- a step leads from one state to another
pub record IsStep (s : State) (step : Step) (s' : State) : Type 0 where
  pub leaves : MayLeadTo s step s'.catalog
  pub counts : s'.totals ≡ add_amounts s.totals (step_amounts step)

-- a list of steps, one after another, leads from one state to another
abbrev pub AreSteps : State → List Step → State → Type 0
AreSteps s [] s' = s' ≡ s
AreSteps s (step ∷ steps) s' = (mid : State) × IsStep s step mid × AreSteps mid steps s'

-- ---- histories

-- the state of a catalog with zero totals
abbrev pub initial_state : Catalog → State
initial_state C = record { catalog = C; totals = zero_amounts }

-- a history leads from the catalog C with zero totals to this state
abbrev pub LeadsTo : Catalog → List Step → State → Type 0
LeadsTo C steps s = AreSteps (initial_state C) steps s

-- a history is legal: it leads from the catalog C to some state
abbrev pub IsLegal : Catalog → List Step → Type 0
IsLegal C steps = (s : State) × LeadsTo C steps s
