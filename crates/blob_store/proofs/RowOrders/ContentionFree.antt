-- Few steps never fail because a command cannot be counted.
use Rattle.std.proofs.Common.{◌≡◌, ◌<◌, ◌≤◌, ◌+◌, ◌^◌, ◌∷◌, [], ℕ, true, List, Option, Some, None, Ok, Err, refl, sym, ap, ◌∙◌, arith}
use Rattle.std.specs.List.{AllByRecursion, sum_by}
use Rattle.std.proofs.lemmas.Bool.{false≢true, lt-ltb}
use Rattle.std.proofs.lemmas.List.Sums.{sum_by-cons}
use Rattle.spec_lib.specs.Texts.{Text}
use Rattle.script_player.specs.Counts.{chunk_size}
use Rattle.store_model.specs.Amounts.{Amounts}
use Rattle.store_model.specs.Catalog.{HandRecord}
use Rattle.store_model.specs.Histories.{AreSteps, SweepCall, SweepPartCall, FinishCall, CommandCall, PutBackCall, State, Step, TakeCall, can_count, chunk_amounts, accepted_amounts, step_amounts}
use Rattle.store_model.specs.Hands.{checked_out_count, reserved_bytes}
use Rattle.store_model.specs.Invariant.{Sound}
use Rattle.store_model.specs.Runs as runs
use Rattle.store_model.specs.Runs.{Answer, Command}
use Rattle.store_model.specs.WholeCommands.{AreContentionFree, IsContentionFreeStep}
use Rattle.blob_store.proofs.RowOrders.Counts.{few_in_hand, little_reserved}
use Rattle.blob_store.proofs.RowOrders.Merging.{AreSound, IsMild, bytes_in, commands_in}

-- ---- the amounts that steps add to the totals

-- these amounts are at most this number of commands and bytes
abbrev AreAtMost : Amounts → ℕ → ℕ → Type 0
AreAtMost amounts commands bytes = (amounts.commands ≤ commands) × (amounts.received ≤ bytes)

command_adds : (command : Command) (a : Answer) → AreAtMost (accepted_amounts command a) 1 (chunk_size command)
command_adds (runs.Append r n g b) a = (omega arith, omega arith)
command_adds (runs.Close r n d g b) (runs.Number m) = (omega arith, omega arith)
command_adds (runs.Close r n d g b) a = (omega arith, omega arith)
command_adds (runs.Abandon r n) (runs.Number m) = (omega arith, omega arith)
command_adds (runs.Abandon r n) a = (omega arith, omega arith)
command_adds command a = (omega arith, omega arith)

returned_adds : (h : HandRecord) (last : Option Text) → AreAtMost (chunk_amounts last) 1 (bytes_in (PutBackCall (record h { last = last }) (Ok 0)))
returned_adds h None = (omega arith, omega arith)
returned_adds h (Some b) = (omega arith, omega arith)

step_adds : (step : Step) → AreAtMost (step_amounts step) (commands_in step) (bytes_in step)
step_adds (CommandCall command (Ok a)) = command_adds command a
step_adds (CommandCall command (Err e)) = (omega arith, omega arith)
step_adds (SweepCall swept) = (omega arith, omega arith)
step_adds (SweepPartCall swept) = (omega arith, omega arith)
step_adds (TakeCall repo number range len (Ok h)) = (omega arith, omega arith)
step_adds (TakeCall repo number range len (Err e)) = (omega arith, omega arith)
step_adds (PutBackCall h (Ok n)) = returned_adds h h.last
step_adds (PutBackCall h (Err e)) = (omega arith, omega arith)
step_adds (FinishCall h digest (Ok n)) = (omega arith, omega arith)
step_adds (FinishCall h digest (Err e)) = (omega arith, omega arith)

-- ---- commands that can be counted

can : (s : State) (n : ℕ) → Sound s.catalog → s.totals.commands < 2 ^ 63 → s.totals.received + n < 2 ^ 63 → can_count s n ≡ true
can s n sound commands bytes =
    let hands = few_in_hand s.catalog sound in
    let spare = little_reserved s.catalog sound in
    rw (lt-ltb (s.totals.commands + checked_out_count s.catalog + 1) (2 ^ 64) (omega (arith, hands, commands)), lt-ltb (s.totals.received + reserved_bytes s.catalog + n) (2 ^ 64) (omega (arith, spare, bytes))) refl

calm_step : (s : State) (step : Step) → IsMild step → Sound s.catalog → s.totals.commands + commands_in step < 2 ^ 63 → s.totals.received + bytes_in step < 2 ^ 63 → IsContentionFreeStep s step
calm_step s (CommandCall command (Ok a)) mild sound commands bytes = tt
calm_step s (CommandCall command (Err e)) mild sound commands bytes = (mild, λ no. false≢true (sym no.0 ∙ can s 0 sound (omega (arith, commands)) (omega (arith, bytes))))
calm_step s (SweepCall swept) mild sound commands bytes = tt
calm_step s (SweepPartCall swept) mild sound commands bytes = tt
calm_step s (TakeCall repo number range len (Ok h)) mild sound commands bytes = tt
calm_step s (TakeCall repo number range len (Err e)) mild sound commands bytes = (mild, λ no. false≢true (sym no.0 ∙ can s len sound (omega (arith, commands)) (omega (arith, bytes))))
calm_step s (PutBackCall h reply) mild sound commands bytes = tt
calm_step s (FinishCall h digest (Ok n)) mild sound commands bytes = tt
calm_step s (FinishCall h digest (Err e)) mild sound commands bytes = mild

pub calm_steps : (s : State) (steps : List Step) (last : State) (run : AreSteps s steps last) → AllByRecursion IsMild steps → AreSound s steps last run → s.totals.commands + sum_by commands_in steps < 2 ^ 63 → s.totals.received + sum_by bytes_in steps < 2 ^ 63 → AreContentionFree s steps last run
calm_steps s [] last run mild sound commands bytes = tt
calm_steps s (step ∷ steps) last run mild sound commands bytes =
    let a = sum_by-cons commands_in step steps in
    let b = sum_by-cons bytes_in step steps in
    let adds = step_adds step in
    let c : run.0.totals.commands ≡ s.totals.commands + (step_amounts step).commands = ap (λ (x : Amounts). x.commands) run.1.counts in
    let d : run.0.totals.received ≡ s.totals.received + (step_amounts step).received = ap (λ (x : Amounts). x.received) run.1.counts in (
      calm_step s step mild.0 sound.0 (omega (arith, commands, a)) (omega (arith, bytes, b)),
      calm_steps run.0 steps last run.2 mild.1 sound.1 (omega (arith, commands, a, c, adds.0)) (omega (arith, bytes, b, d, adds.1)),
    )
