use Rattle.std.proofs.Common.{◌≡◌}
use Rattle.ghost_log.proofs.log_tests.work.Given as goal

-- the events that were appended are the numbers that were returned
abbrev pub invariant-loop : goal.invariant-loop
invariant-loop g l = l.voter ≡ l.numbers.items
