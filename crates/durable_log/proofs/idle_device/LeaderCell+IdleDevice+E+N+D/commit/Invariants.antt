use Rattle.std.proofs.Common.{◌≡◌}
use Rattle.durable_log.proofs.idle_device.LeaderCell+IdleDevice+E+N+D.commit.Given as goal

abbrev pub invariant-loop : goal.invariant-loop
invariant-loop g l = ((goal.iterator-loop g).can_next l.iterator' × (goal.iterator-loop g).is_finite l.iterator') × (l.writer ≡ l.initial.writer)
