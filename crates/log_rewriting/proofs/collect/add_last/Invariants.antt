use Rattle.std.specs.Prelude.{map}
use Rattle.log_rewriting.specs.Keeping.{HasSessions, KeepsSessions, last_session}
use Rattle.log_rewriting.proofs.collect.add_last.Given as goal

abbrev pub invariant-loop-digest : goal.invariant-loop-digest
invariant-loop-digest l =
    HasSessions l.kept (map last_session (map (λ e. (e.0.now, e.1.now)) l.yielded)) × KeepsSessions l.fn.kept l.kept
