use Rattle.std.specs.Prelude.{map}
use Rattle.log_rewriting.specs.Keeping.{HasSessions, KeepsSessions}
use Rattle.log_rewriting.proofs.collect.add_open.Given as goal

abbrev pub invariant-loop-key : goal.invariant-loop-key
invariant-loop-key l =
    HasSessions l.kept (map (λ s. s.now) l.yielded) × KeepsSessions l.fn.kept l.kept
