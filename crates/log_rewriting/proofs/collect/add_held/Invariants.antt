use Rattle.std.specs.Prelude.{map}
use Rattle.log_rewriting.specs.Keeping.{HasSessions, KeepsSessions, blob_session}
use Rattle.log_rewriting.proofs.collect.add_held.Given as goal

abbrev pub invariant-loop-key : goal.invariant-loop-key
invariant-loop-key l =
    HasSessions l.kept (map blob_session (map (λ e. (e.0.now, e.1.now)) l.yielded)) × KeepsSessions l.fn.kept l.kept
