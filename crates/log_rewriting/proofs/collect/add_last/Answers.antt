use Rattle.std.proofs.Common.{rules}
use Rattle.log_rewriting.specs.Keeping.{last_session}
use Rattle.log_rewriting.proofs.Sessions.{HasSessions-snoc_behind}
use Rattle.log_rewriting.proofs.collect.add_last.Goals as goal

pub loop-digest-preserved : goal.loop-digest-preserved
loop-digest-preserved c =
    let (seen, grown) = c.loop-digest.invariant in
    let there = c.in_ok-add_session.ensures.there in
    let kept = c.add_session.ensures.kept in
    (HasSessions-snoc_behind last_session (λ e. (e.0.now, e.1.now)) c.loop-digest.kept c.add_session.new.kept c.loop-digest.yielded (c.in-Some._digest, c.in-Some.last) seen kept (search rules), λ k h. kept k (grown k h))
