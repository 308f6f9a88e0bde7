use Rattle.std.proofs.Common.{rules}
use Rattle.log_rewriting.proofs.Sessions.{HasSessions-snoc}
use Rattle.log_rewriting.proofs.collect.add_open.Goals as goal

pub loop-key-preserved : goal.loop-key-preserved
loop-key-preserved c =
    let (seen, grown) = c.loop-key.invariant in
    let there = c.in_ok-add_session.ensures.there in
    let kept = c.add_session.ensures.kept in
    (HasSessions-snoc (λ s. s.now) c.loop-key.kept c.add_session.new.kept c.loop-key.yielded c.in-Some.key seen kept (search rules), λ k h. kept k (grown k h))
