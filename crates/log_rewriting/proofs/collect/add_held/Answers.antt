use Rattle.std.proofs.Common.{rules}
use Rattle.log_rewriting.specs.Keeping.{blob_session}
use Rattle.log_rewriting.proofs.Sessions.{HasSessions-snoc_behind}
use Rattle.log_rewriting.proofs.collect.add_held.Goals as goal

pub loop-key-preserved : goal.loop-key-preserved
loop-key-preserved c =
    let (seen, grown) = c.loop-key.invariant in
    let there = c.in_ok-add_session.ensures.there in
    let kept = c.add_session.ensures.kept in
    (HasSessions-snoc_behind blob_session (λ e. (e.0.now, e.1.now)) c.loop-key.kept c.add_session.new.kept c.loop-key.yielded (c.in-Some.key, c.in-Some.blob) seen kept (search rules), λ k h. kept k (grown k h))
