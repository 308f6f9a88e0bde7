use Rattle.log_rewriting.proofs.Sessions.{kept-after_insert}
use Rattle.log_rewriting.proofs.collect.add_session.Goals as goal

pub returns-clause-kept : goal.returns-clause-kept
returns-clause-kept c = λ k h. kept-after_insert _ _ _ (c.in_ok-insert.ensures.updates.0 k) h
