use Rattle.log_state.proofs.States.{chunk_taken}
use Rattle.log_state.proofs.state.LogState.add.Goals as goal

pub returns-clause-state : goal.returns-clause-state
returns-clause-state c =
    chunk_taken c.args.self.now c.remove.new.self c.insert.new.self _ _ c.args.number c.in-Some.session _ c.args.chunk c.in_ok-place_of.ensures
    c.in-Some.ensures.value c.in_ok-add.ensures
    c.in-Some.ensures.updates.0 c.in_ok-insert.ensures.updates.0
