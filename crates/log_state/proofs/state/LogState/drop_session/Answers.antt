use Rattle.std.proofs.Common.{refl}
use Rattle.log_state.specs.LoggedStates.{state_in}
use Rattle.log_state.proofs.States.{session_dropped}
use Rattle.log_state.proofs.state.LogState.drop_session.Goals as goal

pub returns : goal.returns
returns c = record {
  tenants = refl;
  state = λ i. record (state_in c.args.self.now)
      { sessions = session_dropped c.args.self.now.sessions c.remove.new.self _ _ c.args.number c.in_ok-place_of.ensures c.remove.ensures.updates.0 i };
}
