use Rattle.std.proofs.Common.{refl}
use Rattle.log_state.specs.LoggedStates.{state_in}
use Rattle.log_state.proofs.States.{of_link_removed}
use Rattle.log_state.proofs.state.LogState.unlink.Goals as goal

pub returns : goal.returns
returns c = record {
  tenants = refl;
  state = λ i. record (state_in c.args.self.now)
      { links = of_link_removed c.args.self.now.links c.remove.new.self _ _ _ _ c.in_ok-name_of.ensures c.in_ok-digest.ensures c.remove.ensures.updates.0 i };
}
