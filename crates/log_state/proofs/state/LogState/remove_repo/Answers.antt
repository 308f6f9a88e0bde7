use Rattle.std.proofs.Common.{refl}
use Rattle.log_state.specs.LoggedStates.{state_in}
use Rattle.log_state.proofs.States.{repo_removed}
use Rattle.log_state.proofs.state.LogState.remove_repo.Goals as goal

pub returns : goal.returns
returns c = record {
  tenants = refl;
  state = λ i. record (state_in c.args.self.now)
      { repos = repo_removed c.args.self.now.repos c.remove.new.self _ _ c.in_ok-name.ensures c.remove.ensures.updates.0 i };
}
