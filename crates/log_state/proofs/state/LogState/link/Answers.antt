use Rattle.std.proofs.Common.{refl, ◌∙◌}
use Rattle.log_state.specs.LoggedStates.{state_in}
use Rattle.log_state.proofs.States.{link_added, repo_added}
use Rattle.log_state.proofs.state.LogState.link.Goals as goal

pub returns : goal.returns
returns c = record {
  tenants = refl;
  state = λ i. record (state_in c.args.self.now) {
    repos = repo_added c.args.self.now.repos c.insert.new.self _ _ (c.in_ok-clone.ensures.cases ∙ c.in_ok-name.ensures) c.in_ok-insert.ensures.updates.0 i;
    links = link_added c.args.self.now.links c.insert-2.new.self _ _ _ _ c.in_ok-name.ensures c.in_ok-digest.ensures c.in_ok-insert-2.ensures.updates.0 i;
  };
}
