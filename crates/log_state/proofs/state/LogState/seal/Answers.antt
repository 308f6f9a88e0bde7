use Rattle.log_state.proofs.States.{seal_taken}
use Rattle.log_state.proofs.state.LogState.seal.Goals as goal

pub returns-clause-state : goal.returns-clause-state
returns-clause-state c =
    seal_taken c.args.self.now c.insert.new.self c.remove.new.self c.insert-2.new.self c.set_home.new.homes _ _ c.args.number c.in-Some.session c.in_ok-repo.repo
    c.in_ok-digest.digest c.args.digest.now c.in_ok-repo.notes c.args.last _
    c.in_ok-place_of.ensures c.in-Some.ensures.value c.in_ok-digest.ensures c.in_ok-repo.ensures.0 c.in_ok-repo.ensures.1 c.is_noted-is_noted.ensures
    c.in-Some.ensures.updates.0 c.in_ok-insert.ensures.updates.0 c.in_ok-insert-2.ensures.updates.0 c.in_ok-set_home.ensures
