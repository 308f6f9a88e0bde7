use Rattle.pin_core.proofs.Runs.{Going}
use Rattle.pin_core.proofs.steps.run.Given as goal

abbrev pub invariant-loop-event : goal.invariant-loop-event
invariant-loop-event l = Going l.state l.events l.next l.event-index
