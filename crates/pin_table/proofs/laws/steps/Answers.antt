use Rattle.pin_table.proofs.StepLaws.{steps}
use Rattle.pin_table.proofs.laws.steps.Goals as goal

pub returns : goal.returns
returns c = steps
