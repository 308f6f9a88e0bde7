use Rattle.pin_table.proofs.Histories.{histories}
use Rattle.pin_table.proofs.laws.histories.Goals as goal

pub returns : goal.returns
returns c = histories
