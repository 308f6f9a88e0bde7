use Rattle.pin_table.proofs.Looks.{looks}
use Rattle.pin_table.proofs.laws.looks.Goals as goal

pub returns : goal.returns
returns c = looks
