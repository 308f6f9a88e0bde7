use Rattle.store_model.proofs.WholeCommands.Histories.{histories_are_runs}
use Rattle.store_model.proofs.laws.whole_commands.Goals as goal

pub returns : goal.returns
returns c = record { runs = histories_are_runs }
