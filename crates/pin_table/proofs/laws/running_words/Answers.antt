use Rattle.pin_table.proofs.AnyMoment.{running_words}
use Rattle.pin_table.proofs.laws.running_words.Goals as goal

pub returns : goal.returns
returns c = running_words
