use Rattle.log_records.proofs.Cuts.{cuts}
use Rattle.log_records.proofs.laws.cuts.Goals as goal

pub returns : goal.returns
returns c = cuts
