use Rattle.log_frames.proofs.Cuts.{logs_unique, one_way}
use Rattle.log_frames.proofs.laws.uniqueness.Goals as goal

pub returns-clause-one_way : goal.returns-clause-one_way
returns-clause-one_way c = one_way

pub returns-clause-logs : goal.returns-clause-logs
returns-clause-logs c = logs_unique
