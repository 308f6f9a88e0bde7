use Rattle.rewritten_logs.proofs.Restarting.{rewritten_logs_restart}
use Rattle.rewritten_logs.proofs.laws.rewritten_logs.Goals as goal

pub returns : goal.returns
returns c = record { restart = rewritten_logs_restart }
