use Rattle.locked_book.proofs.CutLogs.{cut_logs_restore, same_logs_restart}
use Rattle.locked_book.proofs.laws.logs.Goals as goal

pub returns-clause-cuts : goal.returns-clause-cuts
returns-clause-cuts c = cut_logs_restore

pub returns-clause-restarts : goal.returns-clause-restarts
returns-clause-restarts c = same_logs_restart
