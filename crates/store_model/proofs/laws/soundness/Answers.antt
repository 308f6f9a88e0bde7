use Rattle.store_model.proofs.Commands.Runs.{Sound-run}
use Rattle.store_model.proofs.Commands.SomeRun.{has_run}
use Rattle.store_model.proofs.Commands.Referrers.{referenced_stays}
use Rattle.store_model.proofs.laws.soundness.Goals as goal

pub returns-clause-runs : goal.returns-clause-runs
returns-clause-runs c = Sound-run

pub returns-clause-referenced : goal.returns-clause-referenced
returns-clause-referenced c = referenced_stays

pub returns-clause-exist : goal.returns-clause-exist
returns-clause-exist c = has_run
