use Rattle.store_model.proofs.Durable.Restarts.{restarted_histories_are_runs, tenants_are_isolated_from}
use Rattle.store_model.proofs.laws.restarts.Goals as goal

pub returns-clause-runs : goal.returns-clause-runs
returns-clause-runs c = restarted_histories_are_runs

pub returns-clause-alone : goal.returns-clause-alone
returns-clause-alone c = tenants_are_isolated_from
