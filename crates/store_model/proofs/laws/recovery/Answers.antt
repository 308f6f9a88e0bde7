use Rattle.store_model.proofs.Durable.Crashes.{stores_survive_crashes}
use Rattle.store_model.proofs.Durable.Histories.{new_stores_agree}
use Rattle.store_model.proofs.Durable.LogReplays.{logs_have_replays}
use Rattle.store_model.proofs.Durable.OtherSettings.{stores_restart_with_other_settings}
use Rattle.store_model.proofs.Durable.Replaying.{changes_have_replays}
use Rattle.store_model.proofs.Durable.Restored.{stores_restart}
use Rattle.store_model.proofs.Durable.Rewriting.{rewritten_logs_agree}
use Rattle.store_model.proofs.laws.recovery.Goals as goal

pub returns-clause-new_store : goal.returns-clause-new_store
returns-clause-new_store c = new_stores_agree

pub returns-clause-restart : goal.returns-clause-restart
returns-clause-restart c = stores_restart

pub returns-clause-crashes : goal.returns-clause-crashes
returns-clause-crashes c = stores_survive_crashes

pub returns-clause-rewrite : goal.returns-clause-rewrite
returns-clause-rewrite c = rewritten_logs_agree

pub returns-clause-replay : goal.returns-clause-replay
returns-clause-replay c = changes_have_replays

pub returns-clause-replay_log : goal.returns-clause-replay_log
returns-clause-replay_log c = logs_have_replays

pub returns-clause-other_settings : goal.returns-clause-other_settings
returns-clause-other_settings c = stores_restart_with_other_settings
