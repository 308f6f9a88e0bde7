use Rattle.store_model.proofs.Durable.Histories.{logs_agree, logs_extend}
use Rattle.store_model.proofs.Durable.Lanes.{lanes_return_hands}
use Rattle.store_model.proofs.Durable.Torn.{torn_logs_agree}
use Rattle.store_model.proofs.Durable.WholeCommands.{whole_commands_return_hands}
use Rattle.store_model.proofs.laws.durability.Goals as goal

pub returns-clause-agree : goal.returns-clause-agree
returns-clause-agree c = logs_agree

pub returns-clause-extend : goal.returns-clause-extend
returns-clause-extend c = logs_extend

pub returns-clause-torn : goal.returns-clause-torn
returns-clause-torn c = torn_logs_agree

pub returns-clause-whole_commands : goal.returns-clause-whole_commands
returns-clause-whole_commands c = whole_commands_return_hands

pub returns-clause-lanes : goal.returns-clause-lanes
returns-clause-lanes c = lanes_return_hands
