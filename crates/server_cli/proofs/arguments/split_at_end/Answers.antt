use Rattle.server_cli.specs.Arguments.{is_end_of_tenants}
use Rattle.server_cli.proofs.Partings.{split_not_found, split_found}
use Rattle.server_cli.proofs.arguments.split_at_end.Goals as goal

pub returns-in-Some-clause-before : goal.returns-in-Some-clause-before
returns-in-Some-clause-before c = (split_found is_end_of_tenants c.args.words.now c.in-Some.end c.in-Some.ensures).0

pub returns-in-Some-clause-after : goal.returns-in-Some-clause-after
returns-in-Some-clause-after c = (split_found is_end_of_tenants c.args.words.now c.in-Some.end c.in-Some.ensures).1

pub returns-in-None-clause-before : goal.returns-in-None-clause-before
returns-in-None-clause-before c = (split_not_found is_end_of_tenants c.args.words.now c.in-None.ensures).0

pub returns-in-None-clause-after : goal.returns-in-None-clause-after
returns-in-None-clause-after c = (split_not_found is_end_of_tenants c.args.words.now c.in-None.ensures).1
