use Rattle.store_model.proofs.Commands.Repos.{removals_free_names, removals_keep_the_rest}
use Rattle.store_model.proofs.laws.removals.Goals as goal

pub returns-clause-frees : goal.returns-clause-frees
returns-clause-frees c = removals_free_names

pub returns-clause-rest : goal.returns-clause-rest
returns-clause-rest c = removals_keep_the_rest
