use Rattle.store_model.proofs.Noninterference.Histories.{alone_in_histories, same_text_after}
use Rattle.store_model.proofs.laws.isolation_of_histories.Goals as goal

pub returns-clause-alone : goal.returns-clause-alone
returns-clause-alone c = alone_in_histories

pub returns-clause-same_text : goal.returns-clause-same_text
returns-clause-same_text c = same_text_after
