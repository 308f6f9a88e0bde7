use Rattle.store_model.proofs.Noninterference.Runs.{isolated}
use Rattle.store_model.proofs.Noninterference.Texts.{same_texts}
use Rattle.store_model.proofs.laws.isolation.Goals as goal

pub returns-clause-alone : goal.returns-clause-alone
returns-clause-alone c = isolated

pub returns-clause-same_text : goal.returns-clause-same_text
returns-clause-same_text c = same_texts
