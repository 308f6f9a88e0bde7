use Rattle.store_model.proofs.Invariant.Counts.{link_count-by_links}
use Rattle.store_model.proofs.Invariant.DistinctUse.{used_by_digests}
use Rattle.store_model.proofs.laws.counts_and_uses.Goals as goal

pub returns-clause-counts : goal.returns-clause-counts
returns-clause-counts c = link_count-by_links

pub returns-clause-uses : goal.returns-clause-uses
returns-clause-uses c = λ C lawful t. used_by_digests C lawful t
