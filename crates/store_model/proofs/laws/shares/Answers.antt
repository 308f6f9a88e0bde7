use Rattle.store_model.proofs.Invariant.FullStores.{full_stores_have_orphans, swept_stores_are_full_by_leases}
use Rattle.store_model.proofs.laws.shares.Goals as goal

pub returns-clause-full : goal.returns-clause-full
returns-clause-full c = full_stores_have_orphans

pub returns-clause-swept : goal.returns-clause-swept
returns-clause-swept c = swept_stores_are_full_by_leases
