use Rattle.std.proofs.Common.{◌≡◌}
use Rattle.blob_store.proofs.store.Store.commit.Given as goal

abbrev pub invariant-loop : goal.invariant-loop
invariant-loop g l = ((goal.iterator-loop g).can_next l.iterator' × (goal.iterator-loop g).is_finite l.iterator') × (l.desk ≡ l.initial.desk)
