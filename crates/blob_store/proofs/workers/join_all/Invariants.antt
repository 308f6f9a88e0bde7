use Rattle.std.proofs.Common.{◌≡◌, ◌+◌, ◌≤◌, vec_len, vec_capacity}
use Rattle.blob_store.specs.Jobs.{IsWorkerResultAt, IsThreadOfWorkerAt}
use Rattle.blob_store.specs.Workers.{AllAt}
use Rattle.blob_store.proofs.workers.join_all.Given as goal

abbrev pub invariant-loop-child : goal.invariant-loop-child
invariant-loop-child g l = record {
  all : vec_len l.outcomes + vec_len l.children + 1 ≡ l.workers;
  children : AllAt (IsThreadOfWorkerAt l.workers l.rows) l.children.items;
  outcomes : AllAt (IsWorkerResultAt g.S.Naming.names.opening l.workers (g.L.RowList.lines l.rows)) l.outcomes.items;
  room : l.workers ≤ vec_capacity l.outcomes;
}

abbrev pub decreases-loop-child : goal.decreases-loop-child
decreases-loop-child g l = vec_len l.children
