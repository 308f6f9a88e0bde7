use Rattle.std.proofs.Common.{◌≡◌, ◌+◌, ◌≤◌, vec_len, vec_capacity}
use Rattle.blob_store.specs.Jobs.{IsThreadOfWorkerAt, IsReadyAt, IsRoomFor}
use Rattle.blob_store.specs.Workers.{AllAt}
use Rattle.blob_store.proofs.workers.start_all.Given as goal

abbrev pub invariant-loop-job : goal.invariant-loop-job
invariant-loop-job g l = record {
  jobs : AllAt (IsReadyAt (vec_len l.fn.jobs + 1) (g.L.RowList.lines l.shared.rows.now)) l.jobs.items;
  children : AllAt (IsThreadOfWorkerAt (vec_len l.fn.jobs + 1) l.shared.rows.now) l.children.items;
  all : vec_len l.children + vec_len l.jobs ≡ vec_len l.fn.jobs;
  room : vec_len l.fn.jobs ≤ vec_capacity l.children;
  outcomes : IsRoomFor (vec_len l.fn.jobs + 1) l.outcomes;
}

abbrev pub decreases-loop-job : goal.decreases-loop-job
decreases-loop-job g l = vec_len l.jobs
