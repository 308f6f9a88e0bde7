use Rattle.std.proofs.Common.{◌≡◌, ◌+◌, ◌≤◌, false, vec_len, vec_capacity}
use Rattle.blob_store.specs.Workers.{AllAt}
use Rattle.blob_store.proofs.workers.add_unplayed.Given as goal

abbrev pub invariant-loop-job : goal.invariant-loop-job
invariant-loop-job g l = record {
  none : AllAt (λ _ o. o.completed ≡ false) l.outcomes.items;
  all : vec_len l.outcomes + vec_len l.jobs ≡ vec_len l.fn.jobs;
  room : vec_len l.fn.jobs ≤ vec_capacity l.outcomes;
  capacity : vec_capacity l.outcomes ≡ vec_capacity l.fn.outcomes;
}

abbrev pub decreases-loop-job : goal.decreases-loop-job
decreases-loop-job g l = vec_len l.jobs
