use Rattle.std.proofs.Common.{◌≡◌, ◌+◌, ◌≤◌, map, true, vec_len, vec_capacity}
use Rattle.blob_store.specs.Jobs.{IsWorkerResultAt}
use Rattle.blob_store.specs.Workers.{AllAt, EachHasReplies}
use Rattle.store_api.specs.Answers.{answers_of}
use Rattle.blob_store.proofs.playing.collect.Given as goal

abbrev pub invariant-loop-outcome : goal.invariant-loop-outcome
invariant-loop-outcome g l = record {
  each : AllAt (IsWorkerResultAt g.S.Naming.names.opening l.workers (g.L.RowList.lines l.rows)) l.outcomes.items;
  desks : vec_len l.desks + vec_len l.outcomes ≡ l.workers;
  queues : vec_len l.queues + vec_len l.outcomes ≡ l.workers;
  desk_room : l.workers ≤ vec_capacity l.desks;
  queue_room : l.workers ≤ vec_capacity l.queues;
  played : l.completed ≡ true → EachHasReplies g.S.Naming.names.opening l.workers (g.L.RowList.lines l.rows) l.desks.items (map (λ q. answers_of q.items) l.queues.items);
}

abbrev pub decreases-loop-outcome : goal.decreases-loop-outcome
decreases-loop-outcome g l = vec_len l.outcomes
