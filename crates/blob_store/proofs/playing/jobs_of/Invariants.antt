use Rattle.std.proofs.Common.{◌≡◌, ◌+◌, ◌≤◌, vec_len, vec_capacity}
use Rattle.locked_book.specs.History.{AreFreshDesks}
use Rattle.blob_store.specs.Jobs.{IsReadyAt, IsRoomOfWorker}
use Rattle.blob_store.specs.Workers.{AllAt}
use Rattle.blob_store.proofs.playing.jobs_of.Given as goal

abbrev pub invariant-loop-desk : goal.invariant-loop-desk
invariant-loop-desk g l = record {
  jobs : AllAt (IsReadyAt l.workers (g.L.RowList.lines l.rows)) l.jobs.items;
  lists : AllAt (IsRoomOfWorker l.workers (g.L.RowList.lines l.rows)) l.lists.items;
  fresh : AreFreshDesks l.desks.items;
  workers : l.workers ≡ vec_len l.fn.desks;
  both : vec_len l.lists ≡ vec_len l.desks;
  all : vec_len l.jobs + vec_len l.desks ≡ l.workers;
  room : l.workers ≤ vec_capacity l.jobs;
  desks : vec_capacity l.desks ≡ vec_capacity l.fn.desks;
}

abbrev pub decreases-loop-desk : goal.decreases-loop-desk
decreases-loop-desk g l = vec_len l.desks
