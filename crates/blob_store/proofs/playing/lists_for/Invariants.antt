use Rattle.std.proofs.Common.{◌≡◌, ◌≤◌, vec_len, vec_capacity}
use Rattle.blob_store.specs.Jobs.{IsRoomOfWorker}
use Rattle.blob_store.specs.Workers.{AllAt}
use Rattle.blob_store.proofs.playing.lists_for.Given as goal

abbrev pub invariant-loop-number : goal.invariant-loop-number
invariant-loop-number g l =
    AllAt (IsRoomOfWorker l.workers (g.L.RowList.lines l.rows)) l.lists.items
    × (vec_len l.lists ≡ l.number)
    × (l.workers ≤ vec_capacity l.lists)
