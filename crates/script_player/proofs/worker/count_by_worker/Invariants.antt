use Rattle.std.proofs.Common.{◌≡◌, ◌<◌, ℕ, get_or, length, take, vec_len}
use Rattle.script_player.specs.Shares.{own_rows}
use Rattle.script_player.proofs.worker.count_by_worker.Given as goal

-- each worker's rows so far are counted
abbrev pub invariant-loop-place : goal.invariant-loop-place
invariant-loop-place g l = record {
  len : vec_len l.counts ≡ l.workers;
  counted : (w : ℕ) → w < l.workers → get_or l.counts.items w 0 ≡ length (own_rows l.workers w (take l.place (g.L.RowList.lines l.rows)));
}
