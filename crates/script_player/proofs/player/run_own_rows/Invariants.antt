use Rattle.std.proofs.Common.{◌≡◌, ◌+◌, length, take, vec_capacity, vec_len}
use Rattle.store_api.specs.Answers.{answers_of}
use Rattle.script_player.specs.Plays.{ContinuesPlay}
use Rattle.script_player.specs.Shares.{own_rows}
use Rattle.script_player.proofs.player.run_own_rows.Given as goal

-- the worker's rows so far were executed, and the list of replies did not grow
abbrev pub invariant-loop-place : goal.invariant-loop-place
invariant-loop-place g l =
    let so_far = own_rows l.worker.workers l.worker.number (take l.place (g.L.RowList.lines l.rows)) in
    record {
      played : ContinuesPlay g.B.Backend.acts (l.fn.backend, l.fn.leases) (answers_of l.fn.replies.items) so_far (l.backend, l.leases) (answers_of l.replies.items);
      count : vec_len l.replies ≡ vec_len l.fn.replies + length so_far;
      room : vec_capacity l.replies ≡ vec_capacity l.fn.replies;
    }
