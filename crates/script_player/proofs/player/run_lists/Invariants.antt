use Rattle.std.proofs.Common.{◌≡◌, ◌+◌, ◌++◌, List, deque_len, length, vec_capacity, vec_len}
use Rattle.store_api.specs.Answers.{answers_of}
use Rattle.script_player.specs.JoinedRows.{joined_rows}
use Rattle.script_player.specs.Plays.{ContinuesPlay}
use Rattle.script_player.specs.Rows.{RowView}
use Rattle.script_player.proofs.player.run_lists.Given as goal

-- the rows of the dropped lists were executed, and the list of replies did not grow
abbrev pub invariant-loop-list : goal.invariant-loop-list
invariant-loop-list g l =
    (so_far : List RowView) × record {
      all : joined_rows l.fn.lists.items ≡ so_far ++ joined_rows l.lists.items;
      played : ContinuesPlay g.B.Backend.acts (l.fn.backend, l.fn.leases) (answers_of l.fn.replies.items) so_far (l.backend, l.leases) (answers_of l.replies.items);
      count : vec_len l.replies ≡ vec_len l.fn.replies + length so_far;
      room : vec_capacity l.replies ≡ vec_capacity l.fn.replies;
    }

abbrev pub decreases-loop-list : goal.decreases-loop-list
decreases-loop-list g l = deque_len l.lists
