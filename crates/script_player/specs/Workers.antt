-- The rows of a `Worker`, and the room for the replies to them.
use Rattle.std.specs.Prelude.{◌≡◌, ◌+◌, ◌≤◌, List, length, Vec, vec_capacity, vec_len}
use Rattle.store_api.specs.declared.reply.Reply.{Reply}
use Rattle.script_player.specs.Rows.{RowView}
use Rattle.script_player.specs.Shares.{own_rows}
use Rattle.script_player.specs.declared.worker.Worker.{Worker}

-- the rows of a worker, in their order
abbrev pub worker_rows : Worker → List RowView → List RowView
worker_rows worker rows = own_rows worker.workers worker.number rows

-- a list has room for one more reply for each of these rows
abbrev pub HasRoomFor : {Z : Type 0} → Vec Reply Z → List RowView → Type 0
HasRoomFor replies rows = vec_len replies + length rows ≤ vec_capacity replies

-- a list gains one reply for each row of a worker
abbrev pub AddsReplies : {Z : Type 0} → Vec Reply Z → Worker → List RowView → Vec Reply Z → Type 0
AddsReplies before worker rows replies = vec_len replies ≡ vec_len before + length (worker_rows worker rows)
