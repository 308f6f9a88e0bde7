use Rattle.std.proofs.Common.{ap}
use Rattle.store_api.specs.Answers.{answers_of}
use Rattle.script_player.specs.Leases.{no_leases}
use Rattle.script_player.specs.Shares.{own_rows}
use Rattle.script_player.proofs.PlayedRows.{from_start}
use Rattle.script_player.proofs.player.run_rows.Goals as goal

pub returns-clause-played : goal.returns-clause-played
returns-clause-played g c =
    let rows = own_rows c.args.worker.workers c.args.worker.number (g.L.RowList.lines c.args.rows.now) in
    let left = c.run_own_rows-played.new in
    let played = rw c.new-leases.ensures at c.in_ok-played.ensures.played in
    (left.leases, from_start g.B.Backend.acts (c.args.backend.now, no_leases) (left.backend, left.leases) (answers_of c.args.replies.items) (answers_of left.replies.items) rows (ap answers_of c.requires.empty) played)
