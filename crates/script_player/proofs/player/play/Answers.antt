use Rattle.std.proofs.Common.{◌≡◌, ap, arith, length}
use Rattle.script_player.specs.Shares.{own_rows}
use Rattle.script_player.proofs.WorkerRows.{own_all}
use Rattle.script_player.proofs.player.play.Goals as goal

pub run_rows-requires : goal.run_rows-requires
run_rows-requires g c =
    let rows = g.L.RowList.lines c.args.rows in
    let made = c.in_ok-replies.ensures in
    let own : own_rows c.alone-worker.result.workers c.alone-worker.result.number rows ≡ rows = rw (c.alone-worker.ensures.workers, c.alone-worker.ensures.number) (own_all rows) in
    let own_size = ap length own in
    let all = c.len.ensures in
    let capacity = made.capacity in
    record { empty = made.items; room = omega (arith, own_size, all, capacity) }

pub returns-clause-played : goal.returns-clause-played
returns-clause-played g c = rw (c.alone-worker.ensures.workers, c.alone-worker.ensures.number, own_all (g.L.RowList.lines c.args.rows)) at c.run_rows.ensures.played
