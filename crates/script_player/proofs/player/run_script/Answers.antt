use Rattle.std.proofs.Common.{ap, arith, length}
use Rattle.store_api.specs.Answers.{answers_of}
use Rattle.script_player.specs.Leases.{no_leases}
use Rattle.script_player.proofs.PlayedRows.{from_start}
use Rattle.script_player.proofs.player.run_script.Goals as goal

pub run_lists-played-requires : goal.run_lists-played-requires
run_lists-played-requires g c =
    let made = c.in_ok-replies.ensures in
    let all = ap length c.into_lists.ensures in
    let count = c.len.ensures in
    let empty = made.len in
    let capacity = made.capacity in
    record { room = omega (arith, all, count, empty, capacity) }

pub returns-clause-played : goal.returns-clause-played
returns-clause-played g c =
    let left = c.run_lists-played.new in
    let played = rw (c.new-leases.ensures, c.into_lists.ensures) at c.in_ok-played.ensures.played in
    (left.leases, from_start g.B.Backend.acts (c.args.backend.now, no_leases) (left.backend, left.leases) (answers_of c.in_ok-replies.replies.items) (answers_of left.replies.items) c.args.rows (ap answers_of c.in_ok-replies.ensures.items) played)
