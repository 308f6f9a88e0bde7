use Rattle.std.proofs.Common.{◌≡◌, ◌+◌, ◌<◌, ◌∙◌, ◌∷◌, [], ap, arith, false, length, length-append, sym, take, true}
use Rattle.std.proofs.lemmas.List.{map-append}
use Rattle.store_api.specs.Answers.{answer_of, answers_of}
use Rattle.script_player.specs.RowViews.{borrowed_view}
use Rattle.script_player.specs.Shares.{is_own, own_rows}
use Rattle.script_player.proofs.PlayedRows.{one_more}
use Rattle.script_player.proofs.WorkerRows.{own_by_lane, own_less, own_more, own_within, row_there}
use Rattle.script_player.proofs.player.run_own_rows.Goals as goal
use Rattle.script_player.proofs.player.run_own_rows.Goals.{then-plays+in_ok-run_row_gated, else-plays}

pub loop-place-preserved : goal.loop-place-preserved
loop-place-preserved g c =
    let n = c.args.worker.workers in
    let k = c.args.worker.number in
    let rows = g.L.RowList.lines c.args.rows.now in
    let place = c.loop-place.place in
    let inv = c.loop-place.invariant in
    let within : place < length rows = rw (← c.len-place-end.ensures) c.loop-place-test.true in
    let so_far = own_rows n k (take place rows) in
    let before = answers_of c.args.replies.now.items in
    elim c.if-plays.branch [
      | then-plays+in_ok-run_row_gated w ↦
          let played = borrowed_view w.row.result in
          let own : is_own n k played ≡ true = own_by_lane n k rows place c.lane.result played c.lane.ensures w.row.ensures ∙ sym c.plays.ensures ∙ w.if-plays.true in
          let next = w.in_ok-run_row_gated.ensures.played in
          let more = own_more n k rows place played within w.row.ensures own in
          let all = one_more g.B.Backend.acts (c.args.backend.now, c.args.leases.now) (c.loop-place.backend, c.loop-place.leases) (w.run_row_gated.new.backend, w.run_row_gated.new.leases) before (answers_of c.loop-place.replies.items) so_far played (answer_of next.0) inv.played next.3 next.2 in
          let size = ap length next.1 ∙ length-append c.loop-place.replies.items (next.0 ∷ []) in
          let own_size = ap length more ∙ length-append so_far (played ∷ []) in
          let count = inv.count in
          record {
            played = rw (w.backend-is, w.leases-is, w.replies-is, next.1, map-append answer_of c.loop-place.replies.items (next.0 ∷ []), more) all;
            count = rw w.replies-is (omega (arith, size, own_size, count));
            room = rw w.replies-is (w.run_row_gated.ensures.room ∙ inv.room);
          }
      | else-plays w ↦
          let row = row_there rows place within in
          let other : is_own n k row.0 ≡ false = own_by_lane n k rows place c.lane.result row.0 c.lane.ensures row.1 ∙ sym c.plays.ensures ∙ w.if-plays.false in
          let less = own_less n k rows place row.0 within row.1 other in
          record {
            played = rw (w.backend-is, w.leases-is, w.replies-is, less) inv.played;
            count = rw (w.replies-is, less) inv.count;
            room = rw w.replies-is inv.room;
          }
    ]

pub run_row_gated-requires : goal.run_row_gated-requires
run_row_gated-requires g c =
    let n = c.args.worker.workers in
    let k = c.args.worker.number in
    let row = borrowed_view c.row.result in
    let rows = g.L.RowList.lines c.args.rows.now in
    let place = c.loop-place.place in
    let fits : place < length rows = rw (← c.len-place-end.ensures) c.loop-place-test.true in
    let inv = c.loop-place.invariant in
    let own : is_own n k row ≡ true = own_by_lane n k rows place c.lane.result row c.lane.ensures c.row.ensures ∙ sym c.plays.ensures ∙ c.if-plays.true in
    let count = inv.count in
    let one = ap length (own_more n k rows place row fits c.row.ensures own) ∙ length-append (own_rows n k (take place rows)) (row ∷ []) in
    let within = own_within n k rows (place + 1) in
    let room = inv.room in
    let most = c.requires.room in
    record { room = omega (arith, count, one, within, room, most) }
