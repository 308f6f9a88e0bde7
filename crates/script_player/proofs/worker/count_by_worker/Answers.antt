use Rattle.std.proofs.Common.{◌≡◌, ◌<◌, ◌%◌, ◌∙◌, arith, length, rules, take}
use Rattle.std.proofs.lemmas.List.{get_or_default, length-take-le}
use Rattle.script_player.proofs.WorkerRows.{counts_more, own_few, row_there}
use Rattle.script_player.proofs.worker.count_by_worker.Goals as goal

pub overflow_add-index_mut : goal.overflow_add-index_mut
overflow_add-index_mut g c =
    let n = c.args.workers in
    let rows = g.L.RowList.lines c.args.rows.now in
    let place = c.loop-place.place in
    let counts = c.loop-place.counts.items in
    let k = c.lane.result % n in
    let within : place < length rows = rw (← c.len-place-end.ensures) c.loop-place-test.true in
    let there : k < length counts = search rules in
    let below : k < n = search rules in
    let count = c.index_mut.ensures.value ∙ get_or_default counts k c.index_mut.result.now 0 there ∙ c.loop-place.invariant.counted k below in
    let few = own_few n k (take place rows) in
    let size : length (take place rows) ≡ place = length-take-le place rows (omega (arith, within)) in
    search (rules, count, few, size, c.loop-place-test.true)

pub loop-place-preserved : goal.loop-place-preserved
loop-place-preserved g c =
    let n = c.args.workers in
    let rows = g.L.RowList.lines c.args.rows.now in
    let place = c.loop-place.place in
    let counts = c.loop-place.counts.items in
    let k = c.lane.result % n in
    let inv = c.loop-place.invariant in
    let within : place < length rows = rw (← c.len-place-end.ensures) c.loop-place-test.true in
    let row = row_there rows place within in
    let lane = c.lane.ensures row.0 row.1 in
    let there : k < length counts = search rules in
    let count = c.index_mut.ensures.value ∙ get_or_default counts k c.index_mut.result.now 0 there in
    record {
      len = inv.len;
      counted = rw (count, lane) (counts_more n counts rows place row.0 within row.1 (rw (← lane) there) inv.counted);
    }
