use Rattle.std.proofs.Common.{◌≡◌, ◌-◌, ◌+◌, length, rules}
use Rattle.std.specs.Prelude.{get_or}
use Rattle.script_player.specs.RowViews.{borrowed_view}
use Rattle.script_player.proofs.JoinedRows.{added_last}
use Rattle.script_player.proofs.script_rows.add_row.Goals as goal

pub returns-then-has_room-clause-added : goal.returns-then-has_room-clause-added
returns-then-has_room-clause-added c =
    let lists = c.args.lists.now.items in
    let n = c.len-count.result - 1 in
    let is_last : n + 1 ≡ length lists = search rules in
    let at : get_or lists n c.index_mut.result.now ≡ c.index_mut.result.now = search rules in
    added_last c.push.result lists n c.index_mut.result.now c.push.new.self (borrowed_view c.args.row.now) is_last at c.push.ensures.added
