use Rattle.std.proofs.Common.{◌≡◌, ◌<◌, ◌∙◌, ap, arith, length, length-append, rules, take}
use Rattle.std.specs.Prelude.{get_or}
use Rattle.script_player.specs.JoinedRows.{joined_rows}
use Rattle.script_player.proofs.JoinedRows.{in_list, joined_rows-take}
use Rattle.script_player.proofs.script_rows.find.Goals as goal

pub returns-then-rest-len : goal.returns-then-rest-len
returns-then-rest-len c =
    let lists = c.args.lists.now.items in
    let n = c.loop-number.number in
    let list = c.index.result.now in
    let within : n < length lists = search rules in
    let at : get_or lists n list ≡ list = search rules in
    let here : c.loop-number.rest < length list = search rules in
    in_list lists n c.loop-number.rest c.args.place list within at here c.loop-number.invariant c.requires

pub loop-number-preserved : goal.loop-number-preserved
loop-number-preserved c =
    let lists = c.args.lists.now.items in
    let n = c.loop-number.number in
    let list = c.index.result.now in
    let within : n < length lists = search rules in
    let at : get_or lists n list ≡ list = search rules in
    let more = ap length (joined_rows-take lists n list within at) ∙ length-append (joined_rows (take n lists)) list in
    let place = c.loop-number.invariant in
    let behind = c.if-rest-len.false in
    let len = c.len.ensures in
    let less = c.len-rest.ensures in
    omega (arith, more, place, behind, len, less)
