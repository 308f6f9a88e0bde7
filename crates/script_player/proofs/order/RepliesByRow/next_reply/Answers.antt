use Rattle.std.proofs.Common.{◌<◌, length, map, rules}
use Rattle.store_api.specs.Answers.{answers_of}
use Rattle.script_player.proofs.Orders.{next_taken}
use Rattle.script_player.proofs.order.RepliesByRow.next_reply.Goals as goal

pub returns : goal.returns
returns g c =
    let rows = g.L.RowList.lines c.self.inside.rows in
    let queues = c.self.inside.queues.items in
    let place = c.self.inside.place in
    let within : place < length rows = search rules in
    search (rules, next_taken (length queues) place rows c.lane.result (map (λ q. answers_of q.items) queues) (map (λ q. answers_of q.items) c.take_first.new.queues.items) c.take_first.result within c.lane.ensures)
