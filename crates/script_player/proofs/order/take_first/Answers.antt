use Rattle.std.proofs.Common.{rules}
use Rattle.script_player.proofs.Orders.{taken}
use Rattle.script_player.proofs.order.take_first.Goals as goal

pub returns-clause-takes : goal.returns-clause-takes
returns-clause-takes c = taken c.args.queues.now.items c.args.worker c.index_mut.result.now c.pop_front.new.self c.pop_front.result c.requires (search rules) c.pop_front.ensures.items c.pop_front.ensures.cases (search rules)
