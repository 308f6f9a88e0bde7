use Rattle.std.proofs.Common.{None, Some}
use Rattle.script_player.proofs.LeaseTables.{held_at, take_row}
use Rattle.script_player.proofs.leases.take.Goals as goal

pub returns-in-Some-clause-was : goal.returns-in-Some-clause-was
returns-in-Some-clause-was g c = held_at g.B.Backend.lent c.args.table.now c.args.name c.requires.ordered (Some c.in-Some.room) c.in-Some.ensures.value

pub returns-in-None-clause-was : goal.returns-in-None-clause-was
returns-in-None-clause-was g c = held_at g.B.Backend.lent c.args.table.now c.args.name c.requires.ordered None c.in-None.ensures.value

pub returns-in-Some-clause-takes : goal.returns-in-Some-clause-takes
returns-in-Some-clause-takes g c = take_row g.B.Backend.lent c.args.table.now c.remove.new.self c.args.name c.requires.ordered c.remove.ensures.ordered c.remove.ensures.updates

pub returns-in-None-clause-takes : goal.returns-in-None-clause-takes
returns-in-None-clause-takes g c = take_row g.B.Backend.lent c.args.table.now c.remove.new.self c.args.name c.requires.ordered c.remove.ensures.ordered c.remove.ensures.updates
