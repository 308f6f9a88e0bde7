use Rattle.script_player.proofs.LeaseTables.{put_room}
use Rattle.script_player.proofs.leases.reserve.Goals as goal

pub returns-in-Ok-Some-clause-same : goal.returns-in-Ok-Some-clause-same
returns-in-Ok-Some-clause-same g c = put_room g.B.Backend.lent c.args.table.now c.insert.new.self c.args.name c.insert.ensures.was_ordered c.insert.ensures.ordered c.requires.free c.in-Ok-Some.ensures.updates

pub returns-in-Ok-None-clause-same : goal.returns-in-Ok-None-clause-same
returns-in-Ok-None-clause-same g c = put_room g.B.Backend.lent c.args.table.now c.insert.new.self c.args.name c.insert.ensures.was_ordered c.insert.ensures.ordered c.requires.free c.in-Ok-None.ensures.updates
