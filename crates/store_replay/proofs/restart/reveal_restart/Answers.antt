use Rattle.store_replay.proofs.Restarts.{restarts_as}
use Rattle.store_replay.proofs.restart.reveal_restart.Goals as goal

pub returns-clause-restarts : goal.returns-clause-restarts
returns-clause-restarts g c =
    let facts = c.reveal_survivors.ensures in
    restarts_as g.S.Naming.names g.T.Naming.names c.args.desk.now c.reveal_survivors.new.desk c.args.left.now c.args.started.now.desk.trace c.args.started.now.device
    c.requires.settings facts.sees facts.survives c.reveal_start.ensures c.requires.read
