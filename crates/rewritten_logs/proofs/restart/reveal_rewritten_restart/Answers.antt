use Rattle.rewritten_logs.proofs.Starts.{restarts_rewritten}
use Rattle.rewritten_logs.proofs.restart.reveal_rewritten_restart.Goals as goal

pub returns-clause-restarts : goal.returns-clause-restarts
returns-clause-restarts g c =
    let facts = c.reveal_survivors.ensures in
    restarts_rewritten g.S.Naming.names g.T.Naming.names c.args.desk.now c.reveal_survivors.new.desk c.args.left.now c.args.written.now c.args.base.now c.args.rest.now c.args.started.now.desk.trace
    c.args.started.now.device c.requires.settings facts.sees facts.survives c.reveal_start.ensures c.requires.read c.requires.split c.requires.replaced
