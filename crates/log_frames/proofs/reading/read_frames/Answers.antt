use Rattle.log_frames.proofs.Recovery.{exact, recovers}
use Rattle.log_frames.proofs.reading.read_frames.Goals as goal

pub returns-clause-exact : goal.returns-clause-exact
returns-clause-exact g c = exact g.S.FrameSink.takes g.S.FrameSink.refuses _ _ c.args.id c.args.start _ c.take_frames.result c.take_frames.ensures.read

pub returns-clause-recovers : goal.returns-clause-recovers
returns-clause-recovers g c = recovers g.S.FrameSink.takes g.S.FrameSink.refuses _ _ c.args.id c.args.start _ c.take_frames.result c.take_frames.ensures.read
