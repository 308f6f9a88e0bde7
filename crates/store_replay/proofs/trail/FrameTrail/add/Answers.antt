use Rattle.std.proofs.Common.{◌∙◌, ◌∷◌, ◌++◌, [], ap}
use Rattle.log_frames.specs.Frames.{frame_of}
use Rattle.store_replay.specs.Trails.{events_of}
use Rattle.store_replay.proofs.Trails.{events_of-snoc}
use Rattle.store_replay.proofs.trail.FrameTrail.add.Goals as goal

pub returns : goal.returns
returns c =
    let f = frame_of c.args.synced c.args.payload.now in
    ap (λ l. events_of l.entries) c.add.ensures.log ∙ events_of-snoc c.self.inside.frames.entries c.self.inside.writer.number f ∙ ap (λ fs. fs ++ f ∷ []) c.self.view_is
