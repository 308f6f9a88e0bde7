use Rattle.std.proofs.Common.{inl, refl}
use Rattle.log_frames.proofs.Taking.{judged}
use Rattle.store_replay.proofs.replayed.replay_next_frame.Goals as goal

pub returns-in-Ok-NoFrame-clause-ended : goal.returns-in-Ok-NoFrame-clause-ended
returns-in-Ok-NoFrame-clause-ended g c =
    let next = rw c.in-Ok-NoFrame.field-0-is at c.in-Ok-NoFrame.ensures.next in
    let ends = judged c.args.id c.args.cursor _ _ _ c.in-Ok-NoFrame.count c.judge_rest.result next.0 next.1 c.judge_rest.ensures.rest in
    record { frames = refl; replay = inl refl; ends = ends }
