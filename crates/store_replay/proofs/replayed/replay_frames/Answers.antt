use Rattle.store_replay.proofs.Taking.{begins_with, no_more, one_frame, read_as, start}
use Rattle.store_replay.proofs.replayed.replay_frames.Goals as goal

pub loop-turn-init : goal.loop-turn-init
loop-turn-init g c = start c.args.id _ _ _ _ c.requires c.start_of-cursor.ensures

pub loop-turn-preserved : goal.loop-turn-preserved
loop-turn-preserved g c =
    let so_far = c.loop-turn.invariant in
    let now = c.in-Ok.ensures.replayed in
    (one_frame _ _ _ _ _ _ _ _ _ _ so_far.0 now, begins_with _ _ _ _ _ _ _ _ _ _ _ so_far.0 so_far.1 now)

pub returns-in-Err-clause-of : goal.returns-in-Err-clause-of
returns-in-Err-clause-of g c = no_more _ _ _ _ _ _ _ _ _ c.loop-turn.invariant.0 c.in-Err.ensures.ended

pub returns-in-Err-clause-read : goal.returns-in-Err-clause-read
returns-in-Err-clause-read g c = read_as _ _ _ _ _ _ _ _ _ c.loop-turn.invariant.1 c.in-Err.ensures.ended

pub returns-clause-of : goal.returns-clause-of
returns-clause-of g c = c.loop-turn.invariant.0

pub returns-clause-read : goal.returns-clause-read
returns-clause-read g c = record { rest = g.R.Read.remaining c.loop-turn.input; begins = c.loop-turn.invariant.1; ends = tt }
