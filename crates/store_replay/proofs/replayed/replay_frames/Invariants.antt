-- The frames so far were replayed, and the log begins with them.
use Rattle.store_replay.specs.Replays.{BeginsWith, IsReplayOf, total}
use Rattle.store_replay.proofs.replayed.replay_frames.Given as goal

abbrev pub invariant-loop-turn : goal.invariant-loop-turn
invariant-loop-turn g l = IsReplayOf l.id (total l.fn.replay) l.trail l.cursor l.replay × BeginsWith l.id (g.R.Read.remaining l.fn.input) (g.R.Read.remaining l.input) l.trail
