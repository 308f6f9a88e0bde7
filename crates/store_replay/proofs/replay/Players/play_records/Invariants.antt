-- The records that were played are among the bytes.
use Rattle.std.specs.Prelude.{◌≤◌, length}
use Rattle.store_replay.proofs.replay.Players.play_records.Given as goal

abbrev pub invariant-loop-turn : goal.invariant-loop-turn
invariant-loop-turn g l = l.count ≤ length l.bytes
