-- What was filled is what the log gave.
use Rattle.std.specs.Prelude.{◌≡◌, ◌-◌, ◌≤◌, length, take, drop}
use Rattle.std.specs.Io.KnownBytes.{Consumes}
use Rattle.log_frames.proofs.fill.fill.Given as goal

abbrev pub invariant-loop-at : goal.invariant-loop-at
invariant-loop-at g l = (length l.buffer ≡ length l.initial.buffer) × (l.start ≤ l.at) × (l.at ≤ l.end) × (take l.start l.buffer ≡ take l.start l.initial.buffer) × Consumes (g.R.Read.remaining l.initial.input) (g.R.Read.remaining l.input) (drop l.start (take l.at l.buffer))

abbrev pub decreases-loop-at : goal.decreases-loop-at
decreases-loop-at g l = l.end - l.at
