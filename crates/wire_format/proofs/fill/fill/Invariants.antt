-- The filled bytes are those that the connection gave.
use Rattle.std.specs.Prelude.{◌≡◌, ◌-◌, ◌≤◌, length, take}
use Rattle.std.specs.Io.KnownBytes.{Consumes}
use Rattle.watched_reader.specs.Watching.{HasNotFailed, inner_of}
use Rattle.wire_format.proofs.fill.fill.Given as goal

abbrev pub invariant-loop-at : goal.invariant-loop-at
invariant-loop-at g l = (length l.buffer ≡ length l.initial.buffer) × (l.at ≤ length l.buffer) × Consumes (g.R.Read.remaining (inner_of l.initial.input)) (g.R.Read.remaining (inner_of l.input)) (take l.at l.buffer) × HasNotFailed l.initial.input l.input

abbrev pub decreases-loop-at : goal.decreases-loop-at
decreases-loop-at g l = length l.buffer - l.at
