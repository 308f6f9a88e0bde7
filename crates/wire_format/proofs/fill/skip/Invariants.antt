-- The skipped bytes are those that the connection gave.
use Rattle.std.specs.Prelude.{◌≡◌, ◌+◌, ℕ, List, length}
use Rattle.std.specs.Io.KnownBytes.{Consumes}
use Rattle.watched_reader.specs.Watching.{HasNotFailed, inner_of}
use Rattle.wire_format.proofs.fill.skip.Given as goal

abbrev pub invariant-loop-left : goal.invariant-loop-left
invariant-loop-left g l = (bytes : List ℕ) × (length bytes + l.left ≡ l.count) × Consumes (g.R.Read.remaining (inner_of l.initial.input)) (g.R.Read.remaining (inner_of l.input)) bytes × HasNotFailed l.initial.input l.input

abbrev pub decreases-loop-left : goal.decreases-loop-left
decreases-loop-left g l = l.left
