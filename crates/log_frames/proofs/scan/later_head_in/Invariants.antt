-- No later head begins in what was passed.
use Rattle.std.specs.Prelude.{◌≡◌, ◌+◌, List, ℕ, ◌++◌, length}
use Rattle.log_frames.proofs.Scanning.{StandsBehind}
use Rattle.log_frames.proofs.scan.later_head_in.Given as goal

abbrev pub invariant-loop-rest : goal.invariant-loop-rest
invariant-loop-rest l = (passed : List ℕ) × (l.bytes ≡ passed ++ l.rest) × (l.at ≡ l.place + length passed) × StandsBehind l.id l.limit l.place l.bytes (length passed)

abbrev pub decreases-loop-rest : goal.decreases-loop-rest
decreases-loop-rest l = length l.rest
