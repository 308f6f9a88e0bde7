-- The bytes that are left make the sum whole.
use Rattle.std.proofs.Common.{◌≡◌, length}
use Rattle.log_frames.specs.Sums.{sum_words}
use Rattle.log_frames.proofs.sum.sum_words.Given as goal

abbrev pub invariant-loop-rest : goal.invariant-loop-rest
invariant-loop-rest l = sum_words l.sum_so_far l.rest ≡ sum_words l.sum l.bytes

abbrev pub decreases-loop-rest : goal.decreases-loop-rest
decreases-loop-rest l = length l.rest
