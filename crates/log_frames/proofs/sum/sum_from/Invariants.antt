-- The bytes that are left make the sum whole.
use Rattle.std.proofs.Common.{◌≡◌, drop}
use Rattle.log_frames.specs.Sums.{sum_from}
use Rattle.log_frames.proofs.sum.sum_from.Given as goal

abbrev pub invariant-loop-byte : goal.invariant-loop-byte
invariant-loop-byte l = sum_from l.sum_so_far (drop l.byte-index l.bytes) ≡ sum_from l.sum l.bytes
