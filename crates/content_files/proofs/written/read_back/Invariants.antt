use Rattle.std.proofs.Common.{length}
use Rattle.content_files.proofs.written.read_back.Given as goal

abbrev pub decreases-loop-rest : goal.decreases-loop-rest
decreases-loop-rest l = length l.rest
