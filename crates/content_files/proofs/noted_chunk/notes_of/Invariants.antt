use Rattle.std.proofs.Common.{[], length}
use Rattle.content_files.proofs.Chunks.{IsNoting}
use Rattle.content_files.proofs.noted_chunk.notes_of.Given as goal

abbrev pub invariant-loop-rest : goal.invariant-loop-rest
invariant-loop-rest l = IsNoting [] l.fn.bytes l.notes.items l.rest

abbrev pub decreases-loop-rest : goal.decreases-loop-rest
decreases-loop-rest l = length l.rest
