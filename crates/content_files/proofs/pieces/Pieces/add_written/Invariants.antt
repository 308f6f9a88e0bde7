use Rattle.std.proofs.Common.{length}
use Rattle.content_files.proofs.Chunks.{IsNoting}
use Rattle.content_files.proofs.Joined.{IsAdding}
use Rattle.content_files.proofs.pieces.Pieces.add_written.Given as goal

abbrev pub invariant-loop-rest : goal.invariant-loop-rest
invariant-loop-rest l =
    IsAdding l.initial.self l.fn.written.bytes l.self l.rest
    × IsNoting l.initial.notes.items l.fn.written.bytes l.notes.items l.rest.bytes

abbrev pub decreases-loop-rest : goal.decreases-loop-rest
decreases-loop-rest l = length l.rest.bytes
