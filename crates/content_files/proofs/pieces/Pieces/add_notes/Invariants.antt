use Rattle.std.proofs.Common.{length}
use Rattle.content_files.proofs.FirstNotes.{IsAddingNotes}
use Rattle.content_files.proofs.pieces.Pieces.add_notes.Given as goal

abbrev pub invariant-loop-rest : goal.invariant-loop-rest
invariant-loop-rest l = IsAddingNotes l.initial.self l.fn.notes l.self l.rest

abbrev pub decreases-loop-rest : goal.decreases-loop-rest
decreases-loop-rest l = length l.rest
