use Rattle.content_files.proofs.LocatedNotes.{AreNotedFrom}
use Rattle.content_files.proofs.pieces.Pieces.notes_between.Given as goal

-- the notes of the pieces from the first one on, to before the next one
abbrev pub invariant-loop-index : goal.invariant-loop-index
invariant-loop-index l = AreNotedFrom l.self.each l.first l.index l.begin l.at l.notes.items
