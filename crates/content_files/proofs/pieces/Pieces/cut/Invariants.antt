use Rattle.std.proofs.Common.{◌≡◌, ◌≤◌, length, take}
use Rattle.content_files.specs.Notes.{joined}
use Rattle.content_files.specs.Pieces.{LieAs}
use Rattle.content_files.proofs.pieces.Pieces.cut.Given as goal

abbrev pub invariant-loop : goal.invariant-loop
invariant-loop l = LieAs l.initial.self l.self × (take l.fn.len (joined l.self.each) ≡ take l.fn.len (joined l.initial.self.each)) × (l.fn.len ≤ length (joined l.self.each))
