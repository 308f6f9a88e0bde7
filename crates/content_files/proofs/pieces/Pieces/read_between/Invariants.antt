use Rattle.std.proofs.Common.{◌≡◌, ◌≤◌, ◌+◌, length}
use Rattle.content_files.proofs.Parts.{AreReadFrom}
use Rattle.content_files.proofs.pieces.Pieces.read_between.Given as goal

-- what was read of the pieces from the first one on, to before the next one
abbrev pub invariant-loop-index : goal.invariant-loop-index
invariant-loop-index g l =
    (l.first ≤ l.index) × (l.at ≡ l.begin + length l.bytes.items) × AreReadFrom l.self.each l.first l.index l.bytes.items
