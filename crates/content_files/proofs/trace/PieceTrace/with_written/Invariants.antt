use Rattle.std.specs.Prelude.{◌++◌, ◌∷◌, []}
use Rattle.content_files.proofs.trace.PieceTrace.with_written.Given as goal

abbrev pub ghosts-with_written_as : goal.ghosts-with_written_as
ghosts-with_written_as a = record { pieces = a.self.now.each ++ a.piece.now.bytes ∷ [] }
