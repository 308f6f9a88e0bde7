use Rattle.std.specs.Prelude.{[]}
use Rattle.content_files.proofs.trace.PieceTrace.new.Given as goal

abbrev pub ghosts-named : goal.ghosts-named
ghosts-named a = record { pieces = [] }
