use Rattle.std.specs.Prelude.{◌-◌, length, take}
use Rattle.content_files.proofs.trace.PieceTrace.without_last.Given as goal

abbrev pub ghosts-without_last_as : goal.ghosts-without_last_as
ghosts-without_last_as a = record { pieces = take (length a.self.now.each - 1) a.self.now.each }
