use Rattle.std.specs.Prelude.{◌++◌, ◌∷◌, []}
use Rattle.content_files.specs.Notes.{unread}
use Rattle.content_files.proofs.trace.PieceTrace.with_unread.Given as goal

abbrev pub ghosts-with_unread_as : goal.ghosts-with_unread_as
ghosts-with_unread_as a = record { pieces = a.self.now.each ++ unread a.len a.sum ∷ [] }
