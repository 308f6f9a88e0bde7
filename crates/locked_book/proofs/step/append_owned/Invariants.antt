use Rattle.locked_book.specs.Calls.{step_of}
use Rattle.locked_book.proofs.step.append_owned.Given as goal

abbrev pub ghosts-append_owned_as : goal.ghosts-append_owned_as
ghosts-append_owned_as g a = record { step = step_of a.call }
