use Rattle.locked_book.specs.Calls.{step_of}
use Rattle.locked_book.proofs.step.append.Given as goal

abbrev pub ghosts-append_as : goal.ghosts-append_as
ghosts-append_as g a = record { step = step_of a.call }
