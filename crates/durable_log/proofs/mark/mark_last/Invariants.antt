use Rattle.std.proofs.Common.{[]}
use Rattle.durable_log.specs.Views.{last_of}
use Rattle.durable_log.proofs.mark.mark_last.Given as goal

abbrev pub ghosts-mark_last_as : goal.ghosts-mark_last_as
ghosts-mark_last_as g a = record { entries = last_of [] a.other.now.own }
