use Rattle.lease_table.specs.Calls.{event_of}
use Rattle.lease_table.proofs.event.append.Given as goal

abbrev pub ghosts-append_as : goal.ghosts-append_as
ghosts-append_as g a = record { event = event_of a.call }
