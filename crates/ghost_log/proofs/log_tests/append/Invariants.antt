use Rattle.ghost_log.proofs.log_tests.append.Given as goal

abbrev pub ghosts-append_as : goal.ghosts-append_as
ghosts-append_as a = record { number = a.number }
