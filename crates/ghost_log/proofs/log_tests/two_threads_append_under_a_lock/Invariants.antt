use Rattle.ghost_log.proofs.log_tests.two_threads_append_under_a_lock.Given as goal

-- the log that was just made
abbrev pub ghosts-in_two_threads : goal.ghosts-in_two_threads
ghosts-in_two_threads g a = record { name = a.log.name }
