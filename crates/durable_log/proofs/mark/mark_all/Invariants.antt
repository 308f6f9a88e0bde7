use Rattle.durable_log.proofs.mark.mark_all.Given as goal

abbrev pub ghosts-mark_all_as : goal.ghosts-mark_all_as
ghosts-mark_all_as g a = record { entries = a.history.now.entries }
