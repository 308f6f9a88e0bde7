use Rattle.durable_log.proofs.mark.mark_seen.Given as goal

abbrev pub ghosts-mark_seen_as : goal.ghosts-mark_seen_as
ghosts-mark_seen_as g a = record { entries = a.writer.now.seen }
