use Rattle.log_disk.proofs.deed.add_write.Given as goal

abbrev pub ghosts-add_write_as : goal.ghosts-add_write_as
ghosts-add_write_as a = record { bytes = a.bytes.now }
