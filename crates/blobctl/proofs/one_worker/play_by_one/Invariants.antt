use Rattle.blobctl.proofs.one_worker.play_by_one.Given as goal

abbrev pub ghosts-play_on_book : goal.ghosts-play_on_book
ghosts-play_on_book a = record { table = a.pins.now }
