use Rattle.blob_store.specs.Parts.{names_of}
use Rattle.blobctl.proofs.workers.play_by_workers.Given as goal

abbrev pub ghosts-play_on_store : goal.ghosts-play_on_store
ghosts-play_on_store g a = record { names = names_of a.parts }
