use Rattle.blob_store.specs.Parts.{names_of}
use Rattle.store_server.proofs.serving.serve_new.Given as goal

abbrev pub ghosts-serve_parts-S-Naming : goal.ghosts-serve_parts-S-Naming
ghosts-serve_parts-S-Naming g a = record { names = names_of a.parts }

abbrev pub ghosts-serve_parts-L-LeaseNaming : goal.ghosts-serve_parts-L-LeaseNaming
ghosts-serve_parts-L-LeaseNaming g a = record { log = a.log.name }
