use Rattle.blob_store.specs.Parts.{names_of}
use Rattle.blobd.proofs.durable_serving.serve_log.Given as goal

abbrev pub ghosts-serve_for_totals-S-Naming : goal.ghosts-serve_for_totals-S-Naming
ghosts-serve_for_totals-S-Naming g a = record { names = names_of a.parts }

abbrev pub ghosts-serve_for_totals-L-LeaseNaming : goal.ghosts-serve_for_totals-L-LeaseNaming
ghosts-serve_for_totals-L-LeaseNaming g a = record { log = a.leases.name }
