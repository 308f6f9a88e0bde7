use Rattle.std.proofs.Common.{◌≡◌, drop}
use Rattle.blob_digest.specs.NameMachine.{is_accepted_from}
use Rattle.blob_digest.specs.declared.name.State.TheVariants.{Start}
use Rattle.blob_digest.proofs.name.reads_path.Given as goal

abbrev pub invariant-loop-c : goal.invariant-loop-c
invariant-loop-c l = is_accepted_from l.state (drop l.c-index l.text) ≡ is_accepted_from Start l.text
