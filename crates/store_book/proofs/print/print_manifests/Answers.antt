use Rattle.store_model.specs.BookText.{manifest_row}
use Rattle.spec_lib.proofs.Writing.{Appends-step}
use Rattle.store_book.proofs.print.print_manifests.Goals as goal

pub loop-digest-preserved : goal.loop-digest-preserved
loop-digest-preserved g c = λ whole rest. c.loop-digest.invariant whole (Appends-step manifest_row _ _ whole (c.in-Some.digest, c.in-Some.manifest.now) _ _ c.in-Some.ensures.steps c.in_ok-print_manifest.ensures rest)
