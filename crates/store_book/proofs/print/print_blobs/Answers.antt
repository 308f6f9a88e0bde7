use Rattle.store_book.specs.Internal.Lines.{blob_row}
use Rattle.spec_lib.proofs.Writing.{Appends-step}
use Rattle.store_book.proofs.print.print_blobs.Goals as goal

pub loop-blob-preserved : goal.loop-blob-preserved
loop-blob-preserved g c = λ whole rest. c.loop-blob.invariant whole (Appends-step (blob_row c.args.slots.now) _ _ whole c.in-Some.blob _ _ c.in-Some.ensures.steps c.in_ok-print_blob.ensures rest)
