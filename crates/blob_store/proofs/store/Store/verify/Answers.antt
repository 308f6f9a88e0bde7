use Rattle.std.proofs.Common.{subst}
use Rattle.pin_core.specs.declared.world.PinRecord.{PinRecord}
use Rattle.store_book.specs.SlotSteps.{HasPin}
use Rattle.blob_store.proofs.store.Store.verify.Goals as goal

pub returns-clause-kept : goal.returns-clause-kept
returns-clause-kept g c =
    let book = c.deref_mut.result.now.book in
    (book, c.verify-pin.ensures.found, subst (λ (h : PinRecord). HasPin h book) c.into_parts-pin.ensures.pin.1 c.verify-pin.ensures.kept)
