use Rattle.std.proofs.Common.{ap, ◌∙◌}
use Rattle.store_book.specs.BookState.{BookState}
use Rattle.store_model.specs.Queries.{free_slots as told}
use Rattle.blob_store.proofs.store.Store.free_slots.Goals as goal

pub returns : goal.returns
returns g c = (c.deref.result.now.book, c.book.ensures.found, c.free_slots.ensures.left ∙ ap (λ (b : BookState). told b.catalog) c.book.ensures.same)
