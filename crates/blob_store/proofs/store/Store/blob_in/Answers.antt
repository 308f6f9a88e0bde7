use Rattle.std.proofs.Common.{IfSome, subst}
use Rattle.std.specs.Arc.{arc_value}
use Rattle.store_book.specs.BookCalls.{IsStoredBlob}
use Rattle.store_book.specs.BookState.{BookState}
use Rattle.blob_store.proofs.store.Store.blob_in.Goals as goal

pub returns : goal.returns
returns g c = (
  c.deref.result.now.book,
  c.book.ensures.found,
  subst (λ (b : BookState). IfSome c.blob_in.result (λ x. IsStoredBlob b.catalog (arc_value x))) c.book.ensures.same c.blob_in.ensures,
)
