use Rattle.std.proofs.Common.{IfSome, subst}
use Rattle.std.proofs.lemmas.Option.{IfSome_then}
use Rattle.std.specs.Arc.{arc_value}
use Rattle.store_book.specs.BookCalls.{IsStoredBlob}
use Rattle.store_book.specs.BookFields.{layers}
use Rattle.store_book.specs.BookState.{BookState}
use Rattle.store_book.proofs.Layers.StoredBlobs.{stored_here}
use Rattle.store_book.proofs.book.Book.blob_in.Goals as goal

pub returns : goal.returns
returns c =
    subst (λ (s : BookState). IfSome c.blob.result (λ b. IsStoredBlob s.catalog (arc_value b))) c.self.view_is
    (IfSome_then c.blob.result c.blob.ensures (λ b at. stored_here (layers c.self.inside) c.self.invariant c.args.slot (arc_value b) at))
