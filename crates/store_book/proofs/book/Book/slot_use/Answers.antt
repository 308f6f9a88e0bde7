use Rattle.std.proofs.Common.{Ok, sym, ◌∙◌}
use Rattle.store_book.specs.BookFields.{layers}
use Rattle.store_book.proofs.Refine.Queries.{slot_use_is}
use Rattle.store_book.proofs.book.Book.slot_use.Goals as goal

pub returns : goal.returns
returns c = rw (← c.self.view_is) ((λ i. Ok (record { blobs = c.blob_count.ensures i; share = c.share.ensures i })) ∙ sym (slot_use_is (layers c.self.inside) c.in_ok-tenant.tenant c.args.repo.now c.self.invariant (sym c.in_ok-tenant.ensures.known)))
