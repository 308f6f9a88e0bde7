use Rattle.std.proofs.Common.{Ok, sym, ◌∙◌}
use Rattle.store_book.specs.BookFields.{layers}
use Rattle.store_book.proofs.Refine.Queries.{usage_is}
use Rattle.store_book.proofs.book.Book.usage.Goals as goal

pub returns : goal.returns
returns c = rw (← c.self.view_is) ((λ i. Ok (record { used = c.used.ensures i; quota = c.quota.ensures i })) ∙ sym (usage_is (layers c.self.inside) c.in_ok-tenant.tenant c.args.repo.now c.self.invariant (sym c.in_ok-tenant.ensures.known) c.in_ok-tenant.ensures.there))
