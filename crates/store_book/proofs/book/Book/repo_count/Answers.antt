use Rattle.std.proofs.Common.{Ok, sym, ap, ◌∙◌}
use Rattle.store_book.specs.BookFields.{layers}
use Rattle.store_book.proofs.Refine.Queries.{repo_count_is}
use Rattle.store_book.proofs.book.Book.repo_count.Goals as goal

pub returns : goal.returns
returns c = rw (← c.self.view_is) (ap Ok c.repo_count.ensures ∙ sym (repo_count_is (layers c.self.inside) c.in_ok-tenant.tenant c.args.repo.now c.self.invariant (sym c.in_ok-tenant.ensures.known)))
