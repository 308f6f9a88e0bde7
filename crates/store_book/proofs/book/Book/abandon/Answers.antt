use Rattle.std.proofs.Common.{sym}
use Rattle.store_book.proofs.Refine.Abandon.{abandoned_charged, IsBook-abandon}
use Rattle.store_book.specs.BookFields.{layers}
use Rattle.store_book.proofs.book.Book.abandon.Goals as goal

pub discharge-requires-clause-charged : goal.discharge-requires-clause-charged
discharge-requires-clause-charged c =
    abandoned_charged (layers c.self.inside) c.in_ok-tenant.tenant c.args.number c.args.repo.now (sym c.in_ok-tenant.ensures.known) c.in_ok-received.received c.in_ok-received.ensures.received c.self.invariant

pub invariant_of-self : goal.invariant_of-self
invariant_of-self c =
    IsBook-abandon (layers c.self.inside) c.in_ok-tenant.tenant c.args.number c.args.repo.now (sym c.in_ok-tenant.ensures.known) c.in_ok-received.received c.in_ok-received.ensures.received c.self.invariant
    c.discharge.new.self c.remove.new.self c.discharge.ensures c.remove.ensures
