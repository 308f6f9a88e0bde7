use Rattle.std.proofs.Common.{Ok, length, sym, ap, ◌∙◌}
use Rattle.store_book.specs.BookFields.{layers}
use Rattle.store_book.specs.Internal.Storing.{bytes_at}
use Rattle.store_book.proofs.Refine.Queries.{stat_is, stat_unknown}
use Rattle.store_book.proofs.book.Book.stat.Goals as goal

pub returns-in-Some : goal.returns-in-Some
returns-in-Some c =
    rw (← c.self.view_is) (
    ap Ok c.held_len.ensures
    ∙ ap (λ slots. Ok (length (bytes_at slots c.in-Some.slot))) c.table-slots.ensures
    ∙ sym (stat_is (layers c.self.inside) c.in_ok-tenant.tenant c.args.repo.now c.self.invariant (sym c.in_ok-tenant.ensures.known) c.args.digest.now c.in-Some.slot (rw c.table-slots.ensures at (sym c.in-Some.ensures)))
    )

pub returns-in-None : goal.returns-in-None
returns-in-None c = rw (← c.self.view_is) (sym (stat_unknown (layers c.self.inside) c.in_ok-tenant.tenant c.args.repo.now c.self.invariant (sym c.in_ok-tenant.ensures.known) c.args.digest.now (rw c.table-slots.ensures at (sym c.in-None.ensures))))
