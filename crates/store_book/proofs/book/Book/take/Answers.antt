use Rattle.std.proofs.Common.{ap, sym, ◌∙◌}
use Rattle.std.proofs.lemmas.Result.{err_from_is_err_and}
use Rattle.store_book.specs.BookState.{BookState}
use Rattle.store_book.specs.Layers.{book_catalog}
use Rattle.store_book.proofs.Refine.Take.{home_there, sessions_small, take_ok, take_over, IsBook-take}
use Rattle.store_book.specs.BookFields.{layers}
use Rattle.store_book.proofs.book.Book.take.Goals as goal

pub returns-in_err-charge-clause-does : goal.returns-in_err-charge-clause-does
returns-in_err-charge-clause-does c =
    let p = err_from_is_err_and c.from_residual-in_err-charge.result c.from_residual-in_err-charge.ensures.1 in
    rw (p.1, p.2) (
      (rw (← c.self.view_is) (take_over (layers c.self.inside) c.in_ok-tenant.tenant c.self.invariant c.args.number c.in_ok-place.field-0-0 c.args.len c.args.repo.now c.args.range (sym c.in_ok-tenant.ensures.known) c.in_ok-place.ensures.after _ c.in_err-charge.ensures.0)),
      ap (λ l. book_catalog (record (layers c.self.inside) { links = l })) c.in_err-charge.ensures.1 ∙ ap (λ (s : BookState). s.catalog) c.self.view_is,
    )

pub take-requires-clause-room : goal.take-requires-clause-room
take-requires-clause-room c = sessions_small (layers c.self.inside) c.in_ok-tenant.tenant c.self.invariant c.args.len c.charge.new.self c.in_ok-tenant.ensures.there c.in_ok-charge.ensures

pub take-requires-clause-home : goal.take-requires-clause-home
take-requires-clause-home c = home_there (layers c.self.inside) c.in_ok-tenant.tenant c.self.invariant c.args.number c.in_ok-place.field-0-0 c.args.len c.args.repo.now c.args.range (sym c.in_ok-tenant.ensures.known) c.in_ok-place.ensures.after

pub invariant_of-self-2 : goal.invariant_of-self-2
invariant_of-self-2 c = IsBook-take (layers c.self.inside) c.in_ok-tenant.tenant c.self.invariant c.args.number c.in_ok-place.field-0-0 c.args.len c.args.repo.now c.args.range (sym c.in_ok-tenant.ensures.known) c.in_ok-place.ensures.after c.charge.new.self c.take.new.self c.in_ok-charge.ensures c.take.ensures.taken

pub returns-clause-does : goal.returns-clause-does
returns-clause-does c = rw (← c.self.view_is, c.take.ensures.hand) (take_ok (layers c.self.inside) c.in_ok-tenant.tenant c.self.invariant c.args.number c.in_ok-place.field-0-0 c.args.len c.args.repo.now c.args.range (sym c.in_ok-tenant.ensures.known) c.in_ok-place.ensures.after c.charge.new.self c.take.new.self c.in_ok-charge.ensures c.take.ensures.taken)
