use Rattle.std.proofs.Common.{true, ap, sym, ◌∙◌, refl}
use Rattle.std.proofs.lemmas.Result.{err_from_is_err_and}
use Rattle.link_table.proofs.Accepted.{appear-contains, appear-own}
use Rattle.blob_digest.specs.Tenants.{Limits}
use Rattle.store_book.specs.BookState.{BookState}
use Rattle.store_book.specs.Layers.{book_catalog}
use Rattle.store_book.proofs.Refine.Start.{same_catalog, same_book, start_ok, start_refused, start_refused_first, undone, unneeded, IsBook-start, appeared_unlinked}
use Rattle.store_book.specs.BookFields.{layers}
use Rattle.store_book.proofs.book.Book.start.Goals as goal
use Rattle.store_book.proofs.book.Book.start.Goals.{then-is_new, else-is_new}

pub returns-in_err-is_new-clause-does : goal.returns-in_err-is_new-clause-does
returns-in_err-is_new-clause-does c =
    let p = err_from_is_err_and c.from_residual-in_err-is_new.result c.from_residual-in_err-is_new.ensures.1 in
    rw (p.1, p.2) (
      (λ other. rw (← c.self.view_is) (start_refused_first (layers c.self.inside) c.self.inside.links c.in_ok-tenant.tenant c.args.repo.now true _ (sym c.in_ok-tenant.ensures.known) (c.in_err-is_new.ensures.0 other))),
      ap (λ l. book_catalog (record (layers c.self.inside) { links = l })) c.in_err-is_new.ensures.1 ∙ ap (λ (s : BookState). s.catalog) c.self.view_is,
    )

pub vanish-requires-clause-own : goal.vanish-requires-clause-own
vanish-requires-clause-own c = appear-own c.self.inside.links c.appear.new.self c.in_ok-tenant.tenant c.args.repo.now c.in_ok-is_new.is_new c.in_ok-is_new.ensures c.in_ok-tenant.ensures.own

pub vanish-requires-clause-there : goal.vanish-requires-clause-there
vanish-requires-clause-there c = appear-contains c.self.inside.links c.appear.new.self c.in_ok-tenant.tenant c.args.repo.now c.in_ok-is_new.is_new c.in_ok-is_new.ensures

pub vanish-requires-clause-unlinked : goal.vanish-requires-clause-unlinked
vanish-requires-clause-unlinked c = appeared_unlinked (layers c.self.inside) c.appear.new.self c.in_ok-tenant.tenant c.args.repo.now c.in_ok-is_new.is_new c.self.invariant c.in_ok-is_new.ensures c.if-is_new.true

pub returns-in-Ok-clause-does : goal.returns-in-Ok-clause-does
returns-in-Ok-clause-does c = rw (← c.self.view_is) (start_ok (layers c.self.inside) c.appear.new.self c.in_ok-tenant.tenant c.args.repo.now c.in_ok-is_new.is_new c.limits-limit.result.sessions (ap (λ (l : Limits). l.sessions) c.limits-limit.ensures) c.start.new.self c.in-Ok.number (sym c.in_ok-tenant.ensures.known) c.in_ok-is_new.ensures c.in-Ok.ensures)

pub returns-after-is_new-clause-does : goal.returns-after-is_new-clause-does
returns-after-is_new-clause-does c = (
  (λ other. rw (← c.self.view_is) (start_refused (layers c.self.inside) c.appear.new.self c.in_ok-tenant.tenant c.args.repo.now c.in_ok-is_new.is_new c.limits-limit.result.sessions (ap (λ (l : Limits). l.sessions) c.limits-limit.ensures) c.in-Err.refusal (sym c.in_ok-tenant.ensures.known) c.in_ok-is_new.ensures (c.in-Err.ensures.0 other))),
  elim c.if-is_new.branch [
    | then-is_new w ↦ ap (λ (s : BookState). s.catalog) w.self-is ∙ same_catalog (layers c.self.inside) _ _ c.self.inside.slots.slots (w.vanish.ensures ∙ undone c.self.inside.links c.appear.new.self c.in_ok-tenant.tenant c.args.repo.now c.in_ok-is_new.is_new c.in_ok-is_new.ensures w.if-is_new.true) c.in-Err.ensures.1 refl ∙ ap (λ (s : BookState). s.catalog) c.self.view_is
    | else-is_new w ↦ ap (λ (s : BookState). s.catalog) w.self-is ∙ same_catalog (layers c.self.inside) _ _ c.self.inside.slots.slots (unneeded c.self.inside.links c.appear.new.self c.in_ok-tenant.tenant c.args.repo.now c.in_ok-is_new.is_new c.in_ok-is_new.ensures w.if-is_new.false) c.in-Err.ensures.1 refl ∙ ap (λ (s : BookState). s.catalog) c.self.view_is
  ],
)

pub invariant_of-self-in-Ok : goal.invariant_of-self-in-Ok
invariant_of-self-in-Ok c =
    IsBook-start (layers c.self.inside) c.appear.new.self c.in_ok-tenant.tenant c.args.repo.now c.in_ok-is_new.is_new c.self.invariant c.limits-limit.result.sessions (ap (λ (l : Limits). l.sessions) c.limits-limit.ensures) c.start.new.self c.in-Ok.number
    c.in_ok-tenant.ensures.short (sym c.in_ok-tenant.ensures.known) c.in_ok-is_new.ensures c.in-Ok.ensures

pub invariant_of-self-then-is_new : goal.invariant_of-self-then-is_new
invariant_of-self-then-is_new c =
    let links = c.vanish.ensures ∙ undone c.self.inside.links c.appear.new.self c.in_ok-tenant.tenant c.args.repo.now c.in_ok-is_new.is_new c.in_ok-is_new.ensures c.if-is_new.true in
    same_book (layers c.self.inside) c.vanish.new.self c.start.new.self c.self.inside.slots.slots links c.in-Err.ensures.1 refl c.self.invariant

pub invariant_of-self-else-is_new : goal.invariant_of-self-else-is_new
invariant_of-self-else-is_new c =
    let links = unneeded c.self.inside.links c.appear.new.self c.in_ok-tenant.tenant c.args.repo.now c.in_ok-is_new.is_new c.in_ok-is_new.ensures c.if-is_new.false in
    same_book (layers c.self.inside) c.appear.new.self c.start.new.self c.self.inside.slots.slots links c.in-Err.ensures.1 refl c.self.invariant
