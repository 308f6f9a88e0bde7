use Rattle.std.proofs.Common.{sym, subst}
use Rattle.link_table.specs.Linked.{Linked}
use Rattle.store_book.specs.Layers.{IsBook}
use Rattle.store_book.proofs.Refine.Repos.{IsBook-remove_repo, no_links}
use Rattle.store_book.specs.BookFields.{layers}
use Rattle.store_book.proofs.book.Book.remove_repo.Goals as goal

pub vanish-requires-clause-unlinked : goal.vanish-requires-clause-unlinked
vanish-requires-clause-unlinked c =
    no_links (layers c.self.inside) c.in_ok-owner.owner c.args.repo.now c.self.invariant (sym c.in_ok-owner.ensures.known) (sym c.if-not-has_repo.ensures) (rw (← c.self.view_is) at (sym c.if-is_in_use.ensures))

pub invariant_of-self : goal.invariant_of-self
invariant_of-self c =
    let i = c.self.inside in
    subst (λ (l : Linked). IsBook (record (layers i) { links = l })) (sym c.vanish.ensures)
    (IsBook-remove_repo (layers i) c.in_ok-owner.owner c.args.repo.now c.self.invariant (sym c.in_ok-owner.ensures.known) (sym c.if-not-has_repo.ensures) (rw (← c.self.view_is) at (sym c.if-is_in_use.ensures)))
