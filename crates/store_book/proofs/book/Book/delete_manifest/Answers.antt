use Rattle.std.proofs.Common.{sym, subst}
use Rattle.link_table.specs.Linked.{Linked}
use Rattle.store_book.specs.Layers.{IsBook}
use Rattle.store_book.proofs.Refine.Manifests.{IsBook-delete_manifest}
use Rattle.store_book.specs.BookFields.{layers}
use Rattle.store_book.proofs.book.Book.delete_manifest.Goals as goal

pub invariant_of-self : goal.invariant_of-self
invariant_of-self c =
    let i = c.self.inside in
    subst (λ (l : Linked). IsBook (record (layers i) { links = l })) (sym c.drop_manifest.ensures)
    (IsBook-delete_manifest (layers i) c.in_ok-tenant.field-0 c.args.repo.now c.args.digest.now (sym c.in_ok-tenant.ensures.known) c.in-Some.field-0.now.value (sym c.in-Some.ensures) c.self.invariant)
