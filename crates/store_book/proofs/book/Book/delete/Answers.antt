use Rattle.std.proofs.Common.{sym, ap, refl, subst, ◌∙◌}
use Rattle.link_table.specs.Linked.{Linked}
use Rattle.store_book.specs.Layers.{IsBook, book_catalog}
use Rattle.store_book.specs.Pinned.{Pinned}
use Rattle.store_book.proofs.Layers.LinkedSlots.{has_slot}
use Rattle.store_book.proofs.Refine.Delete.{delete_unknown, live_there, counted_there, delete_ok, delete_referenced, IsBook-delete, slots_kept, unlink_absent}
use Rattle.store_book.specs.BookFields.{layers}
use Rattle.store_book.proofs.book.Book.delete.Goals as goal

pub returns-in-Some-clause-does : goal.returns-in-Some-clause-does
returns-in-Some-clause-does c = (rw (← c.self.view_is) (delete_referenced (layers c.self.inside) c.in_ok-tenant.tenant c.args.repo.now c.args.digest.now c.self.invariant (sym c.in_ok-tenant.ensures.known) c.in-Some.manifest (sym c.in-Some.ensures)), refl)

-- the digest was not linked, and nothing was removed
pub invariant_of-self : goal.invariant_of-self
invariant_of-self c =
    let L = layers c.self.inside in
    let same = c.unlink.ensures.gone ∙ unlink_absent L c.in_ok-tenant.tenant c.args.repo.now c.args.digest.now c.self.invariant (sym c.in_ok-tenant.ensures.known) (sym c.if-not-unlink.ensures.was) in
    subst (λ (l : Linked). IsBook (record L { links = l })) (sym same) c.self.invariant

pub returns-then-not-unlink-clause-does : goal.returns-then-not-unlink-clause-does
returns-then-not-unlink-clause-does c =
    let L = layers c.self.inside in
    let none = sym c.if-not-unlink.ensures.was in
    let same = c.unlink.ensures.gone ∙ unlink_absent L c.in_ok-tenant.tenant c.args.repo.now c.args.digest.now c.self.invariant (sym c.in_ok-tenant.ensures.known) none in
    rw (← c.self.view_is) (
      delete_unknown L c.in_ok-tenant.tenant c.args.repo.now c.args.digest.now c.self.invariant (sym c.in_ok-tenant.ensures.known) none,
      ap (λ (l : Linked). book_catalog (record L { links = l })) same,
    )

pub link_down-requires-clause-live : goal.link_down-requires-clause-live
link_down-requires-clause-live c = live_there (layers c.self.inside) c.in_ok-tenant.tenant c.args.repo.now c.args.digest.now c.self.invariant (sym c.in_ok-tenant.ensures.known) c.in-Some-find.slot (sym c.if-not-unlink.ensures.was) (rw c.table.ensures at (sym c.in-Some-find.ensures.slot))

pub link_down-requires-clause-linked : goal.link_down-requires-clause-linked
link_down-requires-clause-linked c = counted_there (layers c.self.inside) c.in_ok-tenant.tenant c.args.repo.now c.args.digest.now c.self.invariant (sym c.in_ok-tenant.ensures.known) c.in-Some-find.slot (sym c.if-not-unlink.ensures.was) (rw c.table.ensures at (sym c.in-Some-find.ensures.slot))

pub invariant_of-self-in-Some-find : goal.invariant_of-self-in-Some-find
invariant_of-self-in-Some-find c =
    IsBook-delete (layers c.self.inside) c.in_ok-tenant.tenant c.args.repo.now c.args.digest.now c.self.invariant (sym c.in_ok-tenant.ensures.known) c.in-Some-find.slot (sym c.if-not-unlink.ensures.was) (rw c.table.ensures at (sym c.in-Some-find.ensures.slot))
    (sym c.in_default.ensures) c.unlink.new.self c.link_down.new.self.slots c.unlink.ensures.gone (ap (λ (p : Pinned). p.slots) c.link_down.ensures)

-- a linked digest has a slot
pub unreachable-requires : goal.unreachable-requires
unreachable-requires c = has_slot (layers c.self.inside) c.self.invariant c.args.repo.now c.args.digest.now (sym c.if-not-unlink.ensures.was) (rw c.table.ensures at (sym c.in-None.ensures.slot))

pub returns-clause-does : goal.returns-clause-does
returns-clause-does c =
    rw (← c.self.view_is) (delete_ok (layers c.self.inside) c.in_ok-tenant.tenant c.args.repo.now c.args.digest.now c.self.invariant (sym c.in_ok-tenant.ensures.known) c.in-Some-find.slot (sym c.if-not-unlink.ensures.was) (rw c.table.ensures at (sym c.in-Some-find.ensures.slot))
    (sym c.in_default.ensures) c.unlink.new.self c.link_down.new.self.slots c.unlink.ensures.gone (ap (λ (p : Pinned). p.slots) c.link_down.ensures))

pub returns-clause-slots : goal.returns-clause-slots
returns-clause-slots c = rw (← c.self.view_is) (slots_kept c.self.inside.slots c.link_down.new.self c.in-Some-find.slot c.link_down.ensures)
