use Rattle.std.proofs.Common.{ap, sym, ◌∙◌, subst, refl}
use Rattle.std.specs.Option.{option_copied}
use Rattle.std.proofs.lemmas.Result.{err_from_is_err_and}
use Rattle.spec_lib.specs.Sets as set
use Rattle.link_table.proofs.Accepted.{appear-contains}
use Rattle.link_table.specs.Linked.{Linked, HasNoLinks, vanish}
use Rattle.store_book.specs.BookState.{BookState}
use Rattle.store_book.specs.Layers.{book_catalog}
use Rattle.store_model.specs.Commands.{start}
use Rattle.store_book.specs.Pinned.{Pinned}
use Rattle.store_book.proofs.Refine.Mount.{session_ok, session_refused, mount_refused_first, can_link, live_source, mount_ok, IsBook-mount}
use Rattle.store_book.proofs.Refine.Start.{same_catalog, same_book, undone, unneeded, appeared_unlinked}
use Rattle.store_book.specs.BookFields.{layers}
use Rattle.store_book.proofs.book.Book.mount.Goals as goal
use Rattle.store_book.proofs.book.Book.mount.Goals.{then-appeared, else-appeared}

pub returns-in_err-number-clause-does : goal.returns-in_err-number-clause-does
returns-in_err-number-clause-does c =
    let p = err_from_is_err_and c.from_residual-in_err-number.result c.from_residual-in_err-number.ensures.1 in
    rw (p.1, p.2) (
      (λ other. rw (← c.self.view_is) (session_refused (layers c.self.inside) c.in_ok-tenant.tenant c.args.repo.now c.self.invariant (sym c.in_ok-tenant.ensures.known) c.args.digest.now (option_copied c.args.from) (rw c.table.ensures at (sym c.in_default.ensures)) _ (ap (λ (s : BookState). start s.catalog c.args.repo.now) c.self.view_is ∙ c.in_err-number.ensures.does.0 other))),
      c.in_err-number.ensures.does.1,
    )

pub returns-in_default-clause-does : goal.returns-in_default-clause-does
returns-in_default-clause-does c = rw (← c.self.view_is) (session_ok (layers c.self.inside) c.in_ok-tenant.tenant c.args.repo.now c.self.invariant (sym c.in_ok-tenant.ensures.known) c.args.digest.now (option_copied c.args.from) (rw c.table.ensures at (sym c.in_default.ensures)) c.in_ok-number.number c.start.new.self.catalog (ap (λ (s : BookState). start s.catalog c.args.repo.now) c.self.view_is ∙ c.in_ok-number.ensures.does))

pub returns-in_err-appeared-clause-does : goal.returns-in_err-appeared-clause-does
returns-in_err-appeared-clause-does c =
    let p = err_from_is_err_and c.from_residual-in_err-appeared.result c.from_residual-in_err-appeared.ensures.1 in
    rw (p.1, p.2) (
      (λ other. rw (← c.self.view_is) (mount_refused_first (layers c.self.inside) c.in_ok-tenant.tenant c.args.repo.now c.self.invariant (sym c.in_ok-tenant.ensures.known) c.args.digest.now (option_copied c.args.from) c.in-Some.slot (rw c.table.ensures at (sym c.in-Some.ensures)) _ (c.in_err-appeared.ensures.0 other))),
      ap (λ l. book_catalog (record (layers c.self.inside) { links = l })) c.in_err-appeared.ensures.1 ∙ ap (λ (s : BookState). s.catalog) c.self.view_is,
    )

pub link_slot-requires-clause-can : goal.link_slot-requires-clause-can
link_slot-requires-clause-can c =
    can_link (layers c.self.inside) c.in_ok-tenant.tenant c.args.repo.now c.self.invariant (sym c.in_ok-tenant.ensures.known) c.args.digest.now (option_copied c.args.from) c.in-Some.slot (rw c.table.ensures at (sym c.in-Some.ensures)) c.appear.new.self c.in_ok-appeared.appeared c.in_ok-appeared.ensures c.in_ok-tenant.ensures.short

pub invariant_of-self-in-Ok : goal.invariant_of-self-in-Ok
invariant_of-self-in-Ok c =
    IsBook-mount (layers c.self.inside) c.in_ok-tenant.tenant c.args.repo.now c.self.invariant (sym c.in_ok-tenant.ensures.known) c.args.digest.now (option_copied c.args.from) c.in-Some.slot (rw c.table.ensures at (sym c.in-Some.ensures)) c.appear.new.self c.in_ok-appeared.appeared c.in_ok-appeared.ensures c.in_ok-tenant.ensures.short c.link_slot.new.links c.link_slot.new.slots.slots (c.in-Ok.ensures.ok c.self.inside.on_disk)

pub returns-in-Ok-clause-does : goal.returns-in-Ok-clause-does
returns-in-Ok-clause-does c =
    rw (← c.self.view_is) (mount_ok (layers c.self.inside) c.in_ok-tenant.tenant c.args.repo.now c.self.invariant (sym c.in_ok-tenant.ensures.known) c.args.digest.now (option_copied c.args.from) c.in-Some.slot (rw c.table.ensures at (sym c.in-Some.ensures)) c.appear.new.self c.in_ok-appeared.appeared c.in_ok-appeared.ensures c.in_ok-tenant.ensures.short c.link_slot.new.links c.link_slot.new.slots.slots (c.in-Ok.ensures.ok c.self.inside.on_disk))

pub returns-in-Ok-clause-slots : goal.returns-in-Ok-clause-slots
returns-in-Ok-clause-slots c = rw (← c.self.view_is) c.in-Ok.ensures.seen

pub link_slot-requires-clause-live : goal.link_slot-requires-clause-live
link_slot-requires-clause-live c =
    live_source (layers c.self.inside) c.in_ok-tenant.tenant c.args.repo.now c.self.invariant (sym c.in_ok-tenant.ensures.known) c.args.digest.now (option_copied c.args.from) c.in-Some.slot (rw c.table.ensures at (sym c.in-Some.ensures))

pub vanish-requires-clause-there : goal.vanish-requires-clause-there
vanish-requires-clause-there c = ap (λ (l : Linked). set.contains l.repos c.args.repo.now) c.in-Err.ensures.err.0 ∙ appear-contains c.self.inside.links c.appear.new.self c.in_ok-tenant.tenant c.args.repo.now c.in_ok-appeared.appeared c.in_ok-appeared.ensures

pub vanish-requires-clause-unlinked : goal.vanish-requires-clause-unlinked
vanish-requires-clause-unlinked c =
    subst (λ (l : Linked). HasNoLinks l.links c.args.repo.now) (sym c.in-Err.ensures.err.0)
    (appeared_unlinked (layers c.self.inside) c.appear.new.self c.in_ok-tenant.tenant c.args.repo.now c.in_ok-appeared.appeared c.self.invariant c.in_ok-appeared.ensures c.if-appeared.true)

pub invariant_of-self-then-appeared : goal.invariant_of-self-then-appeared
invariant_of-self-then-appeared c =
    let links = c.vanish.ensures ∙ ap (λ (l : Linked). vanish l c.args.repo.now) c.in-Err.ensures.err.0 ∙ undone c.self.inside.links c.appear.new.self c.in_ok-tenant.tenant c.args.repo.now c.in_ok-appeared.appeared c.in_ok-appeared.ensures c.if-appeared.true in
    same_book (layers c.self.inside) c.vanish.new.self c.self.inside.uploads c.link_slot.new.slots.slots links refl (ap (λ (p : Pinned). p.slots) c.in-Err.ensures.err.1) c.self.invariant

pub invariant_of-self-else-appeared : goal.invariant_of-self-else-appeared
invariant_of-self-else-appeared c =
    let links = c.in-Err.ensures.err.0 ∙ unneeded c.self.inside.links c.appear.new.self c.in_ok-tenant.tenant c.args.repo.now c.in_ok-appeared.appeared c.in_ok-appeared.ensures c.if-appeared.false in
    same_book (layers c.self.inside) c.link_slot.new.links c.self.inside.uploads c.link_slot.new.slots.slots links refl (ap (λ (p : Pinned). p.slots) c.in-Err.ensures.err.1) c.self.invariant

pub returns-after-appeared-clause-does : goal.returns-after-appeared-clause-does
returns-after-appeared-clause-does c = (
  (λ other. absurd (other c.in-Err.ensures.memory)),
  elim c.if-appeared.branch [
    | then-appeared w ↦
        let links = w.vanish.ensures ∙ ap (λ (l : Linked). vanish l c.args.repo.now) c.in-Err.ensures.err.0 ∙ undone c.self.inside.links c.appear.new.self c.in_ok-tenant.tenant c.args.repo.now c.in_ok-appeared.appeared c.in_ok-appeared.ensures w.if-appeared.true in
        ap (λ (s : BookState). s.catalog) w.self-is ∙ same_catalog (layers c.self.inside) _ c.self.inside.uploads _ links refl (ap (λ (p : Pinned). p.slots) c.in-Err.ensures.err.1) ∙ ap (λ (s : BookState). s.catalog) c.self.view_is
    | else-appeared w ↦
        let links = c.in-Err.ensures.err.0 ∙ unneeded c.self.inside.links c.appear.new.self c.in_ok-tenant.tenant c.args.repo.now c.in_ok-appeared.appeared c.in_ok-appeared.ensures w.if-appeared.false in
        ap (λ (s : BookState). s.catalog) w.self-is ∙ same_catalog (layers c.self.inside) _ c.self.inside.uploads _ links refl (ap (λ (p : Pinned). p.slots) c.in-Err.ensures.err.1) ∙ ap (λ (s : BookState). s.catalog) c.self.view_is
  ],
)
