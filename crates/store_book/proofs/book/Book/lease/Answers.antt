use Rattle.std.proofs.Common.{true, false, refl, sym, ap, ◌∙◌}
use Rattle.std.proofs.lemmas.Result.{err_from_is_err_and}
use Rattle.store_book.specs.Layers.{book_catalog}
use Rattle.store_book.specs.Pinned.{Pinned}
use Rattle.store_book.proofs.Refine.Look.{EachSlot-still}
use Rattle.store_book.proofs.Refine.Lease.{lease_ok, lease_unknown, lent_digest, live_there, held, lease_full, shared_digest, EachSlot-looked, EachSlot-lent, IsCrowded-full, IsBook-lease, finds_no_room}
use Rattle.pin_table.specs.Calls.{PinValue}
use Rattle.store_book.specs.BookState.{BookState}
use Rattle.store_book.specs.BookFields.{layers}
use Rattle.store_book.proofs.book.Book.lease.Goals as goal

pub returns-in_default-clause-does : goal.returns-in_default-clause-does
returns-in_default-clause-does c = rw (← c.self.view_is) (record {
  crowded = false;
  does = ((λ other. lease_unknown (layers c.self.inside) c.in_ok-tenant.tenant c.args.repo.now c.args.digest.now c.self.invariant (sym c.in_ok-tenant.ensures.known) (rw c.table-slots.ensures at (sym c.in_default.ensures))), refl);
  look = λ e. absurd cc;
})

pub share-requires : goal.share-requires
share-requires c = record { live = live_there (layers c.self.inside) c.in_ok-tenant.tenant c.args.repo.now c.args.digest.now c.self.invariant (sym c.in_ok-tenant.ensures.known) c.in-Some.slot (rw c.table-slots.ensures at (sym c.in-Some.ensures)) }

pub lend-requires-clause-live : goal.lend-requires-clause-live
lend-requires-clause-live c = live_there (layers c.self.inside) c.in_ok-tenant.tenant c.args.repo.now c.args.digest.now c.self.invariant (sym c.in_ok-tenant.ensures.known) c.in-Some.slot (rw c.table-slots.ensures at (sym c.in-Some.ensures))

pub returns-in_err-pin-clause-does : goal.returns-in_err-pin-clause-does
returns-in_err-pin-clause-does c =
    let p = err_from_is_err_and c.from_residual-in_err-pin.result c.from_residual-in_err-pin.ensures.1 in
    let e = c.in_err-pin.ensures in
    let h = held (layers c.self.inside) c.in_ok-tenant.tenant c.args.repo.now c.args.digest.now c.self.invariant (sym c.in_ok-tenant.ensures.known) c.in-Some.slot (rw c.table-slots.ensures at (sym c.in-Some.ensures)) in
    rw (p.1, p.2, e.0, ← c.self.view_is) (record {
      crowded = true;
      does = ((λ other. lease_full (layers c.self.inside) c.in_ok-tenant.tenant c.args.repo.now c.args.digest.now c.self.invariant (sym c.in_ok-tenant.ensures.known) c.in-Some.slot (rw c.table-slots.ensures at (sym c.in-Some.ensures))), ap (λ (x : Pinned). book_catalog (record (layers c.self.inside) { slots = x.slots })) e.1.after);
      look = λ _. IsCrowded-full c.self.inside.slots c.lend.new.self c.in-Some.slot c.args.digest.now h.0 h.1 h.2 c.share.ensures.one_each e.1;
    })

pub returns-in_err-pin-clause-slots : goal.returns-in_err-pin-clause-slots
returns-in_err-pin-clause-slots c = let e = c.in_err-pin.ensures.1 in rw (← c.self.view_is) (EachSlot-looked c.args.digest.now c.self.inside.slots c.lend.new.self c.in-Some.slot e.weight e.within e.after)

pub invariant_of-self-2 : goal.invariant_of-self-2
invariant_of-self-2 c = IsBook-lease (layers c.self.inside) c.in_ok-tenant.tenant c.args.repo.now c.args.digest.now c.self.invariant (sym c.in_ok-tenant.ensures.known) c.in-Some.slot (rw c.table-slots.ensures at (sym c.in-Some.ensures)) c.lend.new.self.slots (ap (λ (p : Pinned). p.slots) c.in_ok-pin.ensures.after)

pub returns-clause-does : goal.returns-clause-does
returns-clause-does c = rw (← c.self.view_is) (record {
  crowded = false;
  does = lease_ok (layers c.self.inside) c.in_ok-tenant.tenant c.args.repo.now c.args.digest.now c.self.invariant (sym c.in_ok-tenant.ensures.known) c.in-Some.slot (rw c.table-slots.ensures at (sym c.in-Some.ensures)) c.lend.new.self.slots c.in_ok-blob.blob.value (ap (λ (p : Pinned). p.slots) c.in_ok-pin.ensures.after) c.in_ok-blob.ensures.value;
  look = λ e. absurd cc;
})

pub returns-clause-pin : goal.returns-clause-pin
returns-clause-pin c =
    let e = c.in_ok-pin.ensures in
    (ap (λ (x : PinValue). x.table) e.is ∙ ap (λ (s : BookState). s.table) c.self.view_is ∙ c.requires.table, lent_digest (layers c.self.inside) c.in_ok-tenant.tenant c.args.repo.now c.args.digest.now c.self.invariant (sym c.in_ok-tenant.ensures.known) c.in-Some.slot (rw c.table-slots.ensures at (sym c.in-Some.ensures)) c.in_ok-pin.pin.hold.digest e.digest, ap (λ (x : PinValue). x.hold.weight) e.is)

pub returns-clause-slots : goal.returns-clause-slots
returns-clause-slots c =
    let e = c.in_ok-pin.ensures in
    let h = held (layers c.self.inside) c.in_ok-tenant.tenant c.args.repo.now c.args.digest.now c.self.invariant (sym c.in_ok-tenant.ensures.known) c.in-Some.slot (rw c.table-slots.ensures at (sym c.in-Some.ensures)) in
    rw (← c.self.view_is) (EachSlot-lent c.args.digest.now c.self.inside.slots c.lend.new.self c.in-Some.slot e.bound h.0 h.1 h.2 e.within e.after)

pub returns-in_err-pin-clause-readers : goal.returns-in_err-pin-clause-readers
returns-in_err-pin-clause-readers c =
    let p = err_from_is_err_and c.from_residual-in_err-pin.result c.from_residual-in_err-pin.ensures.1 in
    let e = c.in_err-pin.ensures in
    let h = held (layers c.self.inside) c.in_ok-tenant.tenant c.args.repo.now c.args.digest.now c.self.invariant (sym c.in_ok-tenant.ensures.known) c.in-Some.slot (rw c.table-slots.ensures at (sym c.in-Some.ensures)) in
    rw (p.1, ← c.self.view_is) (λ _. finds_no_room c.self.inside.slots c.lend.new.self c.in-Some.slot c.args.digest.now h.0 h.1 h.2 c.share.ensures.one_each e.1)

pub returns-in_err-pin-clause-others : goal.returns-in_err-pin-clause-others
returns-in_err-pin-clause-others c =
    let p = err_from_is_err_and c.from_residual-in_err-pin.result c.from_residual-in_err-pin.ensures.1 in
    rw p.1 (λ other. absurd (other (p.2 ∙ c.in_err-pin.ensures.0)))

pub returns-clause-blob : goal.returns-clause-blob
returns-clause-blob c = shared_digest (layers c.self.inside) c.in_ok-tenant.tenant c.args.repo.now c.args.digest.now c.self.invariant (sym c.in_ok-tenant.ensures.known) c.in-Some.slot (rw c.table-slots.ensures at (sym c.in-Some.ensures)) c.in_ok-blob.blob.value c.in_ok-blob.ensures.value

pub returns-in_err-pin-clause-refused : goal.returns-in_err-pin-clause-refused
returns-in_err-pin-clause-refused c =
    let p = err_from_is_err_and c.from_residual-in_err-pin.result c.from_residual-in_err-pin.ensures.1 in
    let e = c.in_err-pin.ensures.1 in
    rw (p.1, ← c.self.view_is) ((EachSlot-still c.self.inside.slots c.lend.new.self c.in-Some.slot e.weight e.within e.after).1)
