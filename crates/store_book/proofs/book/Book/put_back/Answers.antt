use Rattle.std.proofs.Common.{◌≡◌, sym, ◌∙◌}
use Rattle.store_model.proofs.Commands.Hands.{spare, spare_filled, spare_unfilled}
use Rattle.store_book.proofs.Refine.PutBack.{put_back_charged, put_back_tenant, IsBook-put_back}
use Rattle.store_book.specs.BookFields.{layers}
use Rattle.store_book.proofs.book.Book.put_back.Goals.{then-filled, else-filled}
use Rattle.store_book.proofs.book.Book.put_back.Goals as goal

pub discharge-requires-clause-there : goal.discharge-requires-clause-there
discharge-requires-clause-there c = rw c.tenant-tenant.ensures (put_back_tenant (layers c.self.inside) c.args.hand c.self.invariant (record { pieces = c.reserved-reserved.ensures.pieces; last = c.reserved-reserved.ensures.last }) c.in_ok-after.after c.put_back.new.self c.in_ok-after.ensures)

pub discharge-requires-clause-charged : goal.discharge-requires-clause-charged
discharge-requires-clause-charged c =
    let spare_is : c.if-filled.spare ≡ spare c.args.hand = elim c.if-filled.branch [
      | then-filled w ↦ w.spare-is ∙ sym (spare_filled c.args.hand (sym c.filled.ensures ∙ w.if-filled.true))
      | else-filled w ↦ w.spare-is ∙ c.reserved-reserved.ensures.value ∙ sym (spare_unfilled c.args.hand (sym c.filled.ensures ∙ w.if-filled.false))
    ] in
    rw (spare_is, c.tenant-tenant.ensures) (put_back_charged (layers c.self.inside) c.args.hand c.self.invariant (record { pieces = c.reserved-reserved.ensures.pieces; last = c.reserved-reserved.ensures.last }) c.in_ok-after.after c.put_back.new.self c.in_ok-after.ensures)

pub invariant_of-self-2 : goal.invariant_of-self-2
invariant_of-self-2 c =
    let spare_is : c.if-filled.spare ≡ spare c.args.hand = elim c.if-filled.branch [
      | then-filled w ↦ w.spare-is ∙ sym (spare_filled c.args.hand (sym c.filled.ensures ∙ w.if-filled.true))
      | else-filled w ↦ w.spare-is ∙ c.reserved-reserved.ensures.value ∙ sym (spare_unfilled c.args.hand (sym c.filled.ensures ∙ w.if-filled.false))
    ] in
    IsBook-put_back (layers c.self.inside) c.args.hand c.self.invariant (record { pieces = c.reserved-reserved.ensures.pieces; last = c.reserved-reserved.ensures.last }) c.in_ok-after.after c.put_back.new.self c.discharge.new.self c.in_ok-after.ensures (rw (spare_is, c.tenant-tenant.ensures) at c.discharge.ensures)
