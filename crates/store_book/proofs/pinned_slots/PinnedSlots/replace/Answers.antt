use Rattle.std.proofs.Common.{refl}
use Rattle.slot_table.specs.Slots.{on_stored_blob, with_content}
use Rattle.store_book.proofs.Slots.Pinned.{with_content-row, IsPinned-kept, one_each-kept}
use Rattle.store_book.proofs.pinned_slots.PinnedSlots.replace.Goals as goal

pub invariant_of-self : goal.invariant_of-self
invariant_of-self c =
    let put = with_content c.args.blob.1 in
    rw c.in-Ok.ensures.ok (IsPinned-kept put (with_content-row c.args.blob.1) (λ h. refl) c.self.inside.slots c.args.slot c.self.inside.keeper.rows c.self.inside.keeper.bounds c.self.invariant.0, one_each-kept c.self.inside.slots c.self.inside.keeper.looks c.args.slot (on_stored_blob put) c.self.invariant.1)
