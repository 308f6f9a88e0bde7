use Rattle.std.proofs.Common.{refl}
use Rattle.slot_table.specs.Slots.{on_stored_blob, link_down}
use Rattle.store_book.proofs.Slots.Pinned.{link_down-row, IsPinned-kept, one_each-kept}
use Rattle.store_book.proofs.pinned_slots.PinnedSlots.link_down.Goals as goal

pub invariant_of-self : goal.invariant_of-self
invariant_of-self c = rw c.link_down.ensures (IsPinned-kept link_down link_down-row (λ h. refl) c.self.inside.slots c.args.slot c.self.inside.keeper.rows c.self.inside.keeper.bounds c.self.invariant.0, one_each-kept c.self.inside.slots c.self.inside.keeper.looks c.args.slot (on_stored_blob link_down) c.self.invariant.1)
