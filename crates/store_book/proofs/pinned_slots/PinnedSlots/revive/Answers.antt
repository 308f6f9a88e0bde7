use Rattle.std.proofs.Common.{◌≡◌, ◌≢◌, false, rules, sym}
use Rattle.slot_table.specs.declared.phase.Phase.TheVariants as phase
use Rattle.slot_table.specs.Slots.{mark, on_stored_blob, phase_at}
use Rattle.store_book.proofs.Slots.Pinned.{IsPinned-with_revived_slot, one_each-kept, with_revived_slot-same}
use Rattle.store_book.proofs.pinned_slots.PinnedSlots.revive.Goals as goal

pub invariant_of-self : goal.invariant_of-self
invariant_of-self c =
    let is : phase_at c.self.inside.slots c.args.slot ≡ phase.Condemned = search rules in
    rw (c.revive.ensures, c.revive-then-eq.ensures) (IsPinned-with_revived_slot c.self.inside.slots c.self.inside.keeper.rows c.self.inside.keeper.bounds c.self.invariant.0 c.args.slot is, one_each-kept c.self.inside.slots c.self.inside.keeper.looks c.args.slot (on_stored_blob (mark false)) c.self.invariant.1)

pub returns-else-eq : goal.returns-else-eq
returns-else-eq c =
    let is : phase_at c.self.inside.slots c.args.slot ≢ phase.Condemned = search rules in
    rw (← c.self.view_is) (λ i. record { table = c.self.inside.keeper.table; slots = sym (with_revived_slot-same c.self.inside.slots c.args.slot is) i; bounds = c.self.inside.keeper.bounds; looks = c.self.inside.keeper.looks })
