use Rattle.std.proofs.Common.{ap, ◌∙◌}
use Rattle.slot_table.specs.Slots.{fill, slot_of}
use Rattle.store_book.specs.Pinned.{Pinned}
use Rattle.store_book.proofs.Slots.Pinned.{new_digest, IsPinned-placed, one_each-looked}
use Rattle.store_book.proofs.pinned_slots.PinnedSlots.place.Goals as goal

pub give-requires-clause-new : goal.give-requires-clause-new
give-requires-clause-new c = rw c.digest-digest.ensures.value (new_digest c.self.inside.slots c.self.inside.keeper.rows c.self.inside.keeper.bounds c.self.invariant.0 c.args.blob.0 (ap (λ (p : Pinned). slot_of p.slots c.args.blob.0) c.self.view_is ∙ c.requires.absent))

pub invariant_of-self-2 : goal.invariant_of-self-2
invariant_of-self-2 c = rw (c.in_ok-slot.ensures.ok, c.give.ensures, c.digest-digest.ensures.value) (IsPinned-placed c.self.inside.slots c.self.inside.keeper.rows c.self.inside.keeper.bounds c.self.invariant.0 c.in_ok-slot.slot c.args.blob c.in_ok-slot.ensures.free, one_each-looked c.self.inside.slots c.self.inside.keeper.looks c.in_ok-slot.slot (fill c.args.blob) c.self.invariant.1)
