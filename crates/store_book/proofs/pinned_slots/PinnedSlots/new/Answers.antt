use Rattle.std.proofs.Common.{sym, ◌∙◌}
use Rattle.std.proofs.lemmas.List.{length-replicate}
use Rattle.slot_table.specs.Slots.{empty_slot}
use Rattle.store_book.proofs.Slots.Pinned.{IsPinned-opening, opened_slots}
use Rattle.store_book.proofs.pinned_slots.PinnedSlots.new.Goals as goal

pub invariant_of-result : goal.invariant_of-result
invariant_of-result c = rw (c.in_ok-pins.ensures.made.1, opened_slots c.args.slots c.args.first_generation c.in_ok-table.table c.in_ok-table.ensures.answers) (IsPinned-opening c.args.slots c.args.first_generation, length-replicate c.args.slots 0 ∙ sym (length-replicate c.args.slots (empty_slot c.args.first_generation)))
