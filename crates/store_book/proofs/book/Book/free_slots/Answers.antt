use Rattle.std.proofs.Common.{ap, ◌∙◌}
use Rattle.slot_table.specs.Slots.{free_slots as free_count}
use Rattle.store_book.specs.BookFields.{layers}
use Rattle.store_book.proofs.Refine.Queries.{free_left, free_seen}
use Rattle.store_book.proofs.book.Book.free_slots.Goals as goal

pub returns-clause-seen : goal.returns-clause-seen
returns-clause-seen c = rw (← c.self.view_is) (c.free_count.ensures ∙ ap free_count c.table.ensures ∙ free_seen c.self.inside.slots)

pub returns-clause-left : goal.returns-clause-left
returns-clause-left c = rw (← c.self.view_is) (c.free_count.ensures ∙ ap free_count c.table.ensures ∙ free_left (layers c.self.inside) c.self.invariant)
