use Rattle.std.proofs.Common.{◌+◌, ◌≡◌}
use Rattle.store_book.specs.SweepParts.{visited_count}
use Rattle.store_book.proofs.Slots.Swept.{IsPartly}
use Rattle.store_book.proofs.sweep.sweep_slots.Given as goal

abbrev pub invariant-orphans : goal.invariant-orphans
invariant-orphans l = IsPartly l.fn.from l.fn.slots l.slots l.next l.swept × (visited_count l.swept + l.left ≡ l.fn.most)

abbrev pub decreases-orphans : goal.decreases-orphans
decreases-orphans l = l.left
