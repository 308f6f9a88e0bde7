use Rattle.store_book.proofs.Refine.Look.{EachSlot-still, HasPin-verified}
use Rattle.store_book.specs.BookFields.{layers}
use Rattle.store_book.proofs.book.Book.verify.Goals as goal

pub returns-clause-kept : goal.returns-clause-kept
returns-clause-kept c = rw (← c.self.view_is) (HasPin-verified (layers c.self.inside) c.self.inside.slots c.verify.new.self c.args.pin.hold c.self.invariant c.verify.ensures.kept)

pub returns-clause-slots : goal.returns-clause-slots
returns-clause-slots c = let e = c.verify.ensures.kept in rw (← c.self.view_is) (EachSlot-still c.self.inside.slots c.verify.new.self c.args.pin.hold.slot e.weight e.within e.after)
