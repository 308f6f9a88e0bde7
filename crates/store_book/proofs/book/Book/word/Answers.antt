use Rattle.std.proofs.Common.{ap, length, ◌<◌, ◌∙◌, subst, sym}
use Rattle.store_book.specs.BookState.{BookState}
use Rattle.store_book.specs.Pinned.{slot_views}
use Rattle.store_book.proofs.Slots.Pinned.{length-slot_views}
use Rattle.store_book.proofs.Slots.Shown.{length-with_looks}
use Rattle.store_book.proofs.Refine.Look.{reads_word, EachSlot-still}
use Rattle.store_book.proofs.book.Book.word.Goals as goal

pub word-requires-clause-within : goal.word-requires-clause-within
word-requires-clause-within c = let long = length-with_looks c.self.inside.slots.looks (slot_views c.self.inside.slots.slots c.self.inside.slots.bounds) ∙ length-slot_views c.self.inside.slots.slots c.self.inside.slots.bounds in subst (λ n. c.args.slot < n) (ap (λ (s : BookState). length s.slots) (sym c.self.view_is) ∙ long) c.requires.within

pub returns-clause-word : goal.returns-clause-word
returns-clause-word c = rw (← c.self.view_is) (reads_word c.self.inside.slots c.word.new.self c.args.slot c.word.result (subst (λ n. c.args.slot < n) (ap (λ (s : BookState). length s.slots) (sym c.self.view_is)) c.requires.within) c.word.ensures.one_each c.word.ensures.read)

pub returns-clause-slots : goal.returns-clause-slots
returns-clause-slots c = let e = c.word.ensures.read in rw (← c.self.view_is) (EachSlot-still c.self.inside.slots c.word.new.self c.args.slot e.weight e.within e.after)
