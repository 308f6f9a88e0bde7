use Rattle.std.proofs.Common.{Err, List, OnOk, refl, ap, subst, sym, ◌∙◌}
use Rattle.std.proofs.lemmas.Result.{err_from_is_err_and}
use Rattle.store_book.specs.BookState.{SlotView}
use Rattle.store_book.specs.SlotSteps.{EachSlot, KeepsGeneration, MayPlace}
use Rattle.store_model.proofs.Commands.ByHand.{close_does, close_refused, undone}
use Rattle.store_book.proofs.book.Book.close.Goals as goal

pub returns-in-Ok-clause-does : goal.returns-in-Ok-clause-does
returns-in-Ok-clause-does c = close_does c.args.self.now.catalog c.take.new.self.catalog c.args.repo.now c.args.number c.args.range c.args.bytes.now c.in_ok-hand.hand c.in_ok-hand.ensures.does c.finish.result c.finish.new.self.catalog c.in-Ok.hand c.args.digest.now c.in-Ok.ensures.ok c.finish.ensures.does

pub returns-in-Err-clause-does : goal.returns-in-Err-clause-does
returns-in-Err-clause-does c = (
  λ other. absurd (other refl),
  undone c.args.self.now.catalog c.take.new.self.catalog c.args.repo.now c.args.number c.args.range c.args.bytes.now c.in_ok-hand.hand c.in_ok-hand.ensures.does c.put_back.result c.put_back.new.self.catalog c.in-Err.hand c.in-Err.ensures.err c.put_back.ensures.does,
)

pub returns-in-Ok-clause-slots : goal.returns-in-Ok-clause-slots
returns-in-Ok-clause-slots c = (
  c.finish.ensures.slots.0 ∙ c.in_ok-hand.ensures.slots.0,
  subst (λ (xs : List SlotView). EachSlot KeepsGeneration xs c.finish.new.self.slots) c.in_ok-hand.ensures.slots.1 c.finish.ensures.slots.1,
)

pub returns-in-Ok-clause-housed : goal.returns-in-Ok-clause-housed
returns-in-Ok-clause-housed c = subst (λ (xs : List SlotView). OnOk c.finish.result (EachSlot (MayPlace c.args.digest.now) xs c.finish.new.self.slots)) c.in_ok-hand.ensures.slots.1 c.finish.ensures.housed

pub returns-in_err-hand-clause-does : goal.returns-in_err-hand-clause-does
returns-in_err-hand-clause-does c =
    let p = err_from_is_err_and c.from_residual.result c.from_residual.ensures.1 in
    let refused = c.in_err-hand.ensures.does in
    rw p.1 (λ _. close_refused c.args.self.now.catalog c.args.repo.now c.args.number c.args.range c.args.bytes.now p.0 (refused.0 ∙ ap Err (sym p.2)) c.args.digest.now, refused.1)
