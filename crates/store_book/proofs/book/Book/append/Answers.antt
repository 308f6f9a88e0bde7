use Rattle.std.proofs.Common.{Err, refl, ap, sym, ◌∙◌}
use Rattle.std.proofs.lemmas.Result.{err_from_is_err_and}
use Rattle.store_model.proofs.Commands.ByHand.{append_does, append_refused, undone}
use Rattle.store_book.proofs.book.Book.append.Goals as goal

pub returns-in-Ok-clause-does : goal.returns-in-Ok-clause-does
returns-in-Ok-clause-does c = append_does c.args.self.now.catalog c.take.new.self.catalog c.args.repo.now c.args.number c.args.range c.args.bytes.now c.in_ok-hand.hand c.in_ok-hand.ensures.does c.put_back.result c.put_back.new.self.catalog c.in-Ok.hand c.in-Ok.ensures.ok c.put_back.ensures.does

pub returns-in-Err-clause-does : goal.returns-in-Err-clause-does
returns-in-Err-clause-does c = (
  λ other. absurd (other refl),
  undone c.args.self.now.catalog c.take.new.self.catalog c.args.repo.now c.args.number c.args.range c.args.bytes.now c.in_ok-hand.hand c.in_ok-hand.ensures.does c.put_back-in-Err.result c.put_back-in-Err.new.self.catalog c.in-Err.hand c.in-Err.ensures.err c.put_back-in-Err.ensures.does,
)

pub returns-in_err-hand-clause-does : goal.returns-in_err-hand-clause-does
returns-in_err-hand-clause-does c =
    let p = err_from_is_err_and c.from_residual.result c.from_residual.ensures.1 in
    let refused = c.in_err-hand.ensures.does in
    rw p.1 (λ _. append_refused c.args.self.now.catalog c.args.repo.now c.args.number c.args.range c.args.bytes.now p.0 (refused.0 ∙ ap Err (sym p.2)), refused.1)
