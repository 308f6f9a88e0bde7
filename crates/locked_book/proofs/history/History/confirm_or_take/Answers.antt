use Rattle.std.proofs.Common.{◌≡◌, IfSome, ap, subst, sym}
use Rattle.store_model.specs.Histories.{IsLegal}
use Rattle.locked_book.specs.History.{steps_of}
use Rattle.locked_book.proofs.SeenHistories.{legal_unless_failed}
use Rattle.locked_book.proofs.history.History.confirm_or_take.Goals as goal

pub invariant_of-writer : goal.invariant_of-writer
invariant_of-writer g c =
    let opening = g.S.Naming.names.opening in
    let w = c.writer.inside.writer in (
      c.reveal_invariant.ensures,
      legal_unless_failed opening c.self.inside.backlog.history w.seen c.confirm_or_take-done.new.writer.seen (subst (λ es. IsLegal opening (steps_of es)) (sym c.self.view_is) c.requires.legal) c.writer.invariant.1 c.confirm_or_take-done.result c.confirm_or_take-done.ensures.sees c.confirm_or_take-done.ensures.err (λ kept. ap (λ t. t.seen) kept.0),
      subst (λ n. IfSome c.writer.inside.number (λ m. m ≡ n)) (sym c.confirm_or_take-done.ensures.waits.number) c.writer.invariant.2,
    )
