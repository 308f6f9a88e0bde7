use Rattle.std.proofs.Common.{◌≡◌, IfSome, ap, subst, sym}
use Rattle.store_model.specs.Histories.{IsLegal}
use Rattle.locked_book.specs.History.{steps_of}
use Rattle.locked_book.proofs.SeenHistories.{legal_if_confirmed}
use Rattle.locked_book.proofs.history.History.confirm.Goals as goal

pub invariant_of-writer : goal.invariant_of-writer
invariant_of-writer g c =
    let opening = g.S.Naming.names.opening in
    let w = c.writer.inside.writer in (
      c.reveal_invariant.ensures,
      legal_if_confirmed opening c.self.inside.backlog.history w.seen c.confirm-done.new.writer.seen (subst (λ es. IsLegal opening (steps_of es)) (sym c.self.view_is) c.requires) c.writer.invariant.1 c.confirm-done.result c.confirm-done.ensures.sees (λ no. ap (λ t. t.seen) (c.confirm-done.ensures.kept no)),
      subst (λ n. IfSome c.writer.inside.number (λ m. m ≡ n)) (sym c.confirm-done.ensures.waits.number) c.writer.invariant.2,
    )
