use Rattle.std.proofs.Common.{◌≡◌, IfSome, subst, sym}
use Rattle.store_model.specs.Histories.{IsLegal}
use Rattle.locked_book.specs.History.{steps_of}
use Rattle.locked_book.proofs.history.History.publish.Goals as goal

pub invariant_of-writer : goal.invariant_of-writer
invariant_of-writer g c =
    let opening = g.S.Naming.names.opening in
    let w = c.writer.inside.writer in (
      c.reveal_invariant.ensures,
      subst (λ es. IsLegal opening (steps_of es)) (sym c.publish.ensures.sees) (subst (λ es. IsLegal opening (steps_of es)) (sym c.self.view_is) c.requires.legal),
      subst (λ n. IfSome c.writer.inside.number (λ m. m ≡ n)) (sym c.publish.ensures.waits.number) c.writer.invariant.2,
    )
