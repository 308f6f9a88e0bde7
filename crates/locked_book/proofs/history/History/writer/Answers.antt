use Rattle.std.proofs.Common.{◌≡◌, IfSome, subst, sym}
use Rattle.store_model.specs.Histories.{IsLegal}
use Rattle.locked_book.specs.History.{steps_of}
use Rattle.locked_book.proofs.history.History.writer.Goals as goal

pub invariant_of-result : goal.invariant_of-result
invariant_of-result g c =
    let opening = g.S.Naming.names.opening in
    let made = c.writer-writer.ensures.writer in (
      c.reveal_invariant.ensures,
      subst (λ w. IsLegal opening (steps_of w.seen)) (sym made) (subst (λ es. IsLegal opening (steps_of es)) (sym c.self.view_is) c.requires),
      subst (λ w. IfSome c.self.inside.writers (λ n. n ≡ w.number)) (sym made) c.self.invariant.0,
    )
