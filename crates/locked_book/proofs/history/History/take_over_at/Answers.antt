use Rattle.std.proofs.Common.{subst, sym}
use Rattle.store_model.specs.Histories.{IsLegal}
use Rattle.locked_book.specs.History.{steps_of}
use Rattle.locked_book.proofs.history.History.take_over_at.Goals as goal

pub catch_up-requires : goal.catch_up-requires
catch_up-requires g c =
    let opening = g.S.Naming.names.opening in
    subst (λ es. IsLegal opening (steps_of es)) (sym c.take_over.ensures.history.0) (subst (λ es. IsLegal opening (steps_of es)) (sym c.self.view_is) c.requires.legal)
