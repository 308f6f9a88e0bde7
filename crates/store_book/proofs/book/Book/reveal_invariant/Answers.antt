use Rattle.std.proofs.Common.{subst}
use Rattle.store_book.specs.BookState.{BookState}
use Rattle.store_model.specs.Invariant.{Sound}
use Rattle.store_book.proofs.book.Book.reveal_invariant.Goals as goal

pub returns : goal.returns
returns c = subst (λ (s : BookState). Sound s.catalog) c.self.view_is c.self.invariant.sound
