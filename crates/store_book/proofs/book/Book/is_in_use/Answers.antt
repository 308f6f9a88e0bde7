use Rattle.std.proofs.Common.{refl}
use Rattle.store_book.specs.BookFields.{layers}
use Rattle.store_book.proofs.Refine.Repos.{in_use_is}
use Rattle.store_book.proofs.book.Book.is_in_use.Goals as goal

pub returns-then-has_contents : goal.returns-then-has_contents
returns-then-has_contents c =
    let is = in_use_is (layers c.self.inside) c.args.owner c.args.repo.now c.self.invariant (rw (← c.self.view_is) at c.requires) in
    rw (← c.self.view_is, is, ← c.has_contents.ensures, c.if-has_contents.true) refl

pub returns-else-has_contents : goal.returns-else-has_contents
returns-else-has_contents c =
    let is = in_use_is (layers c.self.inside) c.args.owner c.args.repo.now c.self.invariant (rw (← c.self.view_is) at c.requires) in
    rw (← c.self.view_is, is, ← c.has_contents.ensures, ← c.has_sessions.ensures, c.if-has_contents.false) refl
