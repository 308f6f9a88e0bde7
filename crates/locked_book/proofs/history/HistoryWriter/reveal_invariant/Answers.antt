use Rattle.std.proofs.Common.{subst}
use Rattle.locked_book.specs.History.{IsPart}
use Rattle.locked_book.proofs.history.HistoryWriter.reveal_invariant.Goals as goal

pub returns : goal.returns
returns g c = subst (IsPart g.S.Naming.names.opening) c.self.view_is (record { legal = c.self.invariant.1; own = c.self.invariant.0 })
