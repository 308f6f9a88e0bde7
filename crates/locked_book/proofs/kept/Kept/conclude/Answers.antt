use Rattle.std.proofs.Common.{refl}
use Rattle.locked_book.proofs.Keeping.{settled_kept}
use Rattle.locked_book.proofs.Wholes.{still_leads}
use Rattle.locked_book.proofs.kept.Kept.conclude.Goals as goal

pub invariant_of-self : goal.invariant_of-self
invariant_of-self g c = (
  settled_kept g.S.Naming.names c.self.inside.book c.self.inside.counters c.settle_all.new.counters c.self.inside.out.hands c.self.inside.out.reserve c.settle_all.ensures.totals c.self.invariant.0,
  still_leads g.S.Naming.names.opening c.self.inside.history c.settle_all.new.history (record { book = c.self.inside.book; counts = c.self.inside.counters }) (record { book = c.self.inside.book; counts = c.settle_all.new.counters }) c.settle_all.ensures.history (refl, c.settle_all.ensures.totals) c.self.invariant.1,
)

pub returns-clause-whole : goal.returns-clause-whole
returns-clause-whole g c = λ whole. record {
  order = c.settle_all.new.history;
  leads = still_leads g.S.Naming.names.opening c.self.inside.history c.settle_all.new.history (record { book = c.self.inside.book; counts = c.self.inside.counters }) (record { book = c.self.inside.book; counts = c.settle_all.new.counters }) c.settle_all.ensures.history (refl, c.settle_all.ensures.totals) c.self.invariant.1;
  each = c.settle_all.ensures.whole whole;
}
