use Rattle.std.proofs.Common.{sym, subst}
use Rattle.locked_book.specs.Counting.{IsKeptState}
use Rattle.locked_book.specs.History.{LogLeadsTo, state_of}
use Rattle.locked_book.specs.Totals.{Counts}
use Rattle.locked_book.proofs.kept.Kept.issue.Goals as goal

pub writer-writer-requires : goal.writer-writer-requires
writer-writer-requires g c = (state_of (record { book = c.self.inside.book; counts = c.self.inside.counters }), c.self.invariant.1)

pub invariant_of-self : goal.invariant_of-self
invariant_of-self g c = (
  subst (λ (k : Counts). IsKeptState g.S.Naming.names c.self.inside.book k c.self.inside.out.hands c.self.inside.out.reserve) (sym c.issue-tally.ensures.counts) c.self.invariant.0,
  subst (λ h. LogLeadsTo g.S.Naming.names.opening h (state_of (record { book = c.self.inside.book; counts = c.issue-tally.new.self }))) (sym c.writer-writer.ensures.same)
      (subst (λ (k : Counts). LogLeadsTo g.S.Naming.names.opening c.self.inside.history (state_of (record { book = c.self.inside.book; counts = k }))) (sym c.issue-tally.ensures.counts) c.self.invariant.1),
)
