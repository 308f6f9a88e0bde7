use Rattle.std.proofs.Common.{sym, subst}
use Rattle.store_model.specs.Histories.{IsStep, PutBackCall}
use Rattle.locked_book.specs.History.{state_of}
use Rattle.locked_book.proofs.Counted.{comes_back}
use Rattle.locked_book.proofs.kept.Kept.put_back.Goals as goal

pub add_recorded-requires-clause-allows : goal.add_recorded-requires-clause-allows
add_recorded-requires-clause-allows g c =
    let step = subst (λ h. IsStep (state_of (record { book = c.self.inside.book; counts = c.self.inside.counters })) (PutBackCall h c.check_in-result.result) (state_of (record { book = c.check_in-result.new.book; counts = c.check_in-result.new.counters }))) (sym c.of-given.ensures) (comes_back (record { book = c.self.inside.book; counts = c.self.inside.counters }) (record { book = c.check_in-result.new.book; counts = c.check_in-result.new.counters }) c.args.hand c.check_in-result.result c.requires.filled c.check_in-result.ensures.does) in
    (state_of (record { book = c.self.inside.book; counts = c.self.inside.counters }), state_of (record { book = c.check_in-result.new.book; counts = c.check_in-result.new.counters }), c.self.invariant.1, step)

pub invariant_of-self : goal.invariant_of-self
invariant_of-self g c =
    let step = subst (λ h. IsStep (state_of (record { book = c.self.inside.book; counts = c.self.inside.counters })) (PutBackCall h c.check_in-result.result) (state_of (record { book = c.check_in-result.new.book; counts = c.check_in-result.new.counters }))) (sym c.of-given.ensures) (comes_back (record { book = c.self.inside.book; counts = c.self.inside.counters }) (record { book = c.check_in-result.new.book; counts = c.check_in-result.new.counters }) c.args.hand c.check_in-result.result c.requires.filled c.check_in-result.ensures.does) in
    (c.check_in-result.ensures.kept, c.add_recorded.ensures.leads (state_of (record { book = c.self.inside.book; counts = c.self.inside.counters })) (state_of (record { book = c.check_in-result.new.book; counts = c.check_in-result.new.counters })) c.self.invariant.1 step)
