use Rattle.std.proofs.Common.{sym, subst}
use Rattle.store_model.specs.Histories.{FinishCall, IsStep}
use Rattle.locked_book.specs.History.{state_of}
use Rattle.locked_book.proofs.Counted.{finishes}
use Rattle.locked_book.proofs.kept.Kept.finish.Goals as goal

pub add_recorded-requires-clause-allows : goal.add_recorded-requires-clause-allows
add_recorded-requires-clause-allows g c =
    let step = subst (λ h. IsStep (state_of (record { book = c.self.inside.book; counts = c.self.inside.counters })) (FinishCall h c.args.digest.now c.close-result.result) (state_of (record { book = c.close-result.new.book; counts = c.close-result.new.counters }))) (sym c.of-given.ensures) (finishes (record { book = c.self.inside.book; counts = c.self.inside.counters }) (record { book = c.close-result.new.book; counts = c.close-result.new.counters }) c.args.hand c.args.digest.now c.close-result.result c.close-result.ensures.does) in
    (state_of (record { book = c.self.inside.book; counts = c.self.inside.counters }), state_of (record { book = c.close-result.new.book; counts = c.close-result.new.counters }), c.self.invariant.1, step)

pub invariant_of-self : goal.invariant_of-self
invariant_of-self g c =
    let step = subst (λ h. IsStep (state_of (record { book = c.self.inside.book; counts = c.self.inside.counters })) (FinishCall h c.args.digest.now c.close-result.result) (state_of (record { book = c.close-result.new.book; counts = c.close-result.new.counters }))) (sym c.of-given.ensures) (finishes (record { book = c.self.inside.book; counts = c.self.inside.counters }) (record { book = c.close-result.new.book; counts = c.close-result.new.counters }) c.args.hand c.args.digest.now c.close-result.result c.close-result.ensures.does) in
    (c.close-result.ensures.kept, c.add_recorded.ensures.leads (state_of (record { book = c.self.inside.book; counts = c.self.inside.counters })) (state_of (record { book = c.close-result.new.book; counts = c.close-result.new.counters })) c.self.invariant.1 step)
