use Rattle.std.proofs.Common.{sym, subst}
use Rattle.store_model.specs.Histories.{IsStep, PutBackCall}
use Rattle.locked_book.specs.History.{state_of}
use Rattle.locked_book.proofs.Counted.{gives_up}
use Rattle.locked_book.proofs.kept.Kept.cancel.Goals as goal

pub add_unrecorded-requires-clause-allows : goal.add_unrecorded-requires-clause-allows
add_unrecorded-requires-clause-allows g c =
    let step = subst (λ h. IsStep (state_of (record { book = c.self.inside.book; counts = c.self.inside.counters })) (PutBackCall h c.check_in_unchanged-result.result) (state_of (record { book = c.check_in_unchanged-result.new.book; counts = c.self.inside.counters }))) (sym c.of-given.ensures) (gives_up (record { book = c.self.inside.book; counts = c.self.inside.counters }) (record { book = c.check_in_unchanged-result.new.book; counts = c.self.inside.counters }) c.args.hand c.check_in_unchanged-result.result c.requires.unfilled c.check_in_unchanged-result.ensures.does) in
    (state_of (record { book = c.self.inside.book; counts = c.self.inside.counters }), state_of (record { book = c.check_in_unchanged-result.new.book; counts = c.self.inside.counters }), c.self.invariant.1, step)

pub invariant_of-self : goal.invariant_of-self
invariant_of-self g c =
    let step = subst (λ h. IsStep (state_of (record { book = c.self.inside.book; counts = c.self.inside.counters })) (PutBackCall h c.check_in_unchanged-result.result) (state_of (record { book = c.check_in_unchanged-result.new.book; counts = c.self.inside.counters }))) (sym c.of-given.ensures) (gives_up (record { book = c.self.inside.book; counts = c.self.inside.counters }) (record { book = c.check_in_unchanged-result.new.book; counts = c.self.inside.counters }) c.args.hand c.check_in_unchanged-result.result c.requires.unfilled c.check_in_unchanged-result.ensures.does) in
    (c.check_in_unchanged-result.ensures.kept, c.add_unrecorded.ensures.leads (state_of (record { book = c.self.inside.book; counts = c.self.inside.counters })) (state_of (record { book = c.check_in_unchanged-result.new.book; counts = c.self.inside.counters })) c.self.invariant.1 step)
