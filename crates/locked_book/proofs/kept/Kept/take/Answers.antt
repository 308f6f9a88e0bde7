use Rattle.locked_book.specs.History.{state_of}
use Rattle.locked_book.proofs.Counted.{takes}
use Rattle.locked_book.proofs.TenantNames.{take_names}
use Rattle.locked_book.proofs.kept.Kept.take.Goals as goal

pub add_unrecorded-requires-clause-allows : goal.add_unrecorded-requires-clause-allows
add_unrecorded-requires-clause-allows g c = (state_of (record { book = c.self.inside.book; counts = c.self.inside.counters }), state_of (record { book = c.check_out-result.new.book; counts = c.self.inside.counters }), c.self.invariant.1, takes (record { book = c.self.inside.book; counts = c.self.inside.counters }) (record { book = c.check_out-result.new.book; counts = c.self.inside.counters }) c.args.repo.now c.args.number c.args.range c.args.len c.check_out-result.result c.check_out-result.ensures.does)

pub invariant_of-self : goal.invariant_of-self
invariant_of-self g c = (c.check_out-result.ensures.kept, c.add_unrecorded.ensures.leads (state_of (record { book = c.self.inside.book; counts = c.self.inside.counters })) (state_of (record { book = c.check_out-result.new.book; counts = c.self.inside.counters })) c.self.invariant.1 (takes (record { book = c.self.inside.book; counts = c.self.inside.counters }) (record { book = c.check_out-result.new.book; counts = c.self.inside.counters }) c.args.repo.now c.args.number c.args.range c.args.len c.check_out-result.result c.check_out-result.ensures.does))

pub returns-clause-names : goal.returns-clause-names
returns-clause-names g c =
    take_names (record { book = c.self.inside.book; counts = c.self.inside.counters }) (record { book = c.check_out-result.new.book; counts = c.self.inside.counters }) c.args.repo.now c.args.number c.args.range c.args.len c.check_out-result.result
    (takes (record { book = c.self.inside.book; counts = c.self.inside.counters }) (record { book = c.check_out-result.new.book; counts = c.self.inside.counters }) c.args.repo.now c.args.number c.args.range c.args.len c.check_out-result.result c.check_out-result.ensures.does)
