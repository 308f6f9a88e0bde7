use Rattle.std.proofs.Common.{true, refl}
use Rattle.locked_book.specs.History.{state_of}
use Rattle.locked_book.proofs.Counted.{cleans}
use Rattle.locked_book.proofs.Keeping.{swept_kept}
use Rattle.locked_book.proofs.kept.Kept.sweep_at.Goals as goal

pub add_unrecorded-requires-clause-allows : goal.add_unrecorded-requires-clause-allows
add_unrecorded-requires-clause-allows g c = (state_of (record { book = c.self.inside.book; counts = c.self.inside.counters }), state_of (record { book = c.sweep-result.new.self; counts = c.self.inside.counters }), c.self.invariant.1, cleans (record { book = c.self.inside.book; counts = c.self.inside.counters }) (record { book = c.sweep-result.new.self; counts = c.self.inside.counters }) c.sweep-result.result c.sweep-result.ensures.sweeps refl)

pub invariant_of-self : goal.invariant_of-self
invariant_of-self g c = (swept_kept (λ _. true) g.S.Naming.names c.self.inside.book c.sweep-result.new.self c.self.inside.counters c.self.inside.out.hands c.self.inside.out.reserve c.sweep-result.result c.self.invariant.0 c.sweep-result.ensures.sweeps c.sweep-result.ensures.slots.0 c.sweep-result.ensures.slots.1.0, c.add_unrecorded.ensures.leads (state_of (record { book = c.self.inside.book; counts = c.self.inside.counters })) (state_of (record { book = c.sweep-result.new.self; counts = c.self.inside.counters })) c.self.invariant.1 (cleans (record { book = c.self.inside.book; counts = c.self.inside.counters }) (record { book = c.sweep-result.new.self; counts = c.self.inside.counters }) c.sweep-result.result c.sweep-result.ensures.sweeps refl))
