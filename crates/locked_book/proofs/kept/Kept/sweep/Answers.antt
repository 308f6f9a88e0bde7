use Rattle.std.proofs.Common.{true, refl, sym, subst}
use Rattle.locked_book.specs.History.{LogLeadsTo, state_of}
use Rattle.locked_book.proofs.Counted.{cleans}
use Rattle.locked_book.proofs.Keeping.{swept_kept}
use Rattle.locked_book.proofs.kept.Kept.sweep.Goals as goal

pub writer-nobody-requires : goal.writer-nobody-requires
writer-nobody-requires g c = (state_of (record { book = c.self.inside.book; counts = c.self.inside.counters }), c.self.invariant.1)

pub add_unrecorded-requires-clause-allows : goal.add_unrecorded-requires-clause-allows
add_unrecorded-requires-clause-allows g c =
    let run = subst (λ h. LogLeadsTo g.S.Naming.names.opening h (state_of (record { book = c.self.inside.book; counts = c.self.inside.counters }))) (sym c.writer-nobody.ensures.same) c.self.invariant.1 in
    (state_of (record { book = c.self.inside.book; counts = c.self.inside.counters }), state_of (record { book = c.sweep-result.new.self; counts = c.self.inside.counters }), run, cleans (record { book = c.self.inside.book; counts = c.self.inside.counters }) (record { book = c.sweep-result.new.self; counts = c.self.inside.counters }) c.sweep-result.result c.sweep-result.ensures.sweeps refl)

pub invariant_of-self : goal.invariant_of-self
invariant_of-self g c =
    let run = subst (λ h. LogLeadsTo g.S.Naming.names.opening h (state_of (record { book = c.self.inside.book; counts = c.self.inside.counters }))) (sym c.writer-nobody.ensures.same) c.self.invariant.1 in
    (swept_kept (λ _. true) g.S.Naming.names c.self.inside.book c.sweep-result.new.self c.self.inside.counters c.self.inside.out.hands c.self.inside.out.reserve c.sweep-result.result c.self.invariant.0 c.sweep-result.ensures.sweeps c.sweep-result.ensures.slots.0 c.sweep-result.ensures.slots.1.0, c.add_unrecorded.ensures.leads (state_of (record { book = c.self.inside.book; counts = c.self.inside.counters })) (state_of (record { book = c.sweep-result.new.self; counts = c.self.inside.counters })) run (cleans (record { book = c.self.inside.book; counts = c.self.inside.counters }) (record { book = c.sweep-result.new.self; counts = c.self.inside.counters }) c.sweep-result.result c.sweep-result.ensures.sweeps refl))
