use Rattle.std.proofs.Common.{length, refl, sym, ◌∙◌, subst, arith}
use Rattle.store_book.specs.SweepParts.{IsBoundedPart, end_of, is_reached}
use Rattle.locked_book.specs.History.{state_of}
use Rattle.locked_book.proofs.Counted.{cleans_part}
use Rattle.locked_book.proofs.Keeping.{swept_kept}
use Rattle.locked_book.proofs.kept.Kept.sweep_part.Goals as goal

pub add_unrecorded-requires-clause-allows : goal.add_unrecorded-requires-clause-allows
add_unrecorded-requires-clause-allows g c =
    let reached = is_reached c.args.from (end_of (length c.self.inside.book.slots) c.sweep_part-part.result) c.self.inside.book.slots in
    (state_of (record { book = c.self.inside.book; counts = c.self.inside.counters }), state_of (record { book = c.sweep_part-part.new.self; counts = c.self.inside.counters }), c.self.invariant.1, cleans_part (record { book = c.self.inside.book; counts = c.self.inside.counters }) (record { book = c.sweep_part-part.new.self; counts = c.self.inside.counters }) c.sweep_part-part.result.swept (reached, c.sweep_part-part.ensures.sweeps) refl)

pub invariant_of-self : goal.invariant_of-self
invariant_of-self g c =
    let reached = is_reached c.args.from (end_of (length c.self.inside.book.slots) c.sweep_part-part.result) c.self.inside.book.slots in (
      swept_kept reached g.S.Naming.names c.self.inside.book c.sweep_part-part.new.self c.self.inside.counters c.self.inside.out.hands c.self.inside.out.reserve c.sweep_part-part.result.swept c.self.invariant.0 c.sweep_part-part.ensures.sweeps c.sweep_part-part.ensures.slots.0 c.sweep_part-part.ensures.slots.1.0,
      c.add_unrecorded.ensures.leads (state_of (record { book = c.self.inside.book; counts = c.self.inside.counters })) (state_of (record { book = c.sweep_part-part.new.self; counts = c.self.inside.counters })) c.self.invariant.1 (cleans_part (record { book = c.self.inside.book; counts = c.self.inside.counters }) (record { book = c.sweep_part-part.new.self; counts = c.self.inside.counters }) c.sweep_part-part.result.swept (reached, c.sweep_part-part.ensures.sweeps) refl),
    )
