use Rattle.std.proofs.Common.{◌≡◌, length, refl, ap, arith}
use Rattle.std.specs.Option.{option_map_or}
use Rattle.store_book.proofs.Refine.Sweep.{IsBook-sweep, IsSweep-slots}
use Rattle.store_book.proofs.Slots.SweptSeen.{EachSlot-swept, HasLastGeneration-swept}
use Rattle.store_book.specs.BookFields.{layers}
use Rattle.store_book.specs.SweepParts.{end_of}
use Rattle.store_book.proofs.book.Book.sweep.Goals as goal

pub invariant_of-self : goal.invariant_of-self
invariant_of-self c = IsBook-sweep 0 (end_of (length c.self.inside.slots.slots) c.sweep_slots.result) (layers c.self.inside) c.self.inside.slots c.sweep_slots.new.slots c.sweep_slots.result.swept c.self.invariant c.sweep_slots.ensures.sweeps

pub returns : goal.returns
returns c =
    let part = c.sweep_slots.ensures.sweeps in
    let bounded = c.sweep_slots.ensures.bounded in
    let end = end_of (length c.self.inside.slots.slots) c.sweep_slots.result in
    let few = c.self.invariant.sound.slots.few in
    rw (← c.self.view_is) (record {
      sweeps = IsSweep-slots 0 end (layers c.self.inside) c.self.inside.slots c.sweep_slots.new.slots c.sweep_slots.result.swept c.self.invariant part refl
          (ap (λ o. option_map_or (λ k. k) o (length c.self.inside.slots.slots)) (bounded.ends (let on = bounded.onwards in let within = bounded.within in omega arith)));
      slots = (part.table, EachSlot-swept 0 end c.self.inside.slots c.sweep_slots.new.slots c.sweep_slots.result.swept part);
      retired = HasLastGeneration-swept 0 end c.self.inside.slots c.sweep_slots.new.slots c.sweep_slots.result.swept part;
    })
