use Rattle.std.proofs.Common.{◌∙◌, ap, arith, length, sym, subst}
use Rattle.store_book.specs.BookState.{BookState}
use Rattle.store_model.specs.Sweep.{IsSweepOf}
use Rattle.store_book.proofs.Refine.Sweep.{IsBook-sweep, IsSweepOf-slots}
use Rattle.store_book.proofs.Slots.SweptSeen.{EachSlot-swept, HasLastGeneration-swept, is_reached-slots, length-slot_views_of}
use Rattle.store_book.specs.BookFields.{layers}
use Rattle.store_book.specs.Layers.{book_catalog}
use Rattle.store_book.specs.Pinned.{slot_views_of}
use Rattle.store_book.specs.SweepParts.{IsBoundedPart, end_of, is_reached}
use Rattle.store_book.proofs.book.Book.sweep_part.Goals as goal

pub sweep_slots-requires-clause-within : goal.sweep_slots-requires-clause-within
sweep_slots-requires-clause-within c =
    let same = ap (λ (b : BookState). length b.slots) c.self.view_is in
    let long = length-slot_views_of c.self.inside.slots in
    let le = c.requires.within in
    omega arith

pub invariant_of-self : goal.invariant_of-self
invariant_of-self c = IsBook-sweep c.args.from (end_of (length c.self.inside.slots.slots) c.sweep_slots.result) (layers c.self.inside) c.self.inside.slots c.sweep_slots.new.slots c.sweep_slots.result.swept c.self.invariant c.sweep_slots.ensures.sweeps

pub returns : goal.returns
returns c =
    let part = c.sweep_slots.ensures.sweeps in
    let end = end_of (length c.self.inside.slots.slots) c.sweep_slots.result in
    let long = length-slot_views_of c.self.inside.slots in
    rw (← c.self.view_is) (record {
      sweeps = subst (λ f. IsSweepOf f (book_catalog (layers c.self.inside)) c.sweep_slots.result.swept (book_catalog (record (layers c.self.inside) { slots = c.sweep_slots.new.slots.slots }))) (sym (is_reached-slots c.args.from end c.self.inside.slots) ∙ ap (λ n. is_reached c.args.from (end_of n c.sweep_slots.result) (slot_views_of c.self.inside.slots)) (sym long))
          (IsSweepOf-slots c.args.from end (layers c.self.inside) c.self.inside.slots c.sweep_slots.new.slots c.sweep_slots.result.swept c.self.invariant part);
      bounded = subst (λ n. IsBoundedPart c.args.from c.args.most n c.sweep_slots.result) (sym long) c.sweep_slots.ensures.bounded;
      slots = (part.table, EachSlot-swept c.args.from end c.self.inside.slots c.sweep_slots.new.slots c.sweep_slots.result.swept part);
      retired = HasLastGeneration-swept c.args.from end c.self.inside.slots c.sweep_slots.new.slots c.sweep_slots.result.swept part;
    })
