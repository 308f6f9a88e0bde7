use Rattle.std.proofs.Common.{◌+◌, ap, sym, ◌∙◌, arith}
use Rattle.std.proofs.lemmas.List.{set-set}
use Rattle.pin_core.specs.declared.world.PinRow.{PinRow}
use Rattle.std.specs.Prelude.{List}
use Rattle.slot_table.specs.Slots.{lend, on_stored_blob}
use Rattle.pin_core.specs.Events.{new_weight, lent_hold}
use Rattle.pin_core.specs.World.{row}
use Rattle.pin_table.specs.Calls.{KeeperValue}
use Rattle.store_book.proofs.Slots.Pinned.{IsPinned-lent, one_each-looked}
use Rattle.store_book.proofs.pinned_slots.PinnedSlots.lend.Goals as goal

pub invariant_of-self-2 : goal.invariant_of-self-2
invariant_of-self-2 c =
    let e = c.in_ok-pin.ensures in
    rw (c.lend-2.ensures, e.after, set-set c.self.inside.keeper.bounds c.args.slot e.weight (e.weight + new_weight))
    (IsPinned-lent c.self.inside.slots c.self.inside.keeper.rows c.self.inside.keeper.bounds c.self.invariant.0 c.args.slot (e.weight + new_weight), one_each-looked c.self.inside.slots c.self.inside.keeper.looks c.args.slot (on_stored_blob lend) c.self.invariant.1)

pub returns : goal.returns
returns c =
    let e = c.in_ok-pin.ensures in
    let le = e.within in
    let bounds = ap (λ (k : KeeperValue). k.bounds) e.after ∙ set-set c.self.inside.keeper.bounds c.args.slot e.weight (e.weight + new_weight) in
    rw (← c.self.view_is) (record {
      bound = e.weight + new_weight;
      within = omega arith;
      after = λ i. record { table = (e.after i).table; slots = c.lend-2.ensures i; bounds = bounds i; looks = (e.after i).looks };
      is = e.pin ∙ ap (λ (rs : List PinRow). record { table = c.self.inside.keeper.table; hold = lent_hold c.args.slot (row rs c.args.slot) }) c.self.invariant.0.same_rows;
      digest = ap (λ (rs : List PinRow). (row rs c.args.slot).digest) (sym c.self.invariant.0.same_rows) ∙ e.digest;
    })
