use Rattle.std.proofs.Common.{◌≡◌, ◌≤◌, [], None, Some, refl, sym, ap, ◌∙◌, subst, arith}
use Rattle.std.specs.Prelude.{slice_index, slice_set}
use mathlib.Core.Option.{none}
use Rattle.atomic_table.specs.Table.{step}
use Rattle.pin_core.specs.World.{IsValidPin, row}
use Rattle.pin_table.specs.Rule.{keeper_view, lent_by, looks_by}
use Rattle.pin_table.specs.Plays.{without_transit, with_pin_taken}
use Rattle.pin_table.specs.declared.view.View.TheVariants.{Keeper}
use Rattle.pin_table.proofs.Seats.{keeper_is, verified}
use Rattle.pin_table.proofs.Bits.{one_sum}
use Rattle.pin_table.proofs.StepResults.{looked_at}
use Rattle.pin_table.proofs.RuleKept.{look_allowed, transit_allowed, verify_allowed}
use Rattle.pin_table.proofs.pins.Pins.verify.Goals as goal

pub join_seat-requires : goal.join_seat-requires
join_seat-requires c =
    let i = c.keeper.invariant in
    let p = c.pin.invariant in
    let table = ap (λ s. s.table) c.keeper.view_is ∙ c.requires.table ∙ sym c.self.view_is in
    let pinned = ap (λ s. s.table) c.pin.view_is ∙ c.requires.pin ∙ sym c.self.view_is in
    let words = ap (λ z. z.words) pinned in
    let within = p.1 in
    (table, pinned, ap (λ m. m.1) p.0, omega arith, verify_allowed _ _ _ _ _ _ _ c.pin.inside.hold i.0 (ap (λ m. m.0) i.1) refl (ap (λ m. m.0) p.0))

pub load-found-requires : goal.load-found-requires
load-found-requires c =
    let i = c.keeper.invariant in
    let p = c.pin.invariant in
    let j = c.join_seat.ensures in
    let table : c.keeper.inside.seat.table_id ≡ c.self.inside.table.shared.table_id = ap (λ s. s.table) c.keeper.view_is ∙ c.requires.table ∙ sym c.self.view_is in
    let pinned : c.pin.inside.seat.table_id ≡ c.self.inside.table.shared.table_id = ap (λ s. s.table) c.pin.view_is ∙ c.requires.pin ∙ sym c.self.view_is in
    let words = ap (λ z. z.words) pinned in
    let count = ap (λ z. z.words) table in
    let within = p.1 in
    let len = i.2 in
    let has = j.2 ∙ ap (λ m. (with_pin_taken m.0 c.pin.inside.seat.me.0, m.1)) i.1 ∙ ap (λ m. (with_pin_taken (Keeper (keeper_view c.keeper.inside.rows c.keeper.inside.bounds (looks_by c.keeper.inside.seat.me.0) (lent_by c.keeper.inside.seat.me.0) None)) m.0, [])) p.0 in
    (j.0 ∙ table, omega arith, look_allowed _ _ _ _ _ _ (keeper_view c.keeper.inside.rows c.keeper.inside.bounds (looks_by c.keeper.inside.seat.me.0) (lent_by c.keeper.inside.seat.me.0) (Some c.pin.inside.hold)) (j.1 ∙ i.0) has (omega arith))

pub split_seat-seat-requires : goal.split_seat-seat-requires
split_seat-seat-requires c =
    let i = c.keeper.invariant in
    let p = c.pin.invariant in
    let j = c.join_seat.ensures in
    let l = c.load-found.ensures in
    let table : c.keeper.inside.seat.table_id ≡ c.self.inside.table.shared.table_id = ap (λ s. s.table) c.keeper.view_is ∙ c.requires.table ∙ sym c.self.view_is in
    let pinned : c.pin.inside.seat.table_id ≡ c.self.inside.table.shared.table_id = ap (λ s. s.table) c.pin.view_is ∙ c.requires.pin ∙ sym c.self.view_is in
    let words = ap (λ z. z.words) pinned in
    let within = p.1 in
    let has = j.2 ∙ ap (λ m. (with_pin_taken m.0 c.pin.inside.seat.me.0, m.1)) i.1 ∙ ap (λ m. (with_pin_taken (Keeper (keeper_view c.keeper.inside.rows c.keeper.inside.bounds (looks_by c.keeper.inside.seat.me.0) (lent_by c.keeper.inside.seat.me.0) None)) m.0, [])) p.0 in
    let saw = looked_at (step c.self.inside.table.shared.table_id.slots c.pin.inside.hold.slot 0 0 none) (keeper_view c.keeper.inside.rows c.keeper.inside.bounds (looks_by c.keeper.inside.seat.me.0) (lent_by c.keeper.inside.seat.me.0) (Some c.pin.inside.hold)) _ _ _ has l.2 in
    (l.0 ∙ j.0 ∙ table, omega arith, transit_allowed _ _ _ _ _ (l.1 ∙ j.1 ∙ i.0) (ap (λ m. m.0) saw.3))

pub returns-clause-kept : goal.returns-clause-kept
returns-clause-kept c =
    let i = c.keeper.invariant in
    let p = c.pin.invariant in
    let j = c.join_seat.ensures in
    let l = c.load-found.ensures in
    let t = c.split_seat-seat.ensures in
    let v = c.keeper.view_is in
    let has = j.2 ∙ ap (λ m. (with_pin_taken m.0 c.pin.inside.seat.me.0, m.1)) i.1 ∙ ap (λ m. (with_pin_taken (Keeper (keeper_view c.keeper.inside.rows c.keeper.inside.bounds (looks_by c.keeper.inside.seat.me.0) (lent_by c.keeper.inside.seat.me.0) None)) m.0, [])) p.0 in
    let saw = looked_at (step c.self.inside.table.shared.table_id.slots c.pin.inside.hold.slot 0 0 none) (keeper_view c.keeper.inside.rows c.keeper.inside.bounds (looks_by c.keeper.inside.seat.me.0) (lent_by c.keeper.inside.seat.me.0) (Some c.pin.inside.hold)) _ _ _ has l.2 in
    let u = c.unpack.ensures in
    let r = row c.keeper.inside.rows c.pin.inside.hold.slot in
    let low : c.unpack.result.weight ≡ saw.0 = one_sum c.unpack.result.generation r.generation c.unpack.result.weight saw.0 c.unpack.result.phase r.phase u.weight saw.1.fits (sym u.inverse ∙ saw.1.word) in
    let hold : c.pin.inside.hold ≡ c.args.pin.hold = ap (λ s. s.hold) c.pin.view_is in
    verified c.pin.inside.hold c.args.pin.hold c.args.keeper.now _ hold (record {
      keeps = subst (λ rs. IsValidPin rs c.pin.inside.hold) (ap (λ s. s.rows) v) saw.2;
      weight = saw.0;
      within = subst (λ bs. saw.0 ≤ slice_index bs c.pin.inside.hold.slot) (ap (λ s. s.bounds) v) saw.1.within;
      after = keeper_is c.keeper.inside.seat.table_id c.split_seat-seat.new.seat.table_id c.keeper.inside.rows c.keeper.inside.bounds _ (looks_by c.keeper.inside.seat.me.0) _ (lent_by c.keeper.inside.seat.me.0) _ c.args.keeper.now c.pin.inside.hold.slot saw.0 v (t.0 ∙ l.0 ∙ j.0)
          (c.set.ensures ∙ ap (λ n. slice_set c.keeper.inside.bounds c.pin.inside.hold.slot n) low) (ap (λ m. looks_by m.0) t.2 ∙ ap (λ m. looks_by (without_transit m.0)) saw.3) (ap (λ m. lent_by m.0) t.2 ∙ ap (λ m. lent_by (without_transit m.0)) saw.3);
    })
