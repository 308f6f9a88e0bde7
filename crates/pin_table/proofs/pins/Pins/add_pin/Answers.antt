use Rattle.std.proofs.Common.{None, refl, sym, ap, ◌∙◌, arith}
use Rattle.std.specs.Prelude.{slice_index}
use mathlib.Core.Option.{none}
use Rattle.atomic_table.specs.Table.{step}
use Rattle.pin_table.specs.Rule.{keeper_view, lent_by, looks_by}
use Rattle.pin_table.proofs.Seats.{sits}
use Rattle.pin_table.proofs.StepResults.{lent_at}
use Rattle.pin_table.proofs.RuleKept.{lend_allowed, transit_allowed}
use Rattle.pin_table.proofs.pins.Pins.add_pin.Goals as goal

pub fetch_add-requires : goal.fetch_add-requires
fetch_add-requires c =
    let i = c.keeper.invariant in
    let t = sits c.keeper.inside.seat.table_id c.self.inside.table.shared.table_id c.keeper.inside.rows c.keeper.inside.bounds _ _ c.args.keeper.now c.args.slot c.keeper.view_is (c.requires.table ∙ sym c.self.view_is) i.2 c.requires.within in
    let b = ap (λ s. slice_index s.bounds c.args.slot) c.keeper.view_is in
    let room = c.requires.room in
    (t.table, t.word, lend_allowed _ _ _ _ _ _ (keeper_view c.keeper.inside.rows c.keeper.inside.bounds (looks_by c.keeper.inside.seat.me.0) (lent_by c.keeper.inside.seat.me.0) None) i.0 i.1 t.within refl (t.phase ∙ c.requires.live) (omega arith))

pub split_seat-seat-requires : goal.split_seat-seat-requires
split_seat-seat-requires c =
    let i = c.keeper.invariant in
    let t = sits c.keeper.inside.seat.table_id c.self.inside.table.shared.table_id c.keeper.inside.rows c.keeper.inside.bounds _ _ c.args.keeper.now c.args.slot c.keeper.view_is (c.requires.table ∙ sym c.self.view_is) i.2 c.requires.within in
    let f = c.fetch_add.ensures in
    let word = t.word in
    let has = lent_at (step c.self.inside.table.shared.table_id.slots c.args.slot 1024 0 none) (keeper_view c.keeper.inside.rows c.keeper.inside.bounds (looks_by c.keeper.inside.seat.me.0) (lent_by c.keeper.inside.seat.me.0) None) _ _ _ i.1 f.2 in
    (f.0 ∙ t.table, omega arith, transit_allowed _ _ _ _ _ (f.1 ∙ i.0) (ap (λ m. m.0) has))
