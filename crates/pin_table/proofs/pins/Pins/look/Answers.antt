use Rattle.std.proofs.Common.{None, sym, ◌∙◌}
use Rattle.pin_table.specs.Rule.{keeper_view, lent_by, looks_by}
use Rattle.pin_table.proofs.Seats.{sits}
use Rattle.pin_table.proofs.RuleKept.{look_allowed}
use Rattle.pin_table.proofs.pins.Pins.look.Goals as goal

pub load-found-requires : goal.load-found-requires
load-found-requires c =
    let i = c.keeper.invariant in
    let t = sits c.keeper.inside.seat.table_id c.self.inside.table.shared.table_id c.keeper.inside.rows c.keeper.inside.bounds _ _ c.args.keeper.now c.args.slot c.keeper.view_is (c.requires.table ∙ sym c.self.view_is) i.2 c.requires.within in
    (t.table, t.word, look_allowed _ _ _ _ _ _ (keeper_view c.keeper.inside.rows c.keeper.inside.bounds (looks_by c.keeper.inside.seat.me.0) (lent_by c.keeper.inside.seat.me.0) None) i.0 i.1 t.within)
