use Rattle.std.proofs.Common.{None, sym, ap, ◌∙◌}
use Rattle.pin_core.specs.declared.world.PinRow.{PinRow}
use Rattle.pin_core.specs.World.{row_word}
use Rattle.pin_core.specs.Events.{reclaimed_row}
use Rattle.pin_table.specs.Rule.{keeper_view, lent_by, looks_by}
use Rattle.pin_table.proofs.Seats.{sits, read_row}
use Rattle.pin_table.proofs.RuleKept.{reclaim_allowed}
use Rattle.pin_table.proofs.pins.Pins.reclaim.Goals as goal

pub compare_exchange-found-requires : goal.compare_exchange-found-requires
compare_exchange-found-requires c =
    let i = c.keeper.invariant in
    let t = sits c.keeper.inside.seat.table_id c.self.inside.table.shared.table_id c.keeper.inside.rows c.keeper.inside.bounds _ _ c.args.keeper.now c.args.slot c.keeper.view_is (c.requires.table ∙ sym c.self.view_is) i.2 c.requires.within in
    let r = read_row c.keeper.inside.rows c.args.slot c.get-row.result t.within c.get-row.ensures in
    let old = c.clear_word-old.ensures ∙ ap (λ (x : PinRow). row_word x 0) (sym r) in
    let new = c.clear_word-new.ensures ∙ ap (λ (x : PinRow). row_word x 0) (c.reclaimed-next.ensures ∙ ap reclaimed_row (sym r)) in
    (t.table, t.word, reclaim_allowed _ _ _ _ _ _ (keeper_view c.keeper.inside.rows c.keeper.inside.bounds (looks_by c.keeper.inside.seat.me.0) (lent_by c.keeper.inside.seat.me.0) None) _ _ i.0 i.1 t.within (t.phase ∙ c.requires.condemned) old new)
