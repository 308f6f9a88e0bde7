use Rattle.std.proofs.Common.{sym, subst}
use Rattle.pin_core.specs.World.{PinWorld}
use Rattle.pin_core.specs.Events.{Can, reclaimed_row}
use Rattle.pin_core.specs.declared.event.Event.TheVariants.{Reclaim}
use Rattle.pin_core.proofs.PinsAreValid.{state_after, row_set}
use Rattle.pin_core.proofs.state.PinState.reclaim.Goals as goal

pub set_row-requires-clause-state : goal.set_row-requires-clause-state
set_row-requires-clause-state c =
    let w : PinWorld = record { rows = c.self.inside.rows.items; pins = c.self.inside.pins.items } in
    let can : Can w (Reclaim c.args.slot) = subst (λ (v : PinWorld). Can v (Reclaim c.args.slot)) (sym c.self.view_is) c.requires in
    row_set w c.args.self.now c.args.slot (reclaimed_row) c.index.result.now c.reclaimed-row.result c.self.view_is can.0.0 c.index.ensures c.reclaimed-row.ensures (state_after w (Reclaim c.args.slot) can c.self.invariant)
