use Rattle.std.proofs.Common.{sym, subst}
use Rattle.pin_core.specs.World.{PinWorld}
use Rattle.pin_core.specs.Events.{Can, in_phase}
use Rattle.pin_core.specs.declared.world.Phase.TheVariants.{Condemned}
use Rattle.pin_core.specs.declared.event.Event.TheVariants.{Condemn}
use Rattle.pin_core.proofs.PinsAreValid.{state_after, row_set}
use Rattle.pin_core.proofs.state.PinState.condemn.Goals as goal

pub set_row-requires-clause-state : goal.set_row-requires-clause-state
set_row-requires-clause-state c =
    let w : PinWorld = record { rows = c.self.inside.rows.items; pins = c.self.inside.pins.items } in
    let can : Can w (Condemn c.args.slot) = subst (λ (v : PinWorld). Can v (Condemn c.args.slot)) (sym c.self.view_is) c.requires in
    row_set w c.args.self.now c.args.slot (in_phase Condemned) c.index.result.now c.in_phase-row.result c.self.view_is can.0 c.index.ensures c.in_phase-row.ensures (state_after w (Condemn c.args.slot) can c.self.invariant)
