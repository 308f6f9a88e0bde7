use Rattle.std.proofs.Common.{sym, subst}
use Rattle.pin_core.specs.World.{PinWorld}
use Rattle.pin_core.specs.Events.{Can, given_row}
use Rattle.pin_core.specs.declared.event.Event.TheVariants.{Give}
use Rattle.pin_core.proofs.PinsAreValid.{state_after, row_set}
use Rattle.pin_core.proofs.state.PinState.give.Goals as goal

pub set_row-requires-clause-state : goal.set_row-requires-clause-state
set_row-requires-clause-state c =
    let w : PinWorld = record { rows = c.self.inside.rows.items; pins = c.self.inside.pins.items } in
    let can : Can w (Give c.args.slot c.args.digest) = subst (λ (v : PinWorld). Can v (Give c.args.slot c.args.digest)) (sym c.self.view_is) c.requires in
    row_set w c.args.self.now c.args.slot (given_row c.args.digest) c.index.result.now c.given-row.result c.self.view_is can.0.0 c.index.ensures c.given-row.ensures (state_after w (Give c.args.slot c.args.digest) can c.self.invariant)
