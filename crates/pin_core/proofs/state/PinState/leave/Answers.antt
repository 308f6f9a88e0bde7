use Rattle.std.proofs.Common.{sym, subst}
use Rattle.pin_core.specs.World.{PinWorld}
use Rattle.pin_core.specs.Events.{Can}
use Rattle.pin_core.specs.declared.event.Event.TheVariants.{Leave}
use Rattle.pin_core.proofs.PinsAreValid.{state_after}
use Rattle.pin_core.proofs.state.PinState.leave.Goals as goal

pub invariant_of-self : goal.invariant_of-self
invariant_of-self c =
    let can : Can (record { rows = c.self.inside.rows.items; pins = c.self.inside.pins.items }) (Leave c.args.pin) = subst (λ (w : PinWorld). Can w (Leave c.args.pin)) (sym c.self.view_is) c.requires in
    rw c.drop_named.ensures (state_after (record { rows = c.self.inside.rows.items; pins = c.self.inside.pins.items }) (Leave c.args.pin) can c.self.invariant)
