use Rattle.std.proofs.Common.{List, ◌∷◌, [], ◌++◌, sym, ◌∙◌, ap, subst}
use Rattle.pin_core.specs.World.{PinWorld, IsState}
use Rattle.pin_core.specs.Events.{Can, lent_hold, named_entry}
use Rattle.pin_core.specs.declared.world.PinEntry.{PinEntry}
use Rattle.pin_core.specs.declared.event.Event.TheVariants.{Lend}
use Rattle.pin_core.proofs.PinsAreValid.{state_after, row_read, lent_is}
use Rattle.pin_core.proofs.state.PinState.lend.Goals as goal

pub invariant_of-self-2 : goal.invariant_of-self-2
invariant_of-self-2 c =
    let w : PinWorld = record { rows = c.self.inside.rows.items; pins = c.self.inside.pins.items } in
    let can : Can w (Lend c.args.slot c.args.pin) = subst (λ (w : PinWorld). Can w (Lend c.args.slot c.args.pin)) (sym c.self.view_is) c.requires in
    let hold = lent_is c.args.slot c.index-row.result.now c.in-Some.digest c.in-Some.is ∙ ap (lent_hold c.args.slot) (row_read w.rows c.args.slot c.index-row.result.now can.0.0 c.index-row.ensures) in
    let is = c.in_ok-push.ensures.items ∙ ap (λ h. w.pins ++ named_entry c.args.pin h ∷ []) hold in
    subst (λ (es : List PinEntry). IsState (record { rows = w.rows; pins = es })) (sym is) (state_after w (Lend c.args.slot c.args.pin) can c.self.invariant)
