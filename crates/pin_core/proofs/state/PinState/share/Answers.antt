use Rattle.std.proofs.Common.{◌≡◌, List, ◌∷◌, [], ◌++◌, map, Some, sym, ◌∙◌, ap, subst}
use Rattle.pin_core.specs.World.{PinWorld, IsState, hold_named}
use Rattle.pin_core.specs.Events.{Can, half_if_named, half, named_entry, second}
use Rattle.pin_core.specs.declared.world.PinEntry.{PinEntry}
use Rattle.pin_core.specs.declared.event.Event.TheVariants.{Share}
use Rattle.pin_core.proofs.PinsAreValid.{state_after}
use Rattle.pin_core.proofs.Names.{second_kept}
use Rattle.pin_core.proofs.state.PinState.share.Goals as goal

pub invariant_of-self-2 : goal.invariant_of-self-2
invariant_of-self-2 c =
    let w : PinWorld = record { rows = c.self.inside.rows.items; pins = c.self.inside.pins.items } in
    let can : Can w (Share c.args.pin c.args.second) = subst (λ (w : PinWorld). Can w (Share c.args.pin c.args.second)) (sym c.self.view_is) c.requires in
    let there : hold_named c.args.pin w.pins ≡ Some c.in-Some.hold = sym (rw c.deref.ensures.value at c.in-Some.ensures) in
    let is : c.halve_named.new.pins.items ≡ map (half_if_named c.args.pin) w.pins ++ second c.args.second (hold_named c.args.pin w.pins) =
    c.halve_named.ensures ∙ ap (map (half_if_named c.args.pin)) (c.in_ok-push.ensures.items ∙ ap (λ h. w.pins ++ named_entry c.args.second h ∷ []) c.halved.ensures)
    ∙ second_kept w.pins c.args.pin c.args.second c.in-Some.hold (half c.in-Some.hold) there can.1
    ∙ ap (λ o. map (half_if_named c.args.pin) w.pins ++ second c.args.second o) (sym there) in
    subst (λ (es : List PinEntry). IsState (record { rows = w.rows; pins = es })) (sym is) (state_after w (Share c.args.pin c.args.second) can c.self.invariant)
