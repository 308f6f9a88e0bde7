use Rattle.std.proofs.Common.{◌≡◌, ◌≢◌, ◌<◌, [], sym, ap, ◌∙◌, subst, arith, pow_pos}
use Rattle.pin_core.specs.declared.world.PinRecord.{PinRecord}
use Rattle.pin_core.specs.World.{IsWeight}
use Rattle.pin_core.proofs.Shares.{half_weight}
use Rattle.atomic_table.specs.Seated.{TableId}
use Rattle.pin_core.specs.Events.{half}
use Rattle.pin_table.specs.declared.view.View.TheVariants.{Pin}
use Rattle.pin_table.specs.Plays.{Seated, halved}
use Rattle.pin_table.proofs.RuleKept.{share_allowed}
use Rattle.pin_table.proofs.pins.Pins.share.Goals as goal

above_one : (h : PinRecord) → h.weight ≢ 1 → IsWeight h → 1 < h.weight
above_one h ne w = let p = pow_pos w.0 in let e = w.2 in omega arith

pub split_seat-second-requires : goal.split_seat-second-requires
split_seat-second-requires c =
    let i = c.pin.invariant in
    let table : c.pin.inside.seat.table_id ≡ c.self.inside.table.shared.table_id = ap (λ s. s.table) c.pin.view_is ∙ c.requires.table ∙ sym c.self.view_is in
    let words = ap (λ z. z.words) table in
    let within = i.1 in
    (table, omega arith, share_allowed _ _ _ _ c.pin.inside.hold (ap (λ m. m.0) i.0) (above_one c.pin.inside.hold c.if-pin-eq1.false i.2))

-- the invariant of a half, on a seat of the same table
halved_pin : (h g : PinRecord) (z t : TableId) (me : Seated) → g ≡ half h → t ≡ z → me ≡ (Pin (half h), []) → h.slot < z.words → 1 < h.weight → IsWeight h → (me ≡ (Pin g, [])) × (g.slot < t.words) × IsWeight g
halved_pin h g z t me is same seat l big w =
    let made : (me ≡ (Pin (half h), [])) × (h.slot < t.words) × IsWeight (half h) = (seat, subst (λ (x : TableId). h.slot < x.words) (sym same) l, (half_weight h w big).0) in
    subst (λ (x : PinRecord). (me ≡ (Pin x, [])) × (x.slot < t.words) × IsWeight x) (sym is) made

pub invariant_of-result : goal.invariant_of-result
invariant_of-result c =
    let i = c.pin.invariant in
    let e = c.split_seat-second.ensures in
    halved_pin c.pin.inside.hold c.halved-half.result _ _ _ c.halved-half.ensures e.0 (e.2 ∙ ap (λ m. (halved m.0, m.1)) i.0) i.1 (above_one c.pin.inside.hold c.if-pin-eq1.false i.2) i.2

pub invariant_of-result-2 : goal.invariant_of-result-2
invariant_of-result-2 c =
    let i = c.pin.invariant in
    let e = c.split_seat-second.ensures in
    halved_pin c.pin.inside.hold c.halved.result _ _ _ c.halved.ensures e.3 (e.4 ∙ ap (λ m. (halved m.0, [])) i.0) i.1 (above_one c.pin.inside.hold c.if-pin-eq1.false i.2) i.2
