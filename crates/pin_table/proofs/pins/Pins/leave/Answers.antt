use Rattle.std.proofs.Common.{◌≡◌, refl, sym, ap, ◌∙◌, arith}
use mathlib.Core.Option.{none}
use Rattle.atomic_table.specs.Table.{step}
use Rattle.pin_table.specs.declared.view.View.TheVariants.{Left}
use Rattle.pin_table.specs.Rule.{released_pin}
use Rattle.pin_table.specs.Calls.{seat_value}
use Rattle.pin_table.proofs.StepResults.{left_at}
use Rattle.pin_table.proofs.RuleKept.{leave_allowed}
use Rattle.pin_table.proofs.pins.Pins.leave.Goals as goal

pub fetch_sub-requires : goal.fetch_sub-requires
fetch_sub-requires c =
    let i = c.pin.invariant in
    let table : c.pin.inside.seat.table_id ≡ c.self.inside.table.shared.table_id = ap (λ s. s.table) c.pin.view_is ∙ c.requires.table ∙ sym c.self.view_is in
    let words = ap (λ z. z.words) table in
    let within = i.1 in
    (table, omega arith, leave_allowed _ _ _ _ _ _ _ c.pin.inside.hold refl c.from.ensures i.0)

pub returns : goal.returns
returns c =
    let f = c.fetch_sub.ensures in
    let table = f.0 ∙ ap (λ s. s.table) c.pin.view_is ∙ c.requires.table in
    let hold : c.pin.inside.hold ≡ c.args.pin.hold = ap (λ s. s.hold) c.pin.view_is in
    let has = left_at (step c.self.inside.table.shared.table_id.slots c.pin.inside.hold.slot c.from.result 0 none) c.pin.inside.hold _ _ _ c.pin.invariant.0 f.2 in
    (has.0, (λ i. seat_value (table i) (has.1 i).0) ∙ ap (λ h. seat_value c.args.self.now (Left (released_pin h has.0))) hold)
