-- The view of a seat after a step, if the view before it is known.
use Rattle.std.proofs.Common.{◌≡◌, ℕ, [], Some, subst}
use Rattle.pin_core.specs.declared.world.PinRecord.{PinRecord}
use Rattle.pin_core.specs.World.{row}
use Rattle.pin_core.specs.Events.{lent_hold}
use Rattle.pin_table.specs.declared.view.KeeperView.{KeeperView}
use Rattle.pin_table.specs.declared.view.View.TheVariants.{Keeper, Left, Pin}
use Rattle.pin_table.specs.Rule.{released_pin}
use Rattle.pin_table.specs.Plays.{Move, Seated, Finds, IsTransitValid, with_transit, with_lent, with_look, IsLeaveStep, IsLookStep, lent}

-- the keeper found this sum, and the pin in transit is kept
pub looked_at : (s : Move) (v : KeeperView) (me : Seated) (n : ℕ) (after : Seated) → me ≡ (Keeper v, []) → IsLookStep s me n after
    → (weight : ℕ) × Finds s.word n v weight × IsTransitValid v.rows v.transit × (after ≡ (Keeper (with_look s.word weight v), []))
looked_at s v me n after is t = subst (λ m. IsLookStep s m n after) is t

-- the keeper has the new pin in transit
pub lent_at : (s : Move) (v : KeeperView) (me : Seated) (n : ℕ) (after : Seated) → me ≡ (Keeper v, []) → lent s me n after
    → after ≡ (Keeper (with_transit (Some (lent_hold s.word (row v.rows s.word))) (with_lent s.word v)), [])
lent_at s v me n after is t = subst (λ m. lent s m n after) is t

-- the pin was left
pub left_at : (s : Move) (h : PinRecord) (me : Seated) (n : ℕ) (after : Seated) → me ≡ (Pin h, []) → IsLeaveStep s me n after → (look : ℕ) × (after ≡ (Left (released_pin h look), []))
left_at s h me n after is t = subst (λ m. IsLeaveStep s m n after) is t
