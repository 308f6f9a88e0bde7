-- The word that each kind of step finds, and the view of its seat after it.
use Rattle.std.specs.Prelude.{◌≡◌, ◌≢◌, ℕ, ◌<◌, ◌≤◌, ◌⊎◌, List, [], length, slice_set, slice_index, Option, Some, None}
use mathlib.Core.Option.{none}
use Rattle.atomic_table.specs.Table.{Me, Step, step}
use Rattle.spec_lib.specs.Texts.{Text}
use Rattle.pin_core.specs.declared.world.Phase.TheVariants.{Free, Live, Condemned}
use Rattle.pin_core.specs.declared.world.PinRow.{PinRow}
use Rattle.pin_core.specs.declared.world.PinRecord.{PinRecord}
use Rattle.pin_core.specs.World.{IsValidPin, row, row_word, max_weight, used_bit}
use Rattle.pin_core.specs.Events.{IsNew, new_weight, given_row, in_phase, reclaimed_row, lent_hold, half}
use Rattle.pin_table.specs.declared.view.KeeperView.{KeeperView}
use Rattle.pin_table.specs.declared.view.View.{View}
use Rattle.pin_table.specs.declared.view.View.TheVariants.{Keeper, Pin, Left, Empty}
use Rattle.pin_table.specs.Rule.{released_pin, keeper_view, with_added}

-- a seat of a pin table: its view, and no slots of memory
abbrev pub Seated : Type 0
Seated = Me (Unit {0}) View

-- a step's word and operands
abbrev pub Move : Type 0
Move = Step (Unit {0})

-- the keeper's view with another row for the slot k
abbrev pub with_row : ℕ → PinRow → KeeperView → KeeperView
with_row k r v = keeper_view (slice_set v.rows k r) v.bounds v.looks v.lent v.transit

-- the keeper's view with this pin in transit
abbrev pub with_transit : Option PinRecord → KeeperView → KeeperView
with_transit transit v = keeper_view v.rows v.bounds v.looks v.lent transit

-- the keeper's view with the weight of one more new pin on the slot k
abbrev pub with_lent : ℕ → KeeperView → KeeperView
with_lent k v = keeper_view v.rows (with_added k new_weight v.bounds) v.looks (with_added k new_weight v.lent) v.transit

-- the keeper's view after one more look at the slot k, which found this sum
abbrev pub with_look : ℕ → ℕ → KeeperView → KeeperView
with_look k weight v = keeper_view v.rows (slice_set v.bounds k weight) (with_added k 1 v.looks) v.lent v.transit

-- the word n of the slot k is that of the keeper's row with this sum, which is within the bound
pub record Finds (k n : ℕ) (v : KeeperView) (weight : ℕ) : Type 0 where
  pub word : n ≡ row_word (row v.rows k) weight
  pub within : weight ≤ slice_index v.bounds k
  pub fits : weight ≤ max_weight

-- the pin in transit is valid
abbrev pub IsTransitValid : List PinRow → Option PinRecord → Type 0
IsTransitValid rows None = Unit {0}
IsTransitValid rows (Some h) = IsValidPin rows h

-- ---- steps on a word

-- the keeper looked at the slot once more, and its bound is the sum in the word
abbrev pub IsLookStep : Move → Seated → ℕ → Seated → Type 0
IsLookStep s (Keeper v, c) n me = (weight : ℕ) × Finds s.word n v weight × IsTransitValid v.rows v.transit × (me ≡ (Keeper (with_look s.word weight v), c))
IsLookStep s (u, c) n me = me ≡ (u, c)

-- the keeper gave the slot the digest d, with the bound 0
abbrev pub IsGiveStep : Text → Move → Seated → ℕ → Seated → Type 0
IsGiveStep d s (Keeper v, c) n me = me ≡ (Keeper (with_look s.word 0 (with_row s.word (given_row d (row v.rows s.word)) v)), c)
IsGiveStep d s (u, c) n me = me ≡ (u, c)

-- the seat is the keeper's, the slot k is free, and no used slot has the digest d
abbrev pub IsGiver : ℕ → Text → ℕ → Seated → Type 0
IsGiver k d id me = (v : KeeperView) × (id ≡ 0) × (me ≡ (Keeper v, [])) × (k < length v.rows) × ((row v.rows k).phase ≡ Free) × IsNew d v.rows

-- the step on the word k by which a slot is given, at a table of n slots of memory
abbrev pub give_move : ℕ → ℕ → Move
give_move n k = step n k used_bit 0 none

-- the move gave its slot the digest d, whatever word it found
abbrev pub Gives : Text → Move → Seated → Seated → Type 0
Gives d s me new = (n : ℕ) × IsGiveStep d s me n new

-- the keeper has a new pin in transit and counts its weight as lent
abbrev pub lent : Move → Seated → ℕ → Seated → Type 0
lent s (Keeper v, c) n me = me ≡ (Keeper (with_transit (Some (lent_hold s.word (row v.rows s.word))) (with_lent s.word v)), c)
lent s (u, c) n me = me ≡ (u, c)

-- the seat's pin was released, and the seat records some number of looks
abbrev pub IsLeaveStep : Move → Seated → ℕ → Seated → Type 0
IsLeaveStep s (Pin h, c) n me = (look : ℕ) × (me ≡ (Left (released_pin h look), c))
IsLeaveStep s (u, c) n me = me ≡ (u, c)

-- the keeper condemned the slot
abbrev pub IsCondemnStep : Move → Seated → ℕ → Seated → Type 0
IsCondemnStep s (Keeper v, c) n me = me ≡ (Keeper (with_row s.word (in_phase Condemned (row v.rows s.word)) v), c)
IsCondemnStep s (u, c) n me = me ≡ (u, c)

-- the keeper made the slot live again
abbrev pub IsReviveStep : Move → Seated → ℕ → Seated → Type 0
IsReviveStep s (Keeper v, c) n me = me ≡ (Keeper (with_row s.word (in_phase Live (row v.rows s.word)) v), c)
IsReviveStep s (u, c) n me = me ≡ (u, c)

-- the keeper reclaimed the slot if the word was the expected one, and else looked at it
abbrev pub IsReclaimStep : Move → Seated → ℕ → Seated → Type 0
IsReclaimStep s (Keeper v, c) n me =
    ((n ≡ s.first) × (me ≡ (Keeper (with_look s.word 0 (with_row s.word (reclaimed_row (row v.rows s.word)) v)), c)))
    ⊎ ((n ≢ s.first) × ((weight : ℕ) × Finds s.word n v weight × (me ≡ (Keeper (with_look s.word weight v), c))))
IsReclaimStep s (u, c) n me = me ≡ (u, c)

-- ---- splits and joins of seats

-- the view without its pin in transit
abbrev pub without_transit : View → View
without_transit (Keeper v) = Keeper (with_transit None v)
without_transit u = u

-- the seat of a pin, or an empty one
abbrev pub seat_of_pin : Option PinRecord → View
seat_of_pin None = Empty
seat_of_pin (Some h) = Pin h

-- the seat of the pin in transit
abbrev pub transit_pin : View → View
transit_pin (Keeper v) = seat_of_pin v.transit
transit_pin u = Empty

-- the seat with half of its pin's weight
abbrev pub halved : View → View
halved (Pin h) = Pin (half h)
halved u = u

-- the pin of a seat, if it has one
abbrev pub pin_of : View → Option PinRecord
pin_of (Pin h) = Some h
pin_of (Keeper v) = None
pin_of (Left g) = None
pin_of Empty = None

-- the keeper's view w after the pin of the seat u came into transit
abbrev pub with_pin_taken : View → View → View
with_pin_taken (Keeper v) u = Keeper (with_transit (pin_of u) v)
with_pin_taken w u = w
