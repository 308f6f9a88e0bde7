-- The steps of a pin table's seats as plain data: when each can be made, the words and views after it, and its event.
use Rattle.std.specs.Prelude.{◌≡◌, ◌≢◌, ℕ, ◌+◌, ◌-◌, ◌%◌, ◌^◌, ◌<◌, ◌≤◌, List, [], ◌∷◌, ◌++◌, length, slice_set, slice_index, Some, None, bit_or, bit_and}
use mathlib.Core.Option.{some}
use lib.ListN.{get_elem?}
use Rattle.spec_lib.specs.Texts.{Text}
use Rattle.pin_core.specs.declared.world.Phase.TheVariants.{Free, Live, Condemned}
use Rattle.pin_core.specs.declared.world.PinRecord.{PinRecord}
use Rattle.pin_core.specs.declared.event.Event.{Event}
use Rattle.pin_core.specs.declared.event.Event.TheVariants.{Give, Lend, Share, Leave, Condemn, Revive, Reclaim, Look, Verify}
use Rattle.pin_core.specs.World.{PinWorld, hold_named, row, row_word, max_weight, used_bit, condemned_bit}
use Rattle.pin_core.specs.Events.{Can, after, IsNew, new_weight, reclaimed_row}
use Rattle.pin_table.specs.declared.view.KeeperView.{KeeperView}
use Rattle.pin_table.specs.declared.view.View.{View}
use Rattle.pin_table.specs.declared.view.View.TheVariants.{Keeper, Left, Pin, Empty}
use Rattle.pin_table.specs.Rule.{Agrees, released_pin, looks_by}
use Rattle.pin_table.specs.Plays.{Move, Seated, IsLookStep, IsGiveStep, lent, IsCondemnStep, IsReviveStep, IsReclaimStep, without_transit, transit_pin, halved, with_pin_taken}

-- A step: the view of its seat, its word and operands, and the seat after it.
pub data SeatStep : Type 0 where
  -- the keeper's load
  look : KeeperView → Move → Seated → SeatStep
  -- the keeper's fetch_or of bit 31, with a digest
  give : KeeperView → Move → Seated → Text → SeatStep
  -- the keeper's fetch_add of a new pin's weight
  lend : KeeperView → Move → Seated → SeatStep
  -- a split of the keeper's seat
  detach_pin : KeeperView → SeatStep
  -- a fetch_sub of a pin's weight, by the pin's seat
  leave : ℕ → PinRecord → Move → Seated → SeatStep
  -- the keeper's fetch_or of bit 30
  condemn : KeeperView → Move → Seated → SeatStep
  -- the keeper's fetch_and of all bits but 30
  revive : KeeperView → Move → Seated → SeatStep
  -- the keeper's compare_exchange, if it succeeds
  reclaim : KeeperView → Move → Seated → SeatStep
  -- the keeper's compare_exchange, if it fails
  fail_reclaim : KeeperView → Move → Seated → SeatStep
  -- a split of a pin's seat in halves
  share : ℕ → PinRecord → SeatStep
  -- a join of a pin's seat to the keeper's
  verify : KeeperView → ℕ → PinRecord → SeatStep

-- k is a word of the table, and has 64 bits
abbrev pub IsWord : List ℕ → ℕ → Type 0
IsWord words k = (k < length words) × (slice_index words k < 2 ^ 64)

-- the word with all bits set but that of a condemned slot
abbrev pub not_condemned : ℕ
not_condemned = 0xffff_ffff_bfff_ffff

-- the step exchanges a condemned slot's word without pins for that of the reclaimed slot
abbrev pub Exchanges : KeeperView → Move → Type 0
Exchanges v s = ((row v.rows s.word).phase ≡ Condemned) × (s.first ≡ row_word (row v.rows s.word) 0) × (s.second ≡ row_word (reclaimed_row (row v.rows s.word)) 0)

-- the number of the keeper's looks at each slot, by the view of the first seat
abbrev pub looks_of : List View → List ℕ
looks_of [] = []
looks_of (v ∷ vs) = looks_by v

module _ (words : List ℕ) (views : List View) where
  -- the keeper's view is v, and the step's word exists
  abbrev pub OfKeeper : KeeperView → Move → Type 0
  OfKeeper v s = (get_elem? views 0 ≡ some (Keeper v)) × IsWord words s.word

  -- the step can be made and gives its seat this view
  abbrev pub IsMade : SeatStep → Type 0
  IsMade (look v s me) = OfKeeper v s × IsLookStep s (Keeper v, []) (slice_index words s.word) me
  IsMade (give v s me d) = OfKeeper v s × ((row v.rows s.word).phase ≡ Free) × IsNew d v.rows × (s.first ≡ used_bit) × IsGiveStep d s (Keeper v, []) (slice_index words s.word) me
  IsMade (lend v s me) = OfKeeper v s × (v.transit ≡ None) × ((row v.rows s.word).phase ≡ Live) × (slice_index v.bounds s.word + new_weight ≤ max_weight) × (s.first ≡ new_weight) × lent s (Keeper v, []) (slice_index words s.word) me
  IsMade (detach_pin v) = get_elem? views 0 ≡ some (Keeper v)
  IsMade (leave id h s me) = (get_elem? views id ≡ some (Pin h)) × IsWord words s.word × (s.word ≡ h.slot) × (s.first ≡ h.weight) × (me ≡ (Left (released_pin h (slice_index (looks_of views) h.slot)), []))
  IsMade (condemn v s me) = OfKeeper v s × ((row v.rows s.word).phase ≡ Live) × (s.first ≡ condemned_bit) × IsCondemnStep s (Keeper v, []) (slice_index words s.word) me
  IsMade (revive v s me) = OfKeeper v s × ((row v.rows s.word).phase ≡ Condemned) × (s.first ≡ not_condemned) × IsReviveStep s (Keeper v, []) (slice_index words s.word) me
  IsMade (reclaim v s me) = OfKeeper v s × Exchanges v s × (slice_index words s.word ≡ s.first) × IsReclaimStep s (Keeper v, []) (slice_index words s.word) me
  IsMade (fail_reclaim v s me) = OfKeeper v s × Exchanges v s × (slice_index words s.word ≢ s.first) × IsReclaimStep s (Keeper v, []) (slice_index words s.word) me
  IsMade (share id h) = (get_elem? views id ≡ some (Pin h)) × (1 < h.weight)
  IsMade (verify v id h) = (get_elem? views 0 ≡ some (Keeper v)) × (v.transit ≡ None) × (id ≢ 0) × (get_elem? (slice_set views 0 (with_pin_taken (Keeper v) (Pin h))) id ≡ some (Pin h))

module _ (words : List ℕ) where
  -- the words after a step
  abbrev pub words_after : SeatStep → List ℕ
  words_after (look v s me) = words
  words_after (give v s me d) = slice_set words s.word (bit_or (slice_index words s.word) s.first)
  words_after (lend v s me) = slice_set words s.word ((slice_index words s.word + s.first) % 2 ^ 64)
  words_after (detach_pin v) = words
  words_after (leave id h s me) = slice_set words s.word ((slice_index words s.word + (2 ^ 64 - s.first)) % 2 ^ 64)
  words_after (condemn v s me) = slice_set words s.word (bit_or (slice_index words s.word) s.first)
  words_after (revive v s me) = slice_set words s.word (bit_and (slice_index words s.word) s.first)
  words_after (reclaim v s me) = slice_set words s.word s.second
  words_after (fail_reclaim v s me) = words
  words_after (share id h) = words
  words_after (verify v id h) = words

module _ (views : List View) where
  -- the views after a step
  abbrev pub views_after : SeatStep → List View
  views_after (look v s me) = slice_set views 0 me.0
  views_after (give v s me d) = slice_set views 0 me.0
  views_after (lend v s me) = slice_set views 0 me.0
  views_after (detach_pin v) = slice_set views 0 (without_transit (Keeper v)) ++ transit_pin (Keeper v) ∷ []
  views_after (leave id h s me) = slice_set views id me.0
  views_after (condemn v s me) = slice_set views 0 me.0
  views_after (revive v s me) = slice_set views 0 me.0
  views_after (reclaim v s me) = slice_set views 0 me.0
  views_after (fail_reclaim v s me) = slice_set views 0 me.0
  views_after (share id h) = slice_set views id (halved (Pin h)) ++ halved (Pin h) ∷ []
  views_after (verify v id h) = slice_set (slice_set views 0 (with_pin_taken (Keeper v) (Pin h))) id Empty

-- the event can happen in the world p, and words and views agree with the world after it
abbrev pub LeadsByEvent : PinWorld → Event → List ℕ → List View → Type 0
LeadsByEvent p e words views = Can p e × Agrees words views (after p e)

-- The step is an event of the world p, or no event, and leads to these words and views.
abbrev pub IsEvent : PinWorld → SeatStep → List ℕ → List View → Type 0
IsEvent p (look v s me) words views = LeadsByEvent p (Look s.word) words views
IsEvent p (give v s me d) words views = LeadsByEvent p (Give s.word d) words views
IsEvent p (lend v s me) words views = (n : ℕ) × LeadsByEvent p (Lend s.word n) words views
IsEvent p (detach_pin v) words views = Agrees words views p
IsEvent p (leave id h s me) words views = (n : ℕ) × (hold_named n p.pins ≡ Some h) × LeadsByEvent p (Leave n) words views
IsEvent p (condemn v s me) words views = LeadsByEvent p (Condemn s.word) words views
IsEvent p (revive v s me) words views = LeadsByEvent p (Revive s.word) words views
IsEvent p (reclaim v s me) words views = LeadsByEvent p (Reclaim s.word) words views
IsEvent p (fail_reclaim v s me) words views = LeadsByEvent p (Look s.word) words views
IsEvent p (share id h) words views = (n m : ℕ) × (hold_named n p.pins ≡ Some h) × LeadsByEvent p (Share n m) words views
IsEvent p (verify v id h) words views = (n : ℕ) × (hold_named n p.pins ≡ Some h) × LeadsByEvent p (Verify n) words views
