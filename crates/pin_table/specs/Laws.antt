-- The theorems on the steps of a pin table, on lists of steps, and on the words at any moment.
use Rattle.std.specs.Prelude.{◌≡◌, ℕ, ◌≤◌, List, [], ◌∷◌, take, length, replicate, sum_by, slice_index}
use mathlib.Core.Option.{some}
use lib.ListN.{get_elem?}
use Rattle.pin_core.specs.declared.world.Phase.TheVariants.{Free}
use Rattle.pin_core.specs.declared.world.PinRecord.{PinRecord}
use Rattle.pin_core.specs.declared.event.Event.{Event}
use Rattle.pin_core.specs.World.{PinWorld, IsValidPin, initial_world, row, row_word, word_of, max_weight}
use Rattle.pin_core.specs.Events.{CanAll, after_all}
use Rattle.pin_core.specs.Laws.{ReclaimsSafely, world_at}
use Rattle.pin_table.specs.declared.view.KeeperView.{KeeperView}
use Rattle.pin_table.specs.declared.view.View.{View}
use Rattle.pin_table.specs.declared.view.View.TheVariants.{Keeper, Pin}
use Rattle.pin_table.specs.Rule.{Agrees, Ruled, initial_view}
use Rattle.pin_table.specs.Steps.{SeatStep, look, give, lend, detach_pin, leave, condemn, revive, reclaim, fail_reclaim, share, verify, IsMade, words_after, views_after, IsEvent}

-- A new table agrees with free slots, and each kind of step is its event.
pub record StepsAreEvents : Type 0 where
  pub made : (n g : ℕ) → Agrees (replicate n (word_of g Free 0)) (initial_view n g ∷ []) (initial_world n g)
  pub steps : (words : List ℕ) (views : List View) (p : PinWorld) (x : SeatStep) → Agrees words views p → IsMade words views x → IsEvent p x (words_after words x) (views_after views x)

-- ---- histories

-- the words and the views of all seats at one moment
pub record Moment : Type 0 where
  pub words : List ℕ
  pub views : List View

-- a new table of n slots of generation g
abbrev pub new_table : ℕ → ℕ → Moment
new_table n g = record { words = replicate n (word_of g Free 0); views = initial_view n g ∷ [] }

-- the moment after a step
abbrev pub moment_after : Moment → SeatStep → Moment
moment_after m x = record { words = words_after m.words x; views = views_after m.views x }

-- the moment after a list of steps
abbrev pub moment_after_all : Moment → List SeatStep → Moment
moment_after_all m [] = m
moment_after_all m (x ∷ xs) = moment_after_all (moment_after m x) xs

-- each step can be made in its turn
abbrev pub AreMade : Moment → List SeatStep → Type 0
AreMade m [] = Unit {0}
AreMade m (x ∷ xs) = IsMade m.words m.views x × AreMade (moment_after m x) xs

-- the number of events of a step: none for a split of the keeper's seat, else one
abbrev pub event_count : SeatStep → ℕ
event_count (look v s me) = 1
event_count (give v s me d) = 1
event_count (lend v s me) = 1
event_count (detach_pin v) = 0
event_count (leave id h s me) = 1
event_count (condemn v s me) = 1
event_count (revive v s me) = 1
event_count (reclaim v s me) = 1
event_count (fail_reclaim v s me) = 1
event_count (share id h) = 1
event_count (verify v id h) = 1

-- A list of steps from a new table is one list of events that can happen, with which the table agrees at each moment.
pub record History (n g : ℕ) (xs : List SeatStep) : Type 0 where
  pub events : List Event
  pub happen : CanAll (initial_world n g) events
  pub reclaims : ReclaimsSafely (initial_world n g) events
  pub one_each : length events ≡ sum_by event_count xs
  pub agrees : (i : ℕ) → i ≤ length xs → Agrees (moment_after_all (new_table n g) (take i xs)).words (moment_after_all (new_table n g) (take i xs)).views (world_at (initial_world n g) events (sum_by event_count (take i xs)))

-- Every list of steps that can be made from a new table is one list of events.
abbrev pub Histories : Type 0
Histories = (n g : ℕ) (xs : List SeatStep) → AreMade (new_table n g) xs → History n g xs

-- ---- the words at any moment

-- The words and views are those after some legal events, every seat's pin is valid by the keeper's rows, and its slot's word counts it.
pub record Running (n g : ℕ) (words : List ℕ) (views : List View) : Type 0 where
  pub events : List Event
  pub happen : CanAll (initial_world n g) events
  pub reclaims : ReclaimsSafely (initial_world n g) events
  pub agrees : Agrees words views (after_all (initial_world n g) events)
  pub keeps : (v : KeeperView) (id : ℕ) (h : PinRecord) → get_elem? views 0 ≡ some (Keeper v) → get_elem? views id ≡ some (Pin h) → IsValidPin v.rows h
  pub counts : (v : KeeperView) (id : ℕ) (h : PinRecord) → get_elem? views 0 ≡ some (Keeper v) → get_elem? views id ≡ some (Pin h)
      → (weight : ℕ) × (slice_index words h.slot ≡ row_word (row v.rows h.slot) weight) × (h.weight ≤ weight) × (weight ≤ max_weight)

-- It holds for all words and views under the rule, so at every moment and for every interleaving of steps.
abbrev pub RunningWords : Type 0
RunningWords = (n g : ℕ) (words : List ℕ) (views : List View) → Ruled n g words views → Running n g words views
