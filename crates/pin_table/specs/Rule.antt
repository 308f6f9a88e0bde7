-- The rule of a pin table: its words are those of a pin world with the keeper's rows and the seats' pins.
use Rattle.std.specs.Prelude.{◌≡◌, ℕ, ◌+◌, ◌==◌, ◌<◌, ◌≤◌, cond, List, [], ◌∷◌, ◌++◌, length, replicate, slice_index, slice_set, sum_by, Option, Some, None, IsPermutation}
use Rattle.std.specs.List.{All}
use Rattle.pin_core.specs.declared.world.PinRow.{PinRow}
use Rattle.pin_core.specs.declared.world.PinRecord.{PinRecord}
use Rattle.pin_core.specs.declared.event.Event.{Event}
use Rattle.pin_core.specs.World.{PinWorld, IsState, holds_of, weight_at, weight_on, word, max_weight, initial_world}
use Rattle.pin_core.specs.Events.{CanAll, after_all}
use Rattle.pin_table.specs.declared.view.ReleasedPin.{ReleasedPin}
use Rattle.pin_table.specs.declared.view.KeeperView.{KeeperView}
use Rattle.pin_table.specs.declared.view.View.{View}
use Rattle.pin_table.specs.declared.view.View.TheVariants.{Keeper, Pin, Left, Empty}

-- the keeper's view from its rows, bounds, numbers of looks, weights ever lent, and pin in transit
abbrev pub keeper_view : List PinRow → List ℕ → List ℕ → List ℕ → Option PinRecord → KeeperView
keeper_view rows bounds looks lent transit = record { rows = rows; bounds = bounds; looks = looks; lent = lent; transit = transit }

-- a pin that was released after this number of looks at its slot
abbrev pub released_pin : PinRecord → ℕ → ReleasedPin
released_pin h look = record { hold = h; look = look }

-- the list with n added to its element k
abbrev pub with_added : ℕ → ℕ → List ℕ → List ℕ
with_added k n l = slice_set l k (slice_index l k + n)

-- the number of the keeper's looks at each slot, or no numbers for another seat
abbrev pub looks_by : View → List ℕ
looks_by (Keeper v) = v.looks
looks_by (Pin h) = []
looks_by (Left g) = []
looks_by Empty = []

-- the weight that the keeper ever lent on each slot, or no weights for another seat
abbrev pub lent_by : View → List ℕ
lent_by (Keeper v) = v.lent
lent_by (Pin h) = []
lent_by (Left g) = []
lent_by Empty = []

-- the pin in transit as a list of at most one
abbrev pub in_transit : Option PinRecord → List PinRecord
in_transit None = []
in_transit (Some h) = h ∷ []

-- the pins of a seat: the keeper's pin in transit, or the seat's own pin
abbrev pub holds_in : View → List PinRecord
holds_in (Keeper v) = in_transit v.transit
holds_in (Pin h) = h ∷ []
holds_in (Left g) = []
holds_in Empty = []

-- the pins of all seats
abbrev pub all_holds : List View → List PinRecord
all_holds [] = []
all_holds (v ∷ vs) = holds_in v ++ all_holds vs

-- the seat is not the keeper's
abbrev pub IsPinSeat : View → Type 0
IsPinSeat (Keeper v) = ⊥
IsPinSeat (Pin h) = Unit {0}
IsPinSeat (Left g) = Unit {0}
IsPinSeat Empty = Unit {0}

-- ---- weights that were lent, are present, and were released

-- the weight that a seat's released pin had on the slot k
abbrev pub released_weight : ℕ → View → ℕ
released_weight k (Keeper v) = 0
released_weight k (Pin h) = 0
released_weight k (Left g) = weight_at k g.hold
released_weight k Empty = 0

-- the weight that a seat's pin had on the slot k, if it was released after this number of looks
abbrev pub released_weight_since : ℕ → ℕ → View → ℕ
released_weight_since k look (Keeper v) = 0
released_weight_since k look (Pin h) = 0
released_weight_since k look (Left g) = cond (g.look == look) (weight_at k g.hold) 0
released_weight_since k look Empty = 0

-- a seat's released pin records no more looks than the keeper made at its slot
abbrev pub IsPast : List ℕ → View → Type 0
IsPast looks (Keeper v) = Unit {0}
IsPast looks (Pin h) = Unit {0}
IsPast looks (Left g) = g.look ≤ slice_index looks g.hold.slot
IsPast looks Empty = Unit {0}

-- The weights ever lent and the bounds of n slots are those of the present pins and of the released ones.
pub record Accounts (n : ℕ) (bounds looks lent : List ℕ) (others : List View) (holds : List PinRecord) : Type 0 where
  pub all_bounds : length bounds ≡ n
  pub all_looks : length looks ≡ n
  pub all_lent : length lent ≡ n
  -- the weight ever lent on a slot is the present weight plus all released weight
  pub at_lent : (k : ℕ) → k < n → slice_index lent k ≡ weight_on k holds + sum_by (released_weight k) others
  -- the bound of a slot is the present weight plus the weight released since the last look
  pub at_bounds : (k : ℕ) → k < n → slice_index bounds k ≡ weight_on k holds + sum_by (released_weight_since k (slice_index looks k)) others
  pub past : All (IsPast looks) others

-- The words and the seats' views agree with the pin world w.
pub record Agrees (words : List ℕ) (views : List View) (w : PinWorld) : Type 0 where
  -- the first seat is the keeper's, and no other is
  pub keeper : KeeperView
  pub others : List View
  pub seats : views ≡ Keeper keeper ∷ others
  pub guests : All IsPinSeat others
  -- the world's rows are the keeper's, and its pins are those of the seats, in any order
  pub rows : w.rows ≡ keeper.rows
  pub pins : IsPermutation (all_holds views) (holds_of w)
  -- the world is well-formed
  pub state : IsState w
  -- there is a word for each slot, and it is the world's
  pub all_words : length words ≡ length w.rows
  pub at_words : (k : ℕ) → k < length w.rows → slice_index words k ≡ word w k
  -- the weights lent and the bounds are those of the world's pins and of the released pins
  pub accounts : Accounts (length w.rows) keeper.bounds keeper.looks keeper.lent others (holds_of w)
  pub limits : (k : ℕ) → k < length w.rows → slice_index keeper.bounds k ≤ max_weight

-- The rule: some legal events lead from n free slots of generation g to a world with which words and seats agree.
pub record Ruled (n g : ℕ) (words : List ℕ) (views : List View) : Type 0 where
  pub events : List Event
  pub happen : CanAll (initial_world n g) events
  pub agrees : Agrees words views (after_all (initial_world n g) events)

-- the keeper's view of n free slots of generation g
abbrev pub initial_view : ℕ → ℕ → View
initial_view n g = Keeper (keeper_view (initial_world n g).rows (replicate n 0) (replicate n 0) (replicate n 0) None)
