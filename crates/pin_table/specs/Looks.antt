-- The theorem that a look is true: the sum that it finds was in the slot's word at a moment of the call.
use Rattle.std.specs.Prelude.{◌≡◌, ℕ, ◌+◌, ◌<◌, ◌≤◌, ◌⊎◌, List, [], ◌∷◌, ◌++◌, length, sum_by, slice_index, slice_set, None, IsPermutation}
use mathlib.Core.Option.{some}
use lib.ListN.{get_elem?}
use Rattle.pin_core.specs.declared.world.PinRecord.{PinRecord}
use Rattle.pin_core.specs.World.{row, row_word, weight_on}
use Rattle.pin_core.specs.Events.{half}
use Rattle.pin_table.specs.declared.view.KeeperView.{KeeperView}
use Rattle.pin_table.specs.declared.view.View.{View}
use Rattle.pin_table.specs.declared.view.View.TheVariants.{Keeper, Left, Pin}
use Rattle.pin_table.specs.Rule.{Ruled, all_holds, released_pin, released_weight}

-- ---- one step

-- after a step of the keeper's seat that counts one more look at the slot k, the slot's word is that of its row with the bound as the sum
abbrev pub FoundByStep : ℕ → ℕ → Type 0
FoundByStep n g = (words words' : List ℕ) (v u : KeeperView) (others : List View) (k : ℕ) → Ruled n g words (Keeper v ∷ others) → Ruled n g words' (Keeper u ∷ others) → k < length u.rows → slice_index u.looks k ≡ slice_index v.looks k + 1
    → slice_index words' k ≡ row_word (row u.rows k) (slice_index u.bounds k)

-- a pin that leaves by a step of any kind records the number of looks at its slot at that time
abbrev pub LeftByStep : ℕ → ℕ → Type 0
LeftByStep n g = (words words' : List ℕ) (v : KeeperView) (others : List View) (place : ℕ) (h : PinRecord) (look : ℕ) → get_elem? others place ≡ some (Pin h) → Ruled n g words (Keeper v ∷ others)
    → Ruled n g words' (Keeper v ∷ slice_set others place (Left (released_pin h look))) → look ≡ slice_index v.looks h.slot

-- ---- a call of any steps

-- A moment of a call: the words, the keeper's view, the call's own seats, and the seats of others.
pub record CallMoment : Type 0 where
  pub words : List ℕ
  pub keeper : KeeperView
  pub own : List View
  pub others : List View

-- The rule holds at the moment m, for a table of n slots that began in the generation g.
pub record IsUnderRule (n g : ℕ) (m : CallMoment) : Type 0 where
  pub seats : List View
  pub order : IsPermutation seats (m.own ++ m.others)
  pub ruled : Ruled n g m.words (Keeper m.keeper ∷ seats)

-- The moment x follows m by a step of the call, or by a step of another seat whose pin leaves or is shared.
pub data Follows (m x : CallMoment) : Type 0 where
  by_call : x.others ≡ m.others → Follows m x
  by_leave : (place : ℕ) (h : PinRecord) (look : ℕ) → get_elem? m.others place ≡ some (Pin h) → x.others ≡ slice_set m.others place (Left (released_pin h look)) → x.keeper ≡ m.keeper → x.own ≡ m.own → Follows m x
  by_share : (place : ℕ) (h : PinRecord) → get_elem? m.others place ≡ some (Pin h) → x.others ≡ slice_set m.others place (Pin (half h)) ++ Pin (half h) ∷ [] → x.keeper ≡ m.keeper → x.own ≡ m.own → Follows m x

-- m and the list after it are the moments of a call
abbrev pub IsCall : ℕ → ℕ → CallMoment → List CallMoment → Type 0
IsCall n g m [] = IsUnderRule n g m
IsCall n g m (x ∷ xs) = IsUnderRule n g m × Follows m x × IsCall n g x xs

-- the last moment of a call
abbrev pub last_moment : CallMoment → List CallMoment → CallMoment
last_moment m [] = m
last_moment m (x ∷ xs) = last_moment x xs

-- the weight of these seats' pins on the slot k
abbrev pub seats_on : ℕ → List View → ℕ
seats_on k views = weight_on k (all_holds views)

-- the pins of others had this weight on the slot k at one of these moments
abbrev pub WeighedAtSomeMoment : ℕ → ℕ → List CallMoment → Type 0
WeighedAtSomeMoment k weight [] = ⊥
WeighedAtSomeMoment k weight (x ∷ xs) = (seats_on k x.others ≡ weight) ⊎ WeighedAtSomeMoment k weight xs

-- After a call that counts one more look at the slot k and has all pins that it had or lent, the bound is their weight plus the weight of others' pins at a moment of the call.
abbrev pub FoundByCall : ℕ → ℕ → Type 0
FoundByCall n g = (m : CallMoment) (xs : List CallMoment) (k back : ℕ) → IsCall n g m xs → k < n → m.keeper.transit ≡ None → (last_moment m xs).keeper.transit ≡ None → sum_by (released_weight k) m.own ≡ 0 → slice_index (last_moment m xs).keeper.looks k ≡ slice_index m.keeper.looks k + 1
    → slice_index (last_moment m xs).keeper.lent k + seats_on k m.own ≡ slice_index m.keeper.lent k + back → back ≤ seats_on k (last_moment m xs).own → (weight : ℕ) × WeighedAtSomeMoment k weight xs × (slice_index (last_moment m xs).keeper.bounds k ≡ weight + back)

-- ---- a call on a pin

-- The moment x of a call on a pin follows m by a step of the call's own seats, or by a step of the keeper or of others.
abbrev pub FollowsPin : CallMoment → CallMoment → Type 0
FollowsPin m x = ((x.keeper ≡ m.keeper) × (x.others ≡ m.others)) ⊎ (x.own ≡ m.own)

-- m and the list after it are the moments of a call on a pin
abbrev pub IsPinCall : ℕ → ℕ → CallMoment → List CallMoment → Type 0
IsPinCall n g m [] = IsUnderRule n g m
IsPinCall n g m (x ∷ xs) = IsUnderRule n g m × FollowsPin m x × IsPinCall n g x xs

-- If a call on a pin ends with a seat that records this pin as released, nothing of the pin remains in its slot's word.
abbrev pub EndedByCall : ℕ → ℕ → Type 0
EndedByCall n g = (m : CallMoment) (xs : List CallMoment) (h : PinRecord) (place look : ℕ) → IsPinCall n g m xs → h.slot < n → m.own ≡ Pin h ∷ [] → get_elem? (last_moment m xs).own place ≡ some (Left (released_pin h look)) → seats_on h.slot (last_moment m xs).own ≡ 0

-- The four facts about looks hold for every table.
pub record LooksAreTrue : Type 0 where
  pub found : (n g : ℕ) → FoundByStep n g
  pub left : (n g : ℕ) → LeftByStep n g
  pub called : (n g : ℕ) → FoundByCall n g
  pub ended : (n g : ℕ) → EndedByCall n g
