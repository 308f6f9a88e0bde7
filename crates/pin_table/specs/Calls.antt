-- The contracts' views of the keeper and of a pin, and the changes that calls make.
use Rattle.std.specs.Prelude.{◌≡◌, ℕ, ◌+◌, ◌<◌, ◌≤◌, replicate, List, slice_set, slice_index, Some, Result, MatchResult}
use Rattle.atomic_table.specs.Seated.{TableId}
use Rattle.blob_digest.specs.declared.refusal.Refusal.{Refusal}
use Rattle.blob_digest.specs.declared.refusal.Refusal.TheVariants.{TooManyReaders}
use Rattle.spec_lib.specs.Texts.{Text}
use Rattle.pin_core.specs.declared.world.Phase.{Phase}
use Rattle.pin_core.specs.declared.world.PinRow.{PinRow}
use Rattle.pin_core.specs.declared.world.PinRecord.{PinRecord}
use Rattle.pin_core.specs.World.{IsValidPin, row, row_word, initial_world, max_weight}
use Rattle.pin_core.specs.Events.{IsBeyond, new_weight, last_generation, given_row, in_phase, reclaimed_row, lent_hold, half}
use Rattle.pin_table.specs.declared.view.View.{View}
use Rattle.pin_table.specs.Rule.{with_added}
use Rattle.pin_table.specs.declared.reclaim.Reclaim.{Reclaim}
use Rattle.pin_table.specs.declared.reclaim.Reclaim.TheVariants.{Freed, Retired, Held}

-- the keeper: its table, and by slot number its rows, its bounds on sums of weights, its numbers of looks, and the weights that it ever lent
pub record KeeperValue : Type 0 where
  pub table : TableId
  pub rows : List PinRow
  pub bounds : List ℕ
  pub looks : List ℕ
  pub lent : List ℕ

-- a pin: its table, and its contents
pub record PinValue : Type 0 where
  pub table : TableId
  pub hold : PinRecord

-- a seat: its table and its view
pub record SeatValue : Type 0 where
  pub table : TableId
  pub view : View

-- the seat of the table t with the view u
abbrev pub seat_value : TableId → View → SeatValue
seat_value t u = record { table = t; view = u }

-- the keeper of a new table of n free slots of generation g
abbrev pub opening_keeper : TableId → ℕ → ℕ → KeeperValue
opening_keeper t n g = record { table = t; rows = (initial_world n g).rows; bounds = replicate n 0; looks = replicate n 0; lent = replicate n 0 }

-- the table t has n slots, of 1 to a greatest number, and its keeper is s, with free slots of generation g
abbrev pub IsNewTable : ℕ → ℕ → ℕ → TableId → KeeperValue → Type 0
IsNewTable greatest n g t s = ¬ IsBeyond greatest n × (s ≡ opening_keeper t n g)

-- the keeper with another row and bound for the slot k, after one more look at it
abbrev pub with_row_and_bound : ℕ → PinRow → ℕ → KeeperValue → KeeperValue
with_row_and_bound k r b s = record { table = s.table; rows = slice_set s.rows k r; bounds = slice_set s.bounds k b; looks = with_added k 1 s.looks; lent = s.lent }

-- the keeper with another row for the slot k
abbrev pub with_keeper_row : ℕ → PinRow → KeeperValue → KeeperValue
with_keeper_row k r s = record { table = s.table; rows = slice_set s.rows k r; bounds = s.bounds; looks = s.looks; lent = s.lent }

-- the keeper after it gave the free slot k the digest d
abbrev pub with_digest : ℕ → Text → KeeperValue → KeeperValue
with_digest k d s = with_row_and_bound k (given_row d (row s.rows k)) 0 s

-- the keeper with the slot k in another phase
abbrev pub with_phase : ℕ → Phase → KeeperValue → KeeperValue
with_phase k p s = with_keeper_row k (in_phase p (row s.rows k)) s

-- the keeper after it lent a new pin on the slot k, with the bound b
abbrev pub after_lend : ℕ → ℕ → KeeperValue → KeeperValue
after_lend k b s = record { table = s.table; rows = s.rows; bounds = slice_set s.bounds k b; looks = s.looks; lent = with_added k new_weight s.lent }

-- the keeper after one more look at the slot k, with the sum that it found as the bound
abbrev pub after_look : ℕ → ℕ → KeeperValue → KeeperValue
after_look k weight s = record { table = s.table; rows = s.rows; bounds = slice_set s.bounds k weight; looks = with_added k 1 s.looks; lent = s.lent }

-- a look at the slot k found the word n, which is that of the slot's row with a sum within the bound
pub record FindsWord (k n : ℕ) (s t : KeeperValue) : Type 0 where
  pub weight : ℕ
  pub word : n ≡ row_word (row s.rows k) weight
  pub within : weight ≤ slice_index s.bounds k
  pub fits : weight ≤ max_weight
  pub after : t ≡ after_look k weight s
  pub bound : slice_index t.bounds k ≡ weight

-- the keeper after it lent a new pin on the slot k
abbrev pub with_new_pin : ℕ → KeeperValue → KeeperValue
with_new_pin k s = after_lend k (slice_index s.bounds k + new_weight) s

-- the new pin on the slot k
abbrev pub lent_pin : ℕ → KeeperValue → PinValue
lent_pin k s = record { table = s.table; hold = lent_hold k (row s.rows k) }

-- a new pin with the row's generation and digest was lent on the slot k, whose sum had room for it
pub record LendsPin (k : ℕ) (s t : KeeperValue) (p : PinValue) : Type 0 where
  pub weight : ℕ
  pub within : weight ≤ slice_index s.bounds k
  pub room : weight + new_weight ≤ max_weight
  pub after : t ≡ after_lend k (weight + new_weight) (after_look k weight s)
  pub pin : p ≡ lent_pin k s
  pub digest : (row s.rows k).digest ≡ Some p.hold.digest

-- the sum that a look found on the slot k leaves no room for a new pin
pub record HasNoRoomForPin (k : ℕ) (s t : KeeperValue) : Type 0 where
  pub weight : ℕ
  pub within : weight ≤ slice_index s.bounds k
  pub full : max_weight < weight + new_weight
  pub after : t ≡ after_look k weight s

-- the result of lending a pin on the slot k: a pin, or `TooManyReaders` if the sum that was found leaves no room
abbrev pub IsLendResult : ℕ → KeeperValue → KeeperValue → Result PinValue Refusal → Type 0
IsLendResult k s t found = MatchResult found (λ p. LendsPin k s t p) (λ e. (e ≡ TooManyReaders) × HasNoRoomForPin k s t)

-- the result of reclaiming the slot k: freed, retired in the last generation, or held by the sum that was found
abbrev pub IsReclaimResult : ℕ → KeeperValue → KeeperValue → Reclaim → Type 0
IsReclaimResult k s t Freed = ((row s.rows k).generation < last_generation) × (t ≡ with_row_and_bound k (reclaimed_row (row s.rows k)) 0 s)
IsReclaimResult k s t Retired = ((row s.rows k).generation ≡ last_generation) × (t ≡ with_row_and_bound k (reclaimed_row (row s.rows k)) 0 s)
IsReclaimResult k s t (Held weight) = (0 < weight) × (weight ≤ slice_index s.bounds k) × (t ≡ after_look k weight s)

-- the result is not that pins hold the slot
abbrev pub IsUnheld : Reclaim → Type 0
IsUnheld Freed = Unit {0}
IsUnheld Retired = Unit {0}
IsUnheld (Held weight) = ⊥

-- a pin with half its weight
abbrev pub halved_pin : PinValue → PinValue
halved_pin p = record { table = p.table; hold = half p.hold }

-- the result of sharing the pin p: two pins of half its weight, or p itself if it weighs 1
abbrev pub IsShareResult : PinValue → Result (PinValue × PinValue) PinValue → Type 0
IsShareResult p found = MatchResult found (λ q. (q.0 ≡ halved_pin p) × (q.1 ≡ halved_pin p)) (λ e. (e ≡ p) × (p.hold.weight ≡ 1))

-- the pin h is valid, and a look at its slot found a sum within the bound
pub record VerifiesPin (h : PinRecord) (s t : KeeperValue) : Type 0 where
  pub keeps : IsValidPin s.rows h
  pub weight : ℕ
  pub within : weight ≤ slice_index s.bounds h.slot
  pub after : t ≡ after_look h.slot weight s
