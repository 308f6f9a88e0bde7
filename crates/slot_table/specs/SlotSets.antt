-- The members of a set of slots, and the set of the slots whose blob has no links.
use Rattle.std.specs.Prelude.{◌≡◌, ◌≢◌, ℕ, ◌*◌, ◌/◌, ◌%◌, ◌<◌, ◌≤◌, ◌==◌, if◌then◌else◌, Bool, true, false, List, length, slice_get, slice_index}
use Rattle.std.specs.Option.{option_map_or}
use Rattle.std.specs.Int.{bit_at}
use Rattle.slot_table.specs.Slots.{Slot, is_orphan}

-- the set of these words of 64 bits has the number k
abbrev pub contains_slot : List ℕ → ℕ → Bool
contains_slot words k = bit_at (slice_index words (k / 64)) (k % 64) == 1

-- slot k holds a blob without links; false if there is no such slot
abbrev pub is_orphan_at : List Slot → ℕ → Bool
is_orphan_at slots k = option_map_or is_orphan (slice_get slots k) false

-- the set has exactly the slots whose blob has no links, and a bit for each slot
pub record HasOrphans (slots : List Slot) (words : List ℕ) : Type 0 where
  pub each : (k : ℕ) → contains_slot words k ≡ is_orphan_at slots k
  pub roomy : length slots ≤ 64 * length words

-- r is the first set bit of the word from bit `from` on
abbrev pub IsFirstBit : ℕ → ℕ → ℕ → Type 0
IsFirstBit word from r = (from ≤ r) × (r < 64) × (bit_at word r ≡ 1) × ((i : ℕ) → from ≤ i → i < r → bit_at word i ≡ 0)

-- r is the index of the first word from `from` on that is not 0
abbrev pub IsFirstWord : List ℕ → ℕ → ℕ → Type 0
IsFirstWord words from r = (from ≤ r) × (r < length words) × (slice_index words r ≢ 0) × ((w : ℕ) → from ≤ w → w < r → slice_index words w ≡ 0)

-- r is the first member of the set from `from` on
abbrev pub IsFirstMember : List ℕ → ℕ → ℕ → Type 0
IsFirstMember words from r = (from ≤ r) × (contains_slot words r ≡ true) × ((k : ℕ) → from ≤ k → k < r → contains_slot words k ≡ false)

-- the slot is a member of the new set if `is_in` is true, and the other members are unchanged
abbrev pub SetsMember : List ℕ → List ℕ → ℕ → Bool → Type 0
SetsMember old new slot is_in = (k : ℕ) → contains_slot new k ≡ (if k == slot then is_in else contains_slot old k)
