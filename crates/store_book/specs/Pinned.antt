-- The slots with the keeper of their words: the facts on which the two agree, and the view that contracts have of them.
use Rattle.pin_core.specs.World.{row, row_word, max_weight, IsValidPin}
use Rattle.pin_core.specs.declared.world.PinRecord.{PinRecord}
use Rattle.pin_core.specs.Events.{new_weight, lent_hold, IsBeyond, RefusesNumber}
use Rattle.blob_digest.specs.declared.refusal.Refusal.{Refusal}
use Rattle.blob_digest.specs.declared.refusal.Refusal.TheVariants.{LimitReached, Memory, StoreFull, TooManyReaders}
use Rattle.pin_table.specs.Calls.{IsUnheld, PinValue}
use Rattle.pin_table.specs.Rule.{with_added}
use Rattle.pin_table.specs.declared.reclaim.Reclaim.{Reclaim}
use Rattle.pin_table.specs.declared.reclaim.Reclaim.TheVariants as reclaim
use Rattle.std.specs.Prelude.{◌≡◌, ◌+◌, ◌<◌, ◌≤◌, ◌^◌, ◌⊎◌, ℕ, Option, Some, Result, MatchResult, List, [], ◌∷◌, length, map, cond, replicate, slice_get, slice_index, slice_set, Bool, false}
use Rattle.std.specs.Option.{option_map, option_map_or}
use Rattle.blob_digest.specs.Slots.{greatest_slots}
use Rattle.atomic_table.specs.Seated.{TableId}
use Rattle.pin_core.specs.declared.world.Phase.{Phase}
use Rattle.pin_core.specs.declared.world.Phase.TheVariants as pin
use Rattle.pin_core.specs.declared.world.PinRow.{PinRow}
use Rattle.slot_table.specs.Slots.{Slot, StoredBlob, SlotContent, Free, Used, Retired, empty_slot, free_slots, stored_blob_in, stored_blob_at, is_orphan, phase_in, generation_at, with_slot, on_stored_blob, lend, freed_slot, retire}
use Rattle.spec_lib.specs.Texts.{Text}
use Rattle.store_book.specs.BookState.{SlotView}
use Rattle.store_book.specs.SlotSteps.{EachSlot, KeepsGeneration}

-- the keeper's phase of a slot with this content
abbrev pub pin_phase : SlotContent → Phase
pin_phase Free = pin.Free
pin_phase (Used h) = cond h.condemned pin.Condemned pin.Live
pin_phase Retired = pin.Retired

-- the keeper's row of a slot
abbrev pub row_of : Slot → PinRow
row_of s = record { generation = s.generation; phase = pin_phase s.content; digest = option_map (λ h. h.digest) (stored_blob_in s.content) }

-- the table of the words, the slots, and for each slot the bound on its readers' weights and the number of looks
pub record Pinned : Type 0 where
  pub table : TableId
  pub slots : List Slot
  pub bounds : List ℕ
  pub looks : List ℕ

-- the keeper's rows are those of the slots, and the bound of a used slot that was never leased is 0
pub record IsPinned (slots : List Slot) (rows : List PinRow) (bounds : List ℕ) : Type 0 where
  pub same_rows : rows ≡ map row_of slots
  pub one_each : length bounds ≡ length slots
  pub unlent : (k : ℕ) (h : StoredBlob) → stored_blob_at slots k ≡ Some h → h.lent ≡ false → slice_index bounds k ≡ 0

-- whether the slot k holds a blob without links
abbrev pub is_orphan_at : List Slot → ℕ → Bool
is_orphan_at slots k = option_map_or is_orphan (slice_get slots k) false

-- ---- the view of the slots

-- the view of a slot with this bound and no looks
abbrev pub slot_view : Slot → ℕ → SlotView
slot_view s bound = record { generation = s.generation; phase = phase_in s.content; digest = option_map (λ h. h.digest) (stored_blob_in s.content); bound = bound; looks = 0 }

-- the view of each slot with its bound
abbrev pub slot_views : List Slot → List ℕ → List SlotView
slot_views [] bounds = []
slot_views (s ∷ slots) [] = slot_view s 0 ∷ slot_views slots []
slot_views (s ∷ slots) (b ∷ bounds) = slot_view s b ∷ slot_views slots bounds

-- the views with these numbers of looks
abbrev pub with_looks : List ℕ → List SlotView → List SlotView
with_looks looks [] = []
with_looks [] (s ∷ slots) = record s { looks = 0 } ∷ with_looks [] slots
with_looks (n ∷ looks) (s ∷ slots) = record s { looks = n } ∷ with_looks looks slots

-- the view of all slots
abbrev pub slot_views_of : Pinned → List SlotView
slot_views_of p = with_looks p.looks (slot_views p.slots p.bounds)

-- the table and the view of the slots are unchanged
abbrev pub KeepsView : Pinned → Pinned → Type 0
KeepsView p q = (q.table ≡ p.table) × (slot_views_of q ≡ slot_views_of p)

-- each slot has one bound and one count of looks
abbrev pub HasOneEach : Pinned → Type 0
HasOneEach p = (length p.bounds ≡ length p.slots) × (length p.looks ≡ length p.slots)

-- the blob that the slot k holds
abbrev pub blob_at : List Slot → ℕ → Option (Text × Text)
blob_at slots k = option_map (λ h. (h.digest, h.bytes)) (stored_blob_at slots k)

-- ---- opening

-- free slots of the first generation that were never looked at, with the table of their words
abbrev pub free_pinned : TableId → ℕ → ℕ → Pinned
free_pinned table n first = record { table = table; slots = replicate n (empty_slot first); bounds = replicate n 0; looks = replicate n 0 }

-- these are free slots of the first generation, as many as the limits allow
abbrev pub OpensSlots : Pinned → TableId → ℕ → ℕ → Type 0
OpensSlots p table n first = ¬ IsBeyond greatest_slots n × (p ≡ free_pinned table n first)

-- the number of slots is beyond its limits, or it is not and the call is out of memory
abbrev pub RefusesSlots : Refusal → ℕ → Type 0
RefusesSlots e n = RefusesNumber greatest_slots n e

-- the error is `StoreFull`, and no slot is free
abbrev pub RefusesForSlots : Refusal → Pinned → Type 0
RefusesForSlots e p = (e ≡ StoreFull) × (free_slots p.slots ≡ 0)

-- ---- changes by calls

-- after one look at the slot k, the slot changes and its bound is b
abbrev pub with_slot_and_bound : ℕ → (Slot → Slot) → ℕ → Pinned → Pinned
with_slot_and_bound k f b p = record { table = p.table; slots = with_slot p.slots k f; bounds = slice_set p.bounds k b; looks = with_added k 1 p.looks }

-- the slot k changes, and its bound and looks do not
abbrev pub with_changed_slot : ℕ → (Slot → Slot) → Pinned → Pinned
with_changed_slot k f p = record { table = p.table; slots = with_slot p.slots k f; bounds = p.bounds; looks = p.looks }

-- a look at the slot k found the sum b, which is its new bound
abbrev pub with_bound : ℕ → ℕ → Pinned → Pinned
with_bound k b p = record { table = p.table; slots = p.slots; bounds = slice_set p.bounds k b; looks = with_added k 1 p.looks }

-- after one look at the slot k, its blob is marked as leased and its bound is b
abbrev pub with_lease_on : ℕ → ℕ → Pinned → Pinned
with_lease_on k b p = record { table = p.table; slots = with_slot p.slots k (on_stored_blob lend); bounds = slice_set p.bounds k b; looks = with_added k 1 p.looks }

-- the table is unchanged, each slot keeps its generation, and no bound rises
pub record KeepsGenerations (p q : Pinned) : Type 0 where
  pub table : q.table ≡ p.table
  pub slots : EachSlot KeepsGeneration (slot_views p.slots p.bounds) (slot_views q.slots q.bounds)

-- ---- pins

-- a new pin on the slot k
abbrev pub pin_on : ℕ → Pinned → PinValue
pin_on k p = record { table = p.table; hold = lent_hold k (row (map row_of p.slots) k) }

-- this new pin is on the slot k, whose blob is marked as leased, and the bound rises by at most the pin's weight
pub record LendsPinOn (k : ℕ) (p q : Pinned) (pin : PinValue) : Type 0 where
  pub bound : ℕ
  pub within : bound ≤ slice_index p.bounds k + new_weight
  pub after : q ≡ with_lease_on k bound p
  pub is : pin ≡ pin_on k p
  pub digest : (row (map row_of p.slots) k).digest ≡ Some pin.hold.digest

-- a look at the slot k found a sum that leaves no room for a pin, and that is the new bound
pub record FindsFullSlot (k : ℕ) (p q : Pinned) : Type 0 where
  pub weight : ℕ
  pub within : weight ≤ slice_index p.bounds k
  pub full : max_weight < weight + new_weight
  pub after : q ≡ with_bound k weight p

-- the call makes a pin on the slot k, or finds no room for one
abbrev pub LendsOn : Result PinValue Refusal → ℕ → Pinned → Pinned → Type 0
LendsOn result k p q = MatchResult result (λ pin. LendsPinOn k p q pin) (λ e. (e ≡ TooManyReaders) × FindsFullSlot k p q)

-- a look read the word n of the slot k: that of its row, with a sum within the bound, which is the new bound
pub record ReadsSlotWord (k n : ℕ) (p q : Pinned) : Type 0 where
  pub weight : ℕ
  pub word : n ≡ row_word (row (map row_of p.slots) k) weight
  pub within : weight ≤ slice_index p.bounds k
  pub after : q ≡ with_bound k weight p
  pub bound : slice_index q.bounds k ≡ weight

-- the condemned slot k is free in its next generation, retired in the last one, or held by pins of this sum within the bound
abbrev pub ReclaimsSlot : ℕ → Pinned → Pinned → Reclaim → Type 0
ReclaimsSlot k p q reclaim.Freed = (generation_at p.slots k + 1 < 2 ^ 32) × (q ≡ with_slot_and_bound k freed_slot 0 p)
ReclaimsSlot k p q reclaim.Retired = (generation_at p.slots k + 1 ≡ 2 ^ 32) × (q ≡ with_slot_and_bound k retire 0 p)
ReclaimsSlot k p q (reclaim.Held weight) = (0 < weight) × (weight ≤ slice_index p.bounds k) × (q ≡ with_bound k weight p)

-- pins hold the slot k only if its blob was ever leased
abbrev pub UnheldIfNeverLent : ℕ → Pinned → Reclaim → Type 0
UnheldIfNeverLent k p reclaimed = (h : StoredBlob) → stored_blob_at p.slots k ≡ Some h → h.lent ≡ false → IsUnheld reclaimed

-- the pin's slot is in use, in the pin's generation and with its digest, and its bound does not rise
pub record VerifiesPin (h : PinRecord) (p q : Pinned) : Type 0 where
  pub keeps : IsValidPin (map row_of p.slots) h
  pub weight : ℕ
  pub within : weight ≤ slice_index p.bounds h.slot
  pub after : q ≡ with_bound h.slot weight p

-- the digest of a blob
abbrev pub blob_digest : Text × Text → Text
blob_digest blob = blob.0

-- the bytes of a blob
abbrev pub blob_bytes : Text × Text → Text
blob_bytes blob = blob.1
