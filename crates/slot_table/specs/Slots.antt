-- The slots of a store: their contents, and the queries and changes of them.
use Rattle.std.specs.Prelude.{◌≡◌, ◌≢◌, ℕ, ◌+◌, ◌==◌, ◌≤◌, ◌&&◌, ◌++◌, Bool, true, false, Option, Some, None, Result, Ok, Err, List, length, count_by, position, slice_get, slice_set, ◌-◌, cond, replicate, drop, nat_le, if◌then◌else◌}
use Rattle.std.specs.Option.{option_map_or, option_map}
use Rattle.blob_digest.specs.Slots.{greatest_slots}
use Rattle.spec_lib.specs.Texts.{Text, same_text}
use Rattle.blob_digest.specs.declared.refusal.Refusal.{Refusal}
use Rattle.blob_digest.specs.declared.refusal.Refusal.TheVariants.{LimitReached, Memory, StoreFull}
use Rattle.slot_table.specs.declared.phase.Phase.{Phase}
use Rattle.slot_table.specs.declared.phase.Phase.TheVariants as phase

-- a stored blob, with the marks condemned and ever leased, and its number of links
pub record StoredBlob : Type 0 where
  pub digest : Text
  pub bytes : Text
  pub condemned : Bool
  pub lent : Bool
  pub links : ℕ

-- the content of a slot
pub data SlotContent : Type 0 where
  Free : SlotContent
  Used : StoredBlob → SlotContent
  Retired : SlotContent

-- a slot: its generation and its content
pub record Slot : Type 0 where
  pub generation : ℕ
  pub content : SlotContent

-- the blob of a used slot with its marks and its links
abbrev pub stored_blob_in : SlotContent → Option StoredBlob
stored_blob_in Free = None
stored_blob_in (Used h) = Some h
stored_blob_in Retired = None

-- the blob of a used slot, as its digest and its bytes
abbrev pub blob_in : SlotContent → Option (Text × Text)
blob_in c = option_map (λ h. (h.digest, h.bytes)) (stored_blob_in c)

-- the slot is free
abbrev pub is_free : Slot → Bool
is_free s = elim s.content [ Free ↦ true | Used h ↦ false | Retired ↦ false ]

-- the slot is retired
abbrev pub is_retired : Slot → Bool
is_retired s = elim s.content [ Free ↦ false | Used h ↦ false | Retired ↦ true ]

-- the phase of a slot with this content
abbrev pub phase_in : SlotContent → Phase
phase_in Free = phase.Free
phase_in (Used h) = cond h.condemned phase.Condemned phase.Live
phase_in Retired = phase.Retired

-- the number of links to the blob of a slot
abbrev pub links_in : SlotContent → ℕ
links_in c = option_map_or (λ h. h.links) (stored_blob_in c) 0

-- the slot holds the blob of a digest
abbrev pub has_digest : Text → Slot → Bool
has_digest digest s = option_map_or (λ h. same_text h.digest digest) (stored_blob_in s.content) false

-- the slot that holds the blob of a digest
abbrev pub slot_of : List Slot → Text → Option ℕ
slot_of slots digest = position (has_digest digest) slots

-- the number of free slots
abbrev pub free_slots : List Slot → ℕ
free_slots slots = count_by is_free slots

-- the phase of slot k, or Retired if there is no such slot
abbrev pub phase_at : List Slot → ℕ → Phase
phase_at slots k = option_map_or (λ s. phase_in s.content) (slice_get slots k) phase.Retired

-- the blob of slot k with its marks and its links
abbrev pub stored_blob_at : List Slot → ℕ → Option StoredBlob
stored_blob_at slots k = option_map_or (λ s. stored_blob_in s.content) (slice_get slots k) None

-- the blob of slot k, as its digest and its bytes
abbrev pub blob_at : List Slot → ℕ → Option (Text × Text)
blob_at slots k = option_map (λ h. (h.digest, h.bytes)) (stored_blob_at slots k)

-- the number of links to the blob of slot k
abbrev pub links_at : List Slot → ℕ → ℕ
links_at slots k = option_map_or (λ h. h.links) (stored_blob_at slots k) 0

-- the generation of slot k
abbrev pub generation_at : List Slot → ℕ → ℕ
generation_at slots k = option_map_or (λ s. s.generation) (slice_get slots k) 0

-- the slot holds a blob without links
abbrev pub is_orphan : Slot → Bool
is_orphan s = option_map_or (λ h. h.links == 0) (stored_blob_in s.content) false

-- the first slot from k on that holds a blob without links
abbrev pub orphan_from : List Slot → ℕ → Option ℕ
orphan_from slots k = option_map (λ i. k + i) (position is_orphan (drop k slots))

-- the error, unless it is `Memory`, is `StoreFull`, and no slot is free
abbrev pub RefusesFull : List Slot → Refusal → Type 0
RefusesFull slots e = e ≢ Memory → (e ≡ StoreFull) × (free_slots slots ≡ 0)

-- ---- changes

-- the slots with slot k changed by f
abbrev pub with_slot : List Slot → ℕ → (Slot → Slot) → List Slot
with_slot slots k f = option_map_or (λ s. slice_set slots k (f s)) (slice_get slots k) slots

-- a free slot of a generation
abbrev pub empty_slot : ℕ → Slot
empty_slot generation = record { generation = generation; content = Free }

-- n slots: those with rows, and after them free slots of a generation
abbrev pub padded_slots : ℕ → ℕ → List Slot → List Slot
padded_slots n generation rows = rows ++ replicate (n - length rows) (empty_slot generation)

-- the slots of a new table, if their number is within the limits
abbrev pub initial_slots : ℕ → ℕ → Result (List Slot) Refusal
initial_slots slots first = if nat_le 1 slots && nat_le slots greatest_slots then Ok (replicate slots (empty_slot first)) else Err LimitReached

-- the slot with this blob, live and without links
abbrev pub fill : Text × Text → Slot → Slot
fill blob s = record s { content = Used (record { digest = blob.0; bytes = blob.1; condemned = false; lent = false; links = 0 }) }

-- the content, with f applied to its blob if it has one
abbrev pub content_with : (StoredBlob → StoredBlob) → SlotContent → SlotContent
content_with f Free = Free
content_with f (Used h) = Used (f h)
content_with f Retired = Retired

-- the slot, with f applied to its blob if it has one
abbrev pub on_stored_blob : (StoredBlob → StoredBlob) → Slot → Slot
on_stored_blob f s = record s { content = content_with f s.content }

-- the blob with one more link
abbrev pub link_up : StoredBlob → StoredBlob
link_up h = record h { links = h.links + 1 }

-- the blob with one link less
abbrev pub link_down : StoredBlob → StoredBlob
link_down h = record h { links = h.links - 1 }

-- the blob, marked as ever leased
abbrev pub lend : StoredBlob → StoredBlob
lend h = record h { lent = true }

-- the blob with this content
abbrev pub with_content : Text → StoredBlob → StoredBlob
with_content bytes h = record h { bytes = bytes }

-- the digest of the blob of a slot
abbrev pub digest_in : SlotContent → Option Text
digest_in c = option_map (λ h. h.digest) (stored_blob_in c)

-- the blob, condemned or live
abbrev pub mark : Bool → StoredBlob → StoredBlob
mark b h = record h { condemned = b }

-- the slot, free and in its next generation
abbrev pub freed_slot : Slot → Slot
freed_slot s = record { generation = s.generation + 1; content = Free }

-- the slot, retired
abbrev pub retire : Slot → Slot
retire s = record s { content = Retired }

-- ---- the invariant of a table

-- no digest has two slots
abbrev pub IsDistinct : List Slot → Type 0
IsDistinct slots = (k m : ℕ) (g h : StoredBlob) → stored_blob_at slots k ≡ Some g → stored_blob_at slots m ≡ Some h → g.digest ≡ h.digest → k ≡ m

-- a condemned blob has no links
abbrev pub IsUnlinked : List Slot → Type 0
IsUnlinked slots = (k : ℕ) (h : StoredBlob) → stored_blob_at slots k ≡ Some h → h.condemned ≡ true → h.links ≡ 0

-- the table has at most 2^24 slots, no digest twice, and no condemned blob with a link
pub record IsTable (slots : List Slot) : Type 0 where
  pub few : length slots ≤ greatest_slots
  pub distinct : IsDistinct slots
  pub unlinked : IsUnlinked slots
