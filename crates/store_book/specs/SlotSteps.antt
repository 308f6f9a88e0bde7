-- The effects of commands and sweeps on the slots. Those on the catalog are in `Commands`.
use Rattle.std.specs.Prelude.{◌≡◌, ◌<◌, ◌≤◌, ◌+◌, ◌^◌, ◌⊎◌, ℕ, Bool, true, Some, None, Result, List, length, slice_get}
use Rattle.std.specs.FinMap as fmap
use Rattle.spec_lib.specs.Texts.{Text}
use Rattle.blob_digest.specs.declared.refusal.Refusal.{Refusal}
use Rattle.blob_digest.specs.Outcomes.{Does}
use Rattle.pin_core.specs.World.{word_of}
use Rattle.pin_core.specs.declared.world.PinRecord.{PinRecord}
use Rattle.pin_core.specs.declared.world.Phase as pin
use Rattle.pin_core.specs.declared.world.Phase.TheVariants as word
use Rattle.slot_table.specs.declared.phase.Phase.{Phase}
use Rattle.slot_table.specs.declared.phase.Phase.TheVariants as phase
use Rattle.store_book.specs.BookState.{BookState, SlotView}
use Rattle.store_model.specs.Catalog.{Catalog, Resident}
use Rattle.store_model.specs.Commands.{lease, is_named}

-- each slot is related to the one before
abbrev pub EachSlot : (SlotView → SlotView → Type 0) → List SlotView → List SlotView → Type 0
EachSlot R old new = (length new ≡ length old) × ((k : ℕ) (a b : SlotView) → slice_get old k ≡ Some a → slice_get new k ≡ Some b → R a b)

-- ---- commands

-- the slot keeps its generation, and its bound does not rise
abbrev pub KeepsGeneration : SlotView → SlotView → Type 0
KeepsGeneration a b = (b.generation ≡ a.generation) × (b.bound ≤ a.bound)

-- the slot is unchanged, or is live with this digest and was free or had it
pub data MayPlace (digest : Text) (a b : SlotView) : Type 0 where
  is_unchanged : KeepsGeneration a b → b.phase ≡ a.phase → b.digest ≡ a.digest → MayPlace digest a b
  is_placed : KeepsGeneration a b → (a.phase ≡ phase.Free) ⊎ (a.digest ≡ Some digest) → b.phase ≡ phase.Live → b.digest ≡ Some digest → MayPlace digest a b

-- the slot is unchanged but for its bound, which rises only if the slot has this digest, and by at most 1,024
abbrev pub IsLending : Text → SlotView → SlotView → Type 0
IsLending digest a b = (b.generation ≡ a.generation) × (a.bound < b.bound → (b.digest ≡ Some digest) × (b.bound ≤ a.bound + 1024)) × (b.phase ≡ a.phase) × (b.digest ≡ a.digest)

-- the slot of this digest has no room for one more reader
abbrev pub IsCrowded : Text → List SlotView → Type 0
IsCrowded digest slots = (k : ℕ) × (s : SlotView) × (slice_get slots k ≡ Some s) × (s.digest ≡ Some digest) × (2 ^ 30 ≤ s.bound + 1024)

-- The slot of this digest was looked at once. Nothing else of it has changed but its bound, which leaves no room for a reader.
pub record FindsNoRoom (digest : Text) (old new : List SlotView) : Type 0 where
  pub slot : ℕ
  pub before : SlotView
  pub was : slice_get old slot ≡ Some before
  pub held : before.digest ≡ Some digest
  pub weight : ℕ
  pub full : 2 ^ 30 ≤ weight + 1024
  pub after : slice_get new slot ≡ Some (record before { bound = weight; looks = before.looks + 1 })

-- the call performs `lease`, which fails with `TooManyReaders` only if a look found no room for a reader
pub record Leases {A : Type 0} (view : A → Text) (result : Result A Refusal) (C C' : Catalog) (new : List SlotView) (repo digest : Text) : Type 0 where
  pub crowded : Bool
  pub does : Does view result C C' (lease crowded C repo digest)
  pub look : crowded ≡ true → IsCrowded digest new

-- ---- looks and sweeps

-- the phase in a slot's word
abbrev pub word_phase : Phase → pin.Phase
word_phase phase.Free = word.Free
word_phase phase.Live = word.Live
word_phase phase.Condemned = word.Condemned
word_phase phase.Retired = word.Retired

-- the slot is unchanged, but a look may have lowered its bound
abbrev pub IsUnchanged : SlotView → SlotView → Type 0
IsUnchanged a b = (b.generation ≡ a.generation) × (b.phase ≡ a.phase) × (b.digest ≡ a.digest) × (b.bound ≤ a.bound)

-- One look read the word n of the slot k: its generation, its phase and a sum of weights within its bound. That sum is the new bound.
pub record ReadsWord (k n : ℕ) (old new : List SlotView) : Type 0 where
  pub slot : SlotView
  pub there : slice_get old k ≡ Some slot
  pub weight : ℕ
  pub reads : n ≡ word_of slot.generation (word_phase slot.phase) weight
  pub within : weight ≤ slot.bound
  pub after : slice_get new k ≡ Some (record slot { bound = weight; looks = slot.looks + 1 })

-- the pin's slot is in use, in the pin's generation and with its digest, and the stored blob has that digest
pub record HasPin (h : PinRecord) (book : BookState) : Type 0 where
  pub slot : SlotView
  pub there : slice_get book.slots h.slot ≡ Some slot
  pub used : (slot.phase ≡ phase.Live) ⊎ (slot.phase ≡ phase.Condemned)
  pub generation : slot.generation ≡ h.generation
  pub digest : slot.digest ≡ Some h.digest
  pub blob : Resident
  pub resident : fmap.get book.catalog.residents h.digest ≡ Some blob
  pub content : is_named book.catalog.contents h.digest blob.bytes ≡ true

-- the sweep left the slot unchanged, condemned its live blob, freed it in the next generation, or retired it in the last one
pub data SweepsSlot (a b : SlotView) : Type 0 where
  same : IsUnchanged a b → SweepsSlot a b
  condemned : a.phase ≡ phase.Live → IsUnchanged (record a { phase = phase.Condemned }) b → SweepsSlot a b
  freed : (d : Text) → a.digest ≡ Some d → a.generation + 1 < 2 ^ 32 → b ≡ record { generation = a.generation + 1; phase = phase.Free; digest = None; bound = 0; looks = b.looks } → SweepsSlot a b
  retired : (d : Text) → a.digest ≡ Some d → a.generation + 1 ≡ 2 ^ 32 → b ≡ record { generation = a.generation; phase = phase.Retired; digest = None; bound = 0; looks = b.looks } → SweepsSlot a b

-- some slot is in its last generation
abbrev pub HasLastGeneration : List SlotView → Type 0
HasLastGeneration slots = (k : ℕ) × (s : SlotView) × (slice_get slots k ≡ Some s) × (s.generation + 1 ≡ 2 ^ 32)
