-- The index of the digests of the slots, and the stack of the free slots.
use Rattle.std.specs.Prelude.{◌≡◌, ◌⊎◌, ℕ, ◌*◌, ◌<◌, ◌≤◌, ◌==◌, ◌++◌, ◌∷◌, [], Bool, false, None, List, length, count_by, slice_get, if◌then◌else◌}
use Rattle.std.specs.Option.{option_map_or}
use Rattle.std.specs.BTreeMap as tree
use Rattle.spec_lib.specs.Texts.{Text, text_cmp}
use Rattle.blob_digest.specs.Slots.{greatest_slots}
use Rattle.slot_table.specs.Slots.{Slot, slot_of, free_slots, has_digest, is_free, empty_slot}

-- the index maps the digest of each used slot to the slot, and has no other entry
abbrev pub IndexesDigests : List Slot → tree.BTreeMap Text ℕ → Type 0
IndexesDigests slots index = (d : Text) → tree.get text_cmp index d ≡ slot_of slots d

-- slot k is free; false if there is no such slot
abbrev pub is_free_at : List Slot → ℕ → Bool
is_free_at slots k = option_map_or is_free (slice_get slots k) false

-- the stack has each free slot once, and no other number
abbrev pub StacksFree : List Slot → List ℕ → Type 0
StacksFree slots stack = (k : ℕ) → count_by (λ n. n == k) stack ≡ (if is_free_at slots k then 1 else 0)

-- the index and the stack are those of these slots, and the stack has room for all slots
pub record IsSlotIndex (slots : List Slot) (index : tree.BTreeMap Text ℕ) (stack : List ℕ) (room : ℕ) : Type 0 where
  pub found : IndexesDigests slots index
  pub stacked : StacksFree slots stack
  pub counted : length stack ≡ free_slots slots
  pub roomy : length slots ≤ room

-- the table may have n slots: its rows, its stack and its set have room for all of them
pub record HasRoom (n : ℕ) (rows : List Slot) (row_room stack_room words : ℕ) : Type 0 where
  pub made : length rows ≤ n
  pub few : n ≤ greatest_slots
  pub rows_fit : n ≤ row_room
  pub stack_fits : n ≤ stack_room
  pub set_fits : n ≤ 64 * words

-- the rows and the stack are unchanged, and if the stack is empty, all n slots have rows
abbrev pub IsStocked : ℕ → List Slot → List ℕ → List Slot → List ℕ → Type 0
IsStocked n rows stack new_rows new_stack = (new_rows ≡ rows) × (new_stack ≡ stack) × (stack ≡ [] → n ≤ length rows)

-- the stack was empty, and has the slot of one more row
abbrev pub IsRestocked : ℕ → ℕ → List Slot → List ℕ → List Slot → List ℕ → Type 0
IsRestocked n generation rows stack new_rows new_stack = (stack ≡ []) × (length rows < n) × (new_rows ≡ rows ++ empty_slot generation ∷ []) × (new_stack ≡ length rows ∷ [])

-- one more row is made and put on the stack only if the stack is empty and one of n slots has no row
abbrev pub Restocks : ℕ → ℕ → List Slot → List ℕ → List Slot → List ℕ → Type 0
Restocks n generation rows stack new_rows new_stack = IsStocked n rows stack new_rows new_stack ⊎ IsRestocked n generation rows stack new_rows new_stack

-- the new index lacks the digest of this slot, and is otherwise the old one
abbrev pub ForgetsDigest : Slot → tree.BTreeMap Text ℕ → tree.BTreeMap Text ℕ → Type 0
ForgetsDigest s old new = (d : Text) → tree.get text_cmp new d ≡ (if has_digest d s then None else tree.get text_cmp old d)
