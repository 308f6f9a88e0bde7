-- Slots with generations, and the pins on them: reference counts with weights.
use Rattle.std.specs.Prelude.{◌≡◌, ℕ, ◌+◌, ◌*◌, ◌^◌, ◌==◌, cond, ◌<◌, ◌≤◌, List, [], ◌∷◌, map, length, replicate, sum_by, slice_get, slice_index_or, Option, Some, None}
use Rattle.std.specs.List.{All}
use Rattle.std.specs.Option.{option_map}
use Rattle.spec_lib.specs.Texts.{Text}
use Rattle.pin_core.specs.declared.world.Phase.{Phase}
use Rattle.pin_core.specs.declared.world.Phase.TheVariants.{Free, Live, Condemned, Retired}
use Rattle.pin_core.specs.declared.world.PinRow.{PinRow}
use Rattle.pin_core.specs.declared.world.PinRecord.{PinRecord}
use Rattle.pin_core.specs.declared.world.PinEntry.{PinEntry}
use Rattle.pin_core.specs.declared.word.WordRow.{WordRow}

-- a pin world: its rows by slot number, and its pins
pub record PinWorld : Type 0 where
  pub rows : List PinRow
  pub pins : List PinEntry

-- a phase is that of a used slot: live or condemned
abbrev pub IsUsed : Phase → Type 0
IsUsed Free = ⊥
IsUsed Live = Unit {0}
IsUsed Condemned = Unit {0}
IsUsed Retired = ⊥

-- the row that stands for a slot number out of range
abbrev pub no_row : PinRow
no_row = record { generation = 0; phase = Free; digest = None }

-- the row of the slot k
abbrev pub row : List PinRow → ℕ → PinRow
row rows k = slice_index_or rows k no_row

-- the pins without their names
abbrev pub holds_of : PinWorld → List PinRecord
holds_of p = map (λ e. e.hold) p.pins

-- the weight of a pin on the slot k
abbrev pub weight_at : ℕ → PinRecord → ℕ
weight_at k h = cond (h.slot == k) h.weight 0

-- the sum of the weights of the pins on the slot k
abbrev pub weight_on : ℕ → List PinRecord → ℕ
weight_on k hs = sum_by (weight_at k) hs

-- the pin named n, if there is one
abbrev pub hold_named : ℕ → List PinEntry → Option PinRecord
hold_named n [] = None
hold_named n (e ∷ es) = cond (e.name == n) (Some e.hold) (hold_named n es)

-- no two pins have the same name
abbrev pub HasDistinctNames : List PinEntry → Type 0
HasDistinctNames [] = Unit {0}
HasDistinctNames (e ∷ es) = (hold_named e.name es ≡ None) × HasDistinctNames es

-- the pin's slot is used and has the pin's generation and digest
pub record IsValidPin (rows : List PinRow) (h : PinRecord) : Type 0 where
  pub there : h.slot < length rows
  pub used : IsUsed (row rows h.slot).phase
  pub generation : (row rows h.slot).generation ≡ h.generation
  pub digest : (row rows h.slot).digest ≡ Some h.digest

-- the slot of every pin is used and has the pin's generation and digest
abbrev pub PinsAreValid : PinWorld → Type 0
PinsAreValid p = All (IsValidPin p.rows) (holds_of p)

-- a slot has a digest exactly if it is used
abbrev pub HasDigest : PinRow → Type 0
HasDigest r = (IsUsed r.phase → (d : Text) × (r.digest ≡ Some d)) × (¬ IsUsed r.phase → r.digest ≡ None)

-- the pin's weight is a power of two from 1 to 1,024
abbrev pub IsWeight : PinRecord → Type 0
IsWeight h = (e : ℕ) × (e ≤ 10) × (h.weight ≡ 2 ^ e)

-- n free slots of generation g, and no pin
abbrev pub initial_world : ℕ → ℕ → PinWorld
initial_world n g = record { rows = replicate n (record { generation = g; phase = Free; digest = None }); pins = [] }

-- ---- words

-- the bit of a used slot
abbrev pub used_bit : ℕ
used_bit = 0x8000_0000

-- the bit of a condemned or retired slot
abbrev pub condemned_bit : ℕ
condemned_bit = 0x4000_0000

-- the bits of a phase: bit 31 if the slot is used, bit 30 if it is condemned or retired
abbrev pub phase_bits : Phase → ℕ
phase_bits Free = 0
phase_bits Live = used_bit
phase_bits Condemned = used_bit + condemned_bit
phase_bits Retired = condemned_bit

-- the word of a generation, a phase and a sum of weights
abbrev pub word_of : ℕ → Phase → ℕ → ℕ
word_of generation phase weight = generation * 0x1_0000_0000 + phase_bits phase + weight

-- the largest sum of weights that a word holds
abbrev pub max_weight : ℕ
max_weight = 0x3fff_ffff

-- The world is well-formed.
pub record IsState (p : PinWorld) : Type 0 where
  -- a slot has a digest exactly if it is used
  pub digests : All HasDigest p.rows
  -- no two pins have the same name
  pub named : HasDistinctNames p.pins
  -- each pin's weight is a power of two from 1 to 1,024
  pub weights : All IsWeight (holds_of p)
  -- each slot's sum of weights fits its word
  pub fits : (k : ℕ) → weight_on k (holds_of p) ≤ max_weight
  -- the slot of every pin is used and has the pin's generation and digest
  pub held : PinsAreValid p

-- the word of a row with a sum of weights
abbrev pub row_word : PinRow → ℕ → ℕ
row_word r weight = word_of r.generation r.phase weight

-- the word of the slot k
abbrev pub word : PinWorld → ℕ → ℕ
word p k = row_word (row p.rows k) (weight_on k (holds_of p))

-- the contents of the word of a row with a sum of weights
abbrev pub word_row : PinRow → ℕ → WordRow
word_row r weight = record { generation = r.generation; phase = r.phase; weight = weight }

-- the contents of the word of the slot k, if there is such a slot
abbrev pub word_row_at : PinWorld → ℕ → Option WordRow
word_row_at p k = option_map (λ r. word_row r (weight_on k (holds_of p))) (slice_get p.rows k)
