-- The search in the slots of a table.
use Rattle.std.proofs.Common.{◌≡◌, ℕ, ◌<◌, Bool, true, false, cond, List, [], ◌∷◌, length, get_or, Option, Some, None, is_some, refl, sym, ap, ◌∙◌, arith}
use Prim.Native.Nat.{zero, suc}
use Rattle.std.specs.Prelude.{slice_get}
use Rattle.std.specs.Option.{option_map_or}
use Rattle.std.specs.List.{list_any}
use Rattle.std.proofs.lemmas.Bool.{or_right}
use Rattle.std.specs.Cmp.Lexicographic.{same_text as text_is}
use Rattle.std.proofs.lemmas.Option.{slice_get-get_or}
use Rattle.std.proofs.lemmas.List.Quantifiers.{position-Some}
use Rattle.spec_lib.proofs.Texts.{same_itself}
use Rattle.spec_lib.proofs.Rows.{is_some-position}
use Rattle.spec_lib.specs.Texts.{Text, same_text}
use Rattle.slot_table.specs.declared.phase.Phase.TheVariants as phase
use Rattle.slot_table.specs.Slots.{Slot, StoredBlob, SlotContent, Free, Used, Retired, stored_blob_in, stored_blob_at, phase_in, slot_of, has_digest, phase_at, empty_slot}

-- a retired slot is not live
pub not_retired_live : phase.Retired ≡ phase.Live → {B : Type 0} → B
not_retired_live e = cc

-- a retired slot is not condemned
pub not_retired_condemned : phase.Retired ≡ phase.Condemned → {B : Type 0} → B
not_retired_condemned e = cc

-- a live slot is one of the slots
pub live_within : (slots : List Slot) (k : ℕ) → phase_at slots k ≡ phase.Live → k < length slots
live_within [] k live = not_retired_live live
live_within (s ∷ slots) zero live = omega arith
live_within (s ∷ slots) (suc k) live = let h : k < length slots = live_within slots k live in omega arith

-- a condemned slot is one of the slots
pub condemned_within : (slots : List Slot) (k : ℕ) → phase_at slots k ≡ phase.Condemned → k < length slots
condemned_within [] k condemned = not_retired_condemned condemned
condemned_within (s ∷ slots) zero condemned = omega arith
condemned_within (s ∷ slots) (suc k) condemned = let h : k < length slots = condemned_within slots k condemned in omega arith

live_by : (c : SlotContent) (h : StoredBlob) → phase_in c ≡ phase.Live → stored_blob_in c ≡ Some h → h.condemned ≡ false
live_by Free h live e = absurd cc
live_by (Used g) h live e = marked g.condemned h.condemned live (ap (λ o. option_map_or (λ x. x.condemned) o g.condemned) e)
  where
    marked : (a b : Bool) → cond a phase.Condemned phase.Live ≡ phase.Live → a ≡ b → b ≡ false
    marked true b l s = absurd cc
    marked false b l s = sym s
live_by Retired h live e = absurd cc

live_in : (o : Option Slot) (h : StoredBlob) → option_map_or (λ s. phase_in s.content) o phase.Retired ≡ phase.Live → option_map_or (λ s. stored_blob_in s.content) o None ≡ Some h → h.condemned ≡ false
live_in None h live e = absurd cc
live_in (Some s) h live e = live_by s.content h live e

-- a live slot's blob is not condemned
pub live-marked : (slots : List Slot) (k : ℕ) (h : StoredBlob) → phase_at slots k ≡ phase.Live → stored_blob_at slots k ≡ Some h → h.condemned ≡ false
live-marked slots k h live e = live_in (slice_get slots k) h live e

-- ---- the slot of a digest

-- the slot of a digest is one of the slots
pub found_within : (slots : List Slot) (d : Text) (k : ℕ) → slot_of slots d ≡ Some k → k < length slots
found_within slots d k found = (position-Some (has_digest d) slots k (empty_slot 0) found).0

-- a blob's digest is found
pub any_at : (slots : List Slot) (k : ℕ) (h : StoredBlob) → stored_blob_at slots k ≡ Some h → list_any (has_digest h.digest) slots ≡ true
any_at [] k h e = cc
any_at (s ∷ slots) zero h e = rw (e, same_itself h.digest) refl
any_at (s ∷ slots) (suc k) h e = or_right (has_digest h.digest s) (list_any (has_digest h.digest) slots) (any_at slots k h e)

-- a digest that isn't found has no slot
pub not_held : (slots : List Slot) (d : Text) → slot_of slots d ≡ None → (k : ℕ) (h : StoredBlob) → stored_blob_at slots k ≡ Some h → h.digest ≡ d → {B : Type 0} → B
not_held slots d none k h at_k e =
    let any : list_any (has_digest d) slots ≡ true = rw (← e) (any_at slots k h at_k) in
    let found = is_some-position (has_digest d) slots ∙ any in
    let here : is_some (slot_of slots d) ≡ false = ap is_some none in
    absurd cc

-- the blob of a slot that has a digest
pub holding : (d : Text) (c : SlotContent) → option_map_or (λ h. same_text h.digest d) (stored_blob_in c) false ≡ true → (h : StoredBlob) × (stored_blob_in c ≡ Some h) × (h.digest ≡ d)
holding d Free e = absurd cc
holding d (Used h) e = (h, refl, text_is _ _ (sym e))
holding d Retired e = absurd cc

-- the blob of a slot that was found
pub held_of : (slots : List Slot) (d : Text) (k : ℕ) → slot_of slots d ≡ Some k → (h : StoredBlob) × (stored_blob_at slots k ≡ Some h) × (h.digest ≡ d)
held_of slots d k found =
    let none : Slot = empty_slot 0 in
    let p = position-Some (has_digest d) slots k none found in
    let is : slice_get slots k ≡ Some (get_or slots k none) = slice_get-get_or slots k none p.0 in
    let c = holding d (get_or slots k none).content (p.1) in
    (c.0, ap (λ o. option_map_or (λ s. stored_blob_in s.content) o None) is ∙ c.1, c.2)

-- a mark that is not set
pub not_marked : {b : Bool} {B : Type 0} → b ≡ false → b ≡ true → B
not_marked unset isset = cc
