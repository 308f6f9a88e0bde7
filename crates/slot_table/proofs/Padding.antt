-- The slots of a table, by those that have rows.
use Rattle.std.proofs.Common.{◌≡◌, ◌≢◌, ℕ, ◌+◌, ◌-◌, ◌*◌, ◌<◌, ◌≤◌, ◌==◌, true, false, cond, List, [], ◌∷◌, ◌++◌, length, length-append, append_assoc, set, get_or, Option, Some, None, refl, sym, ap, ◌∙◌, subst, inl, inr, arith}
use Prim.Native.Nat.{zero, suc}
use Rattle.std.specs.Prelude.{count_by, replicate, slice_get}
use Rattle.std.specs.Option.{option_map_or}
use Rattle.std.specs.BTreeMap as tree
use Rattle.std.proofs.Math.ListN.{length-set, get_or-append}
use Rattle.std.proofs.lemmas.Bool.{eq-eqb}
use Rattle.std.proofs.lemmas.Option.{slice_get_within}
use Rattle.std.proofs.lemmas.Bool.Decides.{eqb_tells, nat_tests}
use Rattle.std.proofs.lemmas.List.{length-replicate, set-append_left}
use Rattle.std.proofs.lemmas.List.Folds.{sum_by-replicate}
use Rattle.std.proofs.lemmas.List.Sums.{sum_by-append}
use Rattle.spec_lib.specs.Texts.{Text, text_cmp}
use Rattle.blob_digest.specs.Slots.{greatest_slots}
use Rattle.slot_table.specs.declared.phase.Phase.TheVariants as phase
use Rattle.slot_table.specs.Slots.{Slot, stored_blob_at, phase_at, links_at, is_free, free_slots, slot_of, with_slot, empty_slot, padded_slots, IsDistinct, IsTable}
use Rattle.slot_table.specs.Indexes.{is_free_at, HasRoom, IndexesDigests, IsSlotIndex, Restocks}
use Rattle.slot_table.specs.SlotSets.{is_orphan_at, HasOrphans}
use Rattle.slot_table.proofs.Finding.{not_retired_live, not_retired_condemned}
use Rattle.slot_table.proofs.Writes.{with_slot-set}
use Rattle.slot_table.proofs.Indexing.{slot_of-alike}
use Rattle.slot_table.proofs.Stacking.{count-push, free_at-phase, no_top}

-- m free slots of a generation
abbrev Fresh : ℕ → ℕ → List Slot
Fresh m g = replicate m (empty_slot g)

-- ---- a slot

not_live : (m g k : ℕ) → phase_at (Fresh m g) k ≡ phase.Live → ⊥
not_live zero g k e = not_retired_live e
not_live (suc m) g zero e = absurd cc
not_live (suc m) g (suc k) e = not_live m g k e

live_by : (rows : List Slot) (m g k : ℕ) → phase_at (rows ++ Fresh m g) k ≡ phase.Live → phase_at rows k ≡ phase.Live
live_by [] m g k e = absurd (not_live m g k e)
live_by (s ∷ rows) m g zero e = e
live_by (s ∷ rows) m g (suc k) e = live_by rows m g k e

-- a live slot has a row
pub live_row : (n g : ℕ) (rows : List Slot) (k : ℕ) → phase_at (padded_slots n g rows) k ≡ phase.Live → phase_at rows k ≡ phase.Live
live_row n g rows k e = live_by rows (n - length rows) g k e

not_condemned : (m g k : ℕ) → phase_at (Fresh m g) k ≡ phase.Condemned → ⊥
not_condemned zero g k e = not_retired_condemned e
not_condemned (suc m) g zero e = absurd cc
not_condemned (suc m) g (suc k) e = not_condemned m g k e

condemned_by : (rows : List Slot) (m g k : ℕ) → phase_at (rows ++ Fresh m g) k ≡ phase.Condemned → phase_at rows k ≡ phase.Condemned
condemned_by [] m g k e = absurd (not_condemned m g k e)
condemned_by (s ∷ rows) m g zero e = e
condemned_by (s ∷ rows) m g (suc k) e = condemned_by rows m g k e

-- a condemned slot has a row
pub condemned_row : (n g : ℕ) (rows : List Slot) (k : ℕ) → phase_at (padded_slots n g rows) k ≡ phase.Condemned → phase_at rows k ≡ phase.Condemned
condemned_row n g rows k e = condemned_by rows (n - length rows) g k e

free_by_row : (rows : List Slot) (m g k : ℕ) → is_free_at rows k ≡ true → phase_at (rows ++ Fresh m g) k ≡ phase.Free
free_by_row [] m g k free = absurd cc
free_by_row (s ∷ rows) m g zero free = free_at-phase (s ∷ rows) zero free
free_by_row (s ∷ rows) m g (suc k) free = free_by_row rows m g k free

-- the phase of a free slot that has a row
pub free_phase : (n g : ℕ) (rows : List Slot) (k : ℕ) → is_free_at rows k ≡ true → phase_at (padded_slots n g rows) k ≡ phase.Free
free_phase n g rows k free = free_by_row rows (n - length rows) g k free

blob_by : (rows : List Slot) (m g k : ℕ) → stored_blob_at (rows ++ Fresh m g) k ≡ stored_blob_at rows k
blob_by [] zero g k = refl
blob_by [] (suc m) g zero = refl
blob_by [] (suc m) g (suc k) = blob_by [] m g k
blob_by (s ∷ rows) m g zero = refl
blob_by (s ∷ rows) m g (suc k) = blob_by rows m g k

-- a slot without a row has no blob
pub stored_blob_at-padded : (n g : ℕ) (rows : List Slot) (k : ℕ) → stored_blob_at (padded_slots n g rows) k ≡ stored_blob_at rows k
stored_blob_at-padded n g rows k = blob_by rows (n - length rows) g k

-- a slot without a row has no links
pub links_at-padded : (n g : ℕ) (rows : List Slot) (k : ℕ) → links_at (padded_slots n g rows) k ≡ links_at rows k
links_at-padded n g rows k = ap (λ o. option_map_or (λ h. h.links) o 0) (stored_blob_at-padded n g rows k)

-- ---- all slots

-- the number of slots
pub length-padded : (n g : ℕ) (rows : List Slot) → length rows ≤ n → length (padded_slots n g rows) ≡ n
length-padded n g rows le =
    let long : length (padded_slots n g rows) ≡ length rows + length (Fresh (n - length rows) g) = length-append rows (Fresh (n - length rows) g) in
    let rest : length (Fresh (n - length rows) g) ≡ n - length rows = length-replicate (n - length rows) (empty_slot g) in
    omega arith

table_by : (rows : List Slot) (m g : ℕ) → length rows + m ≤ greatest_slots → IsTable rows → IsTable (rows ++ Fresh m g)
table_by rows m g few table =
    let long : length (rows ++ Fresh m g) ≡ length rows + length (Fresh m g) = length-append rows (Fresh m g) in
    let rest : length (Fresh m g) ≡ m = length-replicate m (empty_slot g) in
    record {
      few = omega arith;
      distinct = λ i j a b at_i at_j e. table.distinct i j a b (sym (blob_by rows m g i) ∙ at_i) (sym (blob_by rows m g j) ∙ at_j) e;
      unlinked = λ i h at_i c. table.unlinked i h (sym (blob_by rows m g i) ∙ at_i) c;
    }

-- no digest has two slots, and a condemned blob has no links
pub table-padded : (n g : ℕ) (rows : List Slot) → length rows ≤ n → n ≤ greatest_slots → IsTable rows → IsTable (padded_slots n g rows)
table-padded n g rows le few table = table_by rows (n - length rows) g (omega arith) table

slot_by : (rows : List Slot) (m g : ℕ) (d : Text) → IsDistinct (rows ++ Fresh m g) → slot_of (rows ++ Fresh m g) d ≡ slot_of rows d
slot_by rows m g d distinct = slot_of-alike rows (rows ++ Fresh m g) d distinct (λ k h at_k e. (h, blob_by rows m g k ∙ at_k, e)) (λ k h at_k e. (h, sym (blob_by rows m g k) ∙ at_k, e))

-- the slot of a digest has a row
pub slot_of-padded : (n g : ℕ) (rows : List Slot) (d : Text) → length rows ≤ n → n ≤ greatest_slots → IsTable rows → slot_of (padded_slots n g rows) d ≡ slot_of rows d
slot_of-padded n g rows d le few table = slot_by rows (n - length rows) g d (table-padded n g rows le few table).distinct

-- the index has the slot of a digest
pub slot_of-indexed : (n g : ℕ) (rows : List Slot) (index : tree.BTreeMap Text ℕ) (d : Text) (r : Option ℕ) {row_room stack_room words : ℕ} → IsTable rows → HasRoom n rows row_room stack_room words → IndexesDigests rows index → r ≡ tree.get text_cmp index d → r ≡ slot_of (padded_slots n g rows) d
slot_of-indexed n g rows index d r table room finds is = is ∙ finds d ∙ sym (slot_of-padded n g rows d room.made room.few table)

-- a slot that has a digest has a row
pub found_row : (n g : ℕ) (rows : List Slot) (d : Text) (k : ℕ) {row_room stack_room words : ℕ} → IsTable rows → HasRoom n rows row_room stack_room words → slot_of (padded_slots n g rows) d ≡ Some k → slot_of rows d ≡ Some k
found_row n g rows d k table room found = sym (slot_of-padded n g rows d room.made room.few table) ∙ found

free_by : (rows : List Slot) (m g : ℕ) → free_slots (rows ++ Fresh m g) ≡ free_slots rows + m
free_by rows m g =
    let all : free_slots (Fresh m g) ≡ m * 1 = sum_by-replicate (λ s. cond (is_free s) 1 0) m (empty_slot g) in
    let one : m * 1 ≡ m = omega arith in
    sum_by-append (λ s. cond (is_free s) 1 0) rows (Fresh m g) ∙ ap (λ x. free_slots rows + x) (all ∙ one)

-- a slot without a row is free
pub free_slots-padded : (n g : ℕ) (rows : List Slot) → free_slots (padded_slots n g rows) ≡ free_slots rows + (n - length rows)
free_slots-padded n g rows = free_by rows (n - length rows) g

orphan_by : (rows : List Slot) (m g k : ℕ) → is_orphan_at (rows ++ Fresh m g) k ≡ is_orphan_at rows k
orphan_by [] zero g k = refl
orphan_by [] (suc m) g zero = refl
orphan_by [] (suc m) g (suc k) = orphan_by [] m g k
orphan_by (s ∷ rows) m g zero = refl
orphan_by (s ∷ rows) m g (suc k) = orphan_by rows m g k

orphans_by : (rows : List Slot) (m g : ℕ) (words : List ℕ) → length rows + m ≤ 64 * length words → HasOrphans rows words → HasOrphans (rows ++ Fresh m g) words
orphans_by rows m g words le kept =
    let long : length (rows ++ Fresh m g) ≡ length rows + length (Fresh m g) = length-append rows (Fresh m g) in
    let rest : length (Fresh m g) ≡ m = length-replicate m (empty_slot g) in
    record {
      each = λ k. kept.each k ∙ sym (orphan_by rows m g k);
      roomy = omega arith;
    }

-- a slot without a row is not in the set of the slots without links
pub orphans-padded : (n g : ℕ) (rows : List Slot) (words : List ℕ) → length rows ≤ n → n ≤ 64 * length words → HasOrphans rows words → HasOrphans (padded_slots n g rows) words
orphans-padded n g rows words le roomy kept = orphans_by rows (n - length rows) g words (omega arith) kept

-- a row that is read is written
pub with_slot-padded : (n g : ℕ) (rows : List Slot) (k : ℕ) (old new : Slot) (f : Slot → Slot) → k < length rows → old ≡ get_or rows k old → new ≡ f old → padded_slots n g (set rows k new) ≡ with_slot (padded_slots n g rows) k f
with_slot-padded n g rows k old new f lt is to =
    let rest : List Slot = Fresh (n - length rows) g in
    let long : length (rows ++ rest) ≡ length rows + length rest = length-append rows rest in
    ap (λ l. set rows k new ++ Fresh (n - l) g) (length-set rows k new)
    ∙ sym (set-append_left rows rest k new lt)
    ∙ with_slot-set (rows ++ rest) k old new f (omega arith) (is ∙ sym (get_or-append rows rest old k lt)) to

-- a row is written, the stack has no less room, and the set has as much as before
pub room-set : {n : ℕ} {rows : List Slot} {row_room stack_room more words into : ℕ} (k : ℕ) (new : Slot) → stack_room ≤ more → into ≡ words → HasRoom n rows row_room stack_room words → HasRoom n (set rows k new) row_room more into
room-set {n} {rows} {row_room} {stack_room} {more} {words} k new le same room =
    let stack : n ≤ stack_room = room.stack_fits in
    let members : n ≤ 64 * words = room.set_fits in
    record { made = rw length-set room.made; few = room.few; rows_fit = room.rows_fit; stack_fits = omega arith; set_fits = rw same members }

-- a row is written, and the set changes
pub room-noted : {n : ℕ} {rows : List Slot} {row_room stack_room words into : ℕ} (k : ℕ) (new : Slot) → into ≡ words → HasRoom n rows row_room stack_room words → HasRoom n (set rows k new) row_room stack_room into
room-noted {n} {rows} {row_room} {stack_room} k new same room =
    let le : stack_room ≤ stack_room = omega arith in
    room-set k new le same room

-- a row is written
pub room-kept : {n : ℕ} {rows : List Slot} {row_room stack_room words : ℕ} (k : ℕ) (new : Slot) → HasRoom n rows row_room stack_room words → HasRoom n (set rows k new) row_room stack_room words
room-kept k new room = room-noted k new refl room

-- ---- one more row

free_last : (rows : List Slot) (g : ℕ) → is_free_at (rows ++ empty_slot g ∷ []) (length rows) ≡ true
free_last [] g = refl
free_last (s ∷ rows) g = free_last rows g

free_others : (rows : List Slot) (g k : ℕ) → k ≢ length rows → is_free_at (rows ++ empty_slot g ∷ []) k ≡ is_free_at rows k
free_others [] g zero ne = absurd (ne refl)
free_others [] g (suc k) ne = refl
free_others (s ∷ rows) g zero ne = refl
free_others (s ∷ rows) g (suc k) ne = free_others rows g k (λ e. ne (ap suc e))

stacked_last : (rows : List Slot) (g k : ℕ) → count_by (λ n. n == k) [] ≡ cond (is_free_at rows k) 1 0 → count_by (λ n. n == k) (length rows ∷ []) ≡ cond (is_free_at (rows ++ empty_slot g ∷ []) k) 1 0
stacked_last rows g k none = count-push [] (length rows) k ∙ elim (eqb_tells k (length rows)) [
  | inl e ↦
      let Q : ℕ → Type 0 = λ n. 0 + cond (length rows == n) 1 0 ≡ cond (is_free_at (rows ++ empty_slot g ∷ []) n) 1 0 in
      subst Q (sym e.1) (ap (λ b. 0 + cond b 1 0) (eq-eqb (length rows) (length rows) refl) ∙ ap (λ b. cond b 1 0) (sym (free_last rows g)))
  | inr ne ↦
      let other : (length rows == k) ≡ false = grind (arith, nat_tests, ne.1) in
      ap (λ b. 0 + cond b 1 0) other ∙ none ∙ ap (λ b. cond b 1 0) (sym (free_others rows g k ne.1))
]

-- the rows, the index, the stack and the set of a table of n slots, and the slots that they make
pub record IsStock (n g : ℕ) (slots rows : List Slot) (index : tree.BTreeMap Text ℕ) (stack words : List ℕ) (row_room stack_room : ℕ) : Type 0 where
  pub sound : IsTable rows
  pub indexed : IsSlotIndex rows index stack stack_room
  pub noted : HasOrphans rows words
  pub roomy : HasRoom n rows row_room stack_room (length words)
  pub same : padded_slots n g rows ≡ slots
  pub all : stack ≡ [] → n ≤ length rows

-- if the stack is empty, no slot is free
pub none_free : {n g : ℕ} {slots rows : List Slot} {index : tree.BTreeMap Text ℕ} {stack words : List ℕ} {row_room stack_room : ℕ} → IsStock n g slots rows index stack words row_room stack_room → slice_get stack (length stack - 1) ≡ None → free_slots slots ≡ 0
none_free {n} {g} {slots} {rows} {index} {stack} stock top =
    let empty : stack ≡ [] = no_top stack top in
    let long : length stack ≡ 0 = ap (λ s. length s) empty in
    let counted : length stack ≡ free_slots rows = stock.indexed.counted in
    let all : n ≤ length rows = stock.all empty in
    let padded : free_slots (padded_slots n g rows) ≡ free_slots rows + (n - length rows) = free_slots-padded n g rows in
    let none : free_slots (padded_slots n g rows) ≡ 0 = omega arith in
    ap (λ s. free_slots s) (sym stock.same) ∙ none

-- if the stack has a top, a slot is free
pub some_free : {n g : ℕ} {slots rows : List Slot} {index : tree.BTreeMap Text ℕ} {stack words : List ℕ} {row_room stack_room : ℕ} → IsStock n g slots rows index stack words row_room stack_room → (k : ℕ) → slice_get stack (length stack - 1) ≡ Some k → 0 < free_slots slots
some_free {n} {g} {slots} {rows} {index} {stack} stock k top =
    let within : length stack - 1 < length stack = slice_get_within stack (length stack - 1) k top in
    let counted : length stack ≡ free_slots rows = stock.indexed.counted in
    let padded : free_slots (padded_slots n g rows) ≡ free_slots rows + (n - length rows) = free_slots-padded n g rows in
    let some : 0 < free_slots (padded_slots n g rows) = omega arith in
    subst (λ s. 0 < free_slots s) stock.same some

restock : (n g : ℕ) (rows : List Slot) (index : tree.BTreeMap Text ℕ) (words : List ℕ) (row_room stack_room : ℕ) → IsTable rows → IsSlotIndex rows index [] stack_room → HasOrphans rows words → HasRoom n rows row_room stack_room (length words) → length rows < n →
    IsStock n g (padded_slots n g rows) (rows ++ empty_slot g ∷ []) index (length rows ∷ []) words row_room stack_room
restock n g rows index words row_room stack_room table kept orphans room lt =
    let few : n ≤ greatest_slots = room.few in
    let members : n ≤ 64 * length words = room.set_fits in
    let stack : n ≤ stack_room = room.stack_fits in
    let long : length (rows ++ empty_slot g ∷ []) ≡ length rows + 1 = length-append rows (empty_slot g ∷ []) in
    let none : 0 ≡ free_slots rows = kept.counted in
    let one : free_slots (rows ++ empty_slot g ∷ []) ≡ free_slots rows + 1 = free_by rows 1 g in
    let after : IsTable (rows ++ empty_slot g ∷ []) = table_by rows 1 g (omega arith) table in
    let shift : suc (n - (length rows + 1)) ≡ n - length rows = omega arith in
    record {
      sound = after;
      indexed = record {
        found = λ d. kept.found d ∙ sym (slot_by rows 1 g d after.distinct);
        stacked = λ k. stacked_last rows g k (kept.stacked k);
        counted = omega arith;
        roomy = omega arith;
      };
      noted = orphans_by rows 1 g words (omega arith) orphans;
      roomy = record { made = omega arith; few = few; rows_fit = room.rows_fit; stack_fits = stack; set_fits = members };
      same =
          ap (λ l. (rows ++ empty_slot g ∷ []) ++ Fresh (n - l) g) long
          ∙ append_assoc rows (empty_slot g ∷ []) (Fresh (n - (length rows + 1)) g)
          ∙ ap (λ m. rows ++ Fresh m g) shift;
      all = λ e. absurd cc;
    }

-- a table's parts after its stack was filled up
pub restocked : (n g : ℕ) (rows new_rows : List Slot) (index : tree.BTreeMap Text ℕ) (stack new_stack words : List ℕ) (row_room stack_room new_row_room new_stack_room : ℕ) →
    IsTable rows → IsSlotIndex rows index stack stack_room → HasOrphans rows words → HasRoom n rows row_room stack_room (length words) → row_room ≤ new_row_room → stack_room ≤ new_stack_room →
    Restocks n g rows stack new_rows new_stack → IsStock n g (padded_slots n g rows) new_rows index new_stack words new_row_room new_stack_room
restocked n g rows new_rows index stack new_stack words row_room stack_room new_row_room new_stack_room table kept orphans room more_rows more_stack made = elim made [
  | inl a ↦ rw (a.0, a.1) (record {
    sound = table;
    indexed = grown;
    noted = orphans;
    roomy = wider;
    same = refl;
    all = a.2;
  })
  | inr a ↦ rw (a.2, a.3) (restock n g rows index words new_row_room new_stack_room table (subst (λ s. IsSlotIndex rows index s new_stack_room) a.0 grown) orphans wider a.1)
]
  where
    wider : HasRoom n rows new_row_room new_stack_room (length words)
    wider =
        let r : n ≤ row_room = room.rows_fit in
        let s : n ≤ stack_room = room.stack_fits in
        record { made = room.made; few = room.few; rows_fit = omega arith; stack_fits = omega arith; set_fits = room.set_fits }

    grown : IsSlotIndex rows index stack new_stack_room
    grown =
        let r : length rows ≤ stack_room = kept.roomy in
        record { found = kept.found; stacked = kept.stacked; counted = kept.counted; roomy = omega arith }
