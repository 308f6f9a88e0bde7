-- The stack of free slots after a write of one slot.
use Rattle.std.proofs.Common.{◌≡◌, ◌≢◌, ℕ, ◌+◌, ◌-◌, ◌<◌, ◌≤◌, Bool, true, false, cond, ◌==◌, List, [], ◌∷◌, ◌++◌, length, set, get_or, Option, Some, None, refl, sym, ap, ◌∙◌, subst, inl, inr, arith}
use Prim.Native.Nat.{zero, suc}
use Rattle.std.specs.Prelude.{slice_get, count_by}
use Rattle.std.specs.Option.{option_map_or, option_to_list}
use Rattle.std.proofs.lemmas.Bool.Decides.{eqb_tells, nat_tests}
use Rattle.std.proofs.lemmas.Bool.{eq-eqb}
use Rattle.std.proofs.lemmas.Option.{slice_get_within, slice_get_read, slice_get-get_or, get_or_from_slice_get, none-some}
use Rattle.std.proofs.lemmas.List.Sums.{sum_by-set, sum_by-append, sum_by-cons, count_by-le-length}
use Rattle.slot_table.specs.declared.phase.Phase.TheVariants as phase
use Rattle.slot_table.specs.Slots.{Slot, SlotContent, Free, Used, Retired, stored_blob_in, stored_blob_at, phase_in, phase_at, is_free, free_slots}
use Rattle.slot_table.specs.Indexes.{is_free_at, StacksFree}
use Rattle.slot_table.proofs.Writes.{slice_get-set_same, slice_get-set_other}

-- ---- free slots

-- a free slot is one of the slots
pub free_within : (slots : List Slot) (k : ℕ) → is_free_at slots k ≡ true → k < length slots
free_within slots k free = within (slice_get slots k) refl
  where
    within : (o : Option Slot) → slice_get slots k ≡ o → k < length slots
    within None e = let gone : false ≡ true = ap (λ o. option_map_or is_free o false) (sym e) ∙ free in absurd cc
    within (Some s) e = slice_get_within slots k s e

held_by : (c : SlotContent) → elim c as (λ _. Bool) [ Free ↦ true | Used h ↦ false | Retired ↦ false ] ≡ true → stored_blob_in c ≡ None
held_by Free free = refl
held_by (Used h) free = absurd cc
held_by Retired free = absurd cc

none_by : (o : Option Slot) → option_map_or is_free o false ≡ true → option_map_or (λ s. stored_blob_in s.content) o None ≡ None
none_by None free = refl
none_by (Some s) free = held_by s.content free

-- a free slot has no blob
pub free_at-held : (slots : List Slot) (k : ℕ) → is_free_at slots k ≡ true → stored_blob_at slots k ≡ None
free_at-held slots k free = none_by (slice_get slots k) free

free_by : (c : SlotContent) → elim c as (λ _. Bool) [ Free ↦ true | Used h ↦ false | Retired ↦ false ] ≡ true → phase_in c ≡ phase.Free
free_by Free free = refl
free_by (Used h) free = absurd cc
free_by Retired free = absurd cc

phase_by : (o : Option Slot) → option_map_or is_free o false ≡ true → option_map_or (λ s. phase_in s.content) o phase.Retired ≡ phase.Free
phase_by None free = absurd cc
phase_by (Some s) free = free_by s.content free

-- a free slot's phase
pub free_at-phase : (slots : List Slot) (k : ℕ) → is_free_at slots k ≡ true → phase_at slots k ≡ phase.Free
free_at-phase slots k free = phase_by (slice_get slots k) free

condemned_by : (c : SlotContent) → phase_in c ≡ phase.Condemned → elim c as (λ _. Bool) [ Free ↦ true | Used h ↦ false | Retired ↦ false ] ≡ false
condemned_by Free e = absurd cc
condemned_by (Used h) e = refl
condemned_by Retired e = refl

used_by : (o : Option Slot) → option_map_or (λ s. phase_in s.content) o phase.Retired ≡ phase.Condemned → option_map_or is_free o false ≡ false
used_by None e = refl
used_by (Some s) e = condemned_by s.content e

-- a condemned slot is not free
pub condemned-used : (slots : List Slot) (k : ℕ) → phase_at slots k ≡ phase.Condemned → is_free_at slots k ≡ false
condemned-used slots k e = used_by (slice_get slots k) e

-- whether a slot is free after a write
pub free_at-set_same : (slots : List Slot) (k : ℕ) (new : Slot) → k < length slots → is_free_at (set slots k new) k ≡ is_free new
free_at-set_same slots k new lt = ap (λ o. option_map_or is_free o false) (slice_get-set_same slots k new lt)

pub free_at-set_other : (slots : List Slot) (k m : ℕ) (new : Slot) → m ≢ k → is_free_at (set slots k new) m ≡ is_free_at slots m
free_at-set_other slots k m new ne = ap (λ o. option_map_or is_free o false) (slice_get-set_other slots k m new ne)

pub free_at-read : (slots : List Slot) (k : ℕ) (s : Slot) → k < length slots → s ≡ get_or slots k s → is_free_at slots k ≡ is_free s
free_at-read slots k s lt is = ap (λ o. option_map_or is_free o false) (slice_get_read slots (length slots) k s refl lt is)

-- how many slots are free after a write
pub free_slots-set : (slots : List Slot) (k : ℕ) (old new : Slot) → k < length slots → old ≡ get_or slots k old → free_slots (set slots k new) + cond (is_free old) 1 0 ≡ free_slots slots + cond (is_free new) 1 0
free_slots-set slots k old new lt is =
    ap (λ s. free_slots (set slots k new) + cond (is_free s) 1 0) is ∙ sum_by-set (λ s. cond (is_free s) 1 0) slots k new old lt

-- ---- the stack

-- the number of occurrences in the stack after a push
pub count-push : (stack : List ℕ) (k m : ℕ) → count_by (λ n. n == m) (stack ++ k ∷ []) ≡ count_by (λ n. n == m) stack + cond (k == m) 1 0
count-push stack k m =
    let f : ℕ → ℕ = λ n. cond (n == m) 1 0 in
    sum_by-append f stack (k ∷ []) ∙ ap (λ n. count_by (λ x. x == m) stack + n) (sum_by-cons f k [] ∙ (omega arith))

-- a number on the stack is counted
count-get : (stack : List ℕ) (i k : ℕ) → slice_get stack i ≡ Some k → 0 < count_by (λ n. n == k) stack
count-get [] i k e = absurd (none-some k e)
count-get (x ∷ xs) zero k e =
    let same : x ≡ k = ap (λ o. option_map_or (λ n. n) o 0) e in
    rw (sum_by-cons (λ n. cond (n == k) 1 0) x xs, eq-eqb x k same) (omega arith)
count-get (x ∷ xs) (suc i) k e =
    let rest : 0 < count_by (λ n. n == k) xs = count-get xs i k e in
    rw (sum_by-cons (λ n. cond (n == k) 1 0) x xs) (omega arith)

once_is : (b : Bool) (n : ℕ) → 0 < n → n ≡ cond b 1 0 → b ≡ true
once_is true n some e = refl
once_is false n some e = absurd (omega arith)

-- a slot on the stack is free
pub stacked_free : (slots : List Slot) (stack : List ℕ) (i k : ℕ) → StacksFree slots stack → slice_get stack i ≡ Some k → is_free_at slots k ≡ true
stacked_free slots stack i k stacks e = once_is (is_free_at slots k) (count_by (λ n. n == k) stack) (count-get stack i k e) (stacks k)

-- a change of one slot that is as free as before keeps the stack
pub stacks-kept : (slots : List Slot) (stack : List ℕ) (k : ℕ) (old new : Slot) → k < length slots → old ≡ get_or slots k old → is_free new ≡ is_free old → StacksFree slots stack → StacksFree (set slots k new) stack
stacks-kept slots stack k old new lt is same stacks m = stacks m ∙ ap (λ b. cond b 1 0) (elim (eqb_tells m k) [
  | inl e ↦
      let Q : ℕ → Type 0 = λ n. is_free_at slots n ≡ is_free_at (set slots k new) n in
      subst Q (sym e.1) (free_at-read slots k old lt is ∙ sym same ∙ sym (free_at-set_same slots k new lt))
  | inr ne ↦ sym (free_at-set_other slots k m new ne.1)
])

none_left : (b : Bool) (n : ℕ) → n + 1 ≡ cond b 1 0 → n ≡ 0
none_left true n e = omega arith
none_left false n e = absurd (omega arith)

-- the free slot on top is taken
pub stacks-popped : (slots : List Slot) (rest : List ℕ) (k : ℕ) (new : Slot) → k < length slots → is_free new ≡ false → StacksFree slots (rest ++ k ∷ []) → StacksFree (set slots k new) rest
stacks-popped slots rest k new lt used stacks m = elim (eqb_tells m k) [
  | inl e ↦
      let Q : ℕ → Type 0 = λ n. count_by (λ x. x == n) rest ≡ cond (is_free_at (set slots k new) n) 1 0 in
      let one = ap (λ b. count_by (λ x. x == k) rest + cond b 1 0) (sym (eq-eqb k k refl)) ∙ sym (count-push rest k k) ∙ stacks k in
      subst Q (sym e.1) (none_left (is_free_at slots k) (count_by (λ x. x == k) rest) one ∙ ap (λ b. cond b 1 0) (sym (free_at-set_same slots k new lt ∙ used)))
  | inr ne ↦
      let other : (k == m) ≡ false = grind (arith, nat_tests, ne.1) in
      let push : count_by (λ x. x == m) rest + 0 ≡ count_by (λ x. x == m) (rest ++ k ∷ []) = ap (λ b. count_by (λ x. x == m) rest + cond b 1 0) (sym other) ∙ sym (count-push rest k m) in
      let now : count_by (λ x. x == m) rest ≡ count_by (λ x. x == m) (rest ++ k ∷ []) = omega arith in
      now ∙ stacks m ∙ ap (λ b. cond b 1 0) (sym (free_at-set_other slots k m new ne.1))
]

-- a slot that is free now is put on top
pub stacks-pushed : (slots : List Slot) (stack : List ℕ) (k : ℕ) (new : Slot) → k < length slots → is_free_at slots k ≡ false → is_free new ≡ true → StacksFree slots stack → StacksFree (set slots k new) (stack ++ k ∷ [])
stacks-pushed slots stack k new lt used free stacks m = count-push stack k m ∙ elim (eqb_tells m k) [
  | inl e ↦
      let Q : ℕ → Type 0 = λ n. count_by (λ x. x == n) stack + cond (k == n) 1 0 ≡ cond (is_free_at (set slots k new) n) 1 0 in
      let before : count_by (λ x. x == k) stack ≡ 0 = stacks k ∙ ap (λ b. cond b 1 0) used in
      let one : count_by (λ x. x == k) stack + 1 ≡ 1 = omega arith in
      subst Q (sym e.1) (ap (λ b. count_by (λ x. x == k) stack + cond b 1 0) (eq-eqb k k refl) ∙ one ∙ ap (λ b. cond b 1 0) (sym (free_at-set_same slots k new lt ∙ free)))
  | inr ne ↦
      let other : (k == m) ≡ false = grind (arith, nat_tests, ne.1) in
      let same : count_by (λ x. x == m) stack + 0 ≡ count_by (λ x. x == m) stack = omega arith in
      ap (λ b. count_by (λ x. x == m) stack + cond b 1 0) other ∙ same ∙ stacks m ∙ ap (λ b. cond b 1 0) (sym (free_at-set_other slots k m new ne.1))
]

-- if a slot is used, not all are free
pub not_all_free : (slots : List Slot) (k : ℕ) → k < length slots → is_free_at slots k ≡ false → free_slots slots < length slots
not_all_free [] k lt used = absurd (omega arith)
not_all_free (s ∷ slots) zero lt used =
    let few : free_slots slots ≤ length slots = count_by-le-length is_free slots in
    rw (sum_by-cons (λ x. cond (is_free x) 1 0) s slots, used) (omega arith)
not_all_free (s ∷ slots) (suc k) lt used =
    let few : free_slots slots < length slots = not_all_free slots k (omega arith) used in
    rw (sum_by-cons (λ x. cond (is_free x) 1 0) s slots) (at_most (is_free s) few)
  where
    at_most : (b : Bool) → free_slots slots < length slots → cond b 1 0 + free_slots slots < suc (length slots)
    at_most true few = omega arith
    at_most false few = omega arith

-- a stack without a top is empty
pub no_top : (stack : List ℕ) → slice_get stack (length stack - 1) ≡ None → stack ≡ []
no_top [] none = refl
no_top (x ∷ xs) none = absurd (none-some (get_or (x ∷ xs) (length (x ∷ xs) - 1) x) (sym none ∙ slice_get-get_or (x ∷ xs) (length (x ∷ xs) - 1) x (omega arith)))

-- the stack after a pop, if the top is known
pub popped : (stack rest : List ℕ) (n k : ℕ) (last : Option ℕ) → n ≡ length stack → slice_get stack (length stack - 1) ≡ Some k → ((d : ℕ) → 0 < n → last ≡ Some (get_or stack (n - 1) d)) → stack ≡ rest ++ option_to_list last → stack ≡ rest ++ k ∷ []
popped stack rest n k last long top at items =
    let within : length stack - 1 < length stack = slice_get_within stack (length stack - 1) k top in
    let some : 0 < n = omega arith in
    let is : get_or stack (n - 1) k ≡ k = ap (λ m. get_or stack (m - 1) k) long ∙ get_or_from_slice_get stack (length stack - 1) k k top in
    items ∙ ap (λ o. rest ++ option_to_list o) (at k some ∙ ap Some is)
