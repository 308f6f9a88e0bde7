-- The search in a set of slots, and the set of the slots without links after a write of one slot.
use Rattle.std.proofs.Common.{◌≡◌, ◌≢◌, ℕ, ◌+◌, ◌-◌, ◌*◌, ◌/◌, ◌%◌, ◌^◌, ◌<◌, ◌≤◌, ◌==◌, Bool, true, false, cond, nat_lt, List, length, set, get_or, drop, Option, Some, None, refl, sym, ap, ◌∙◌, subst, inl, inr, arith}
use Rattle.std.specs.Prelude.{slice_get, slice_index, IfSome}
use Rattle.std.specs.Option.{option_map_or}
use Rattle.std.specs.Int.{bit_at}
use Rattle.std.specs.List.{position_or_len}
use Rattle.std.proofs.Math.ListN.{length-set}
use Rattle.std.proofs.lemmas.Bool.Decides.{eqb_tells, leb_tells, nat_tests}
use Rattle.std.proofs.lemmas.Nat.{shr-shr}
use Rattle.std.proofs.lemmas.Nat.Bits.{bit_at-zero, bit_at_above}
use Rattle.std.proofs.lemmas.List.{get_or-set_same, get_or-set_other, get_or-drop, get_or_past, length-drop}
use Rattle.std.proofs.lemmas.List.Sums.{position_or_len_is}
use Rattle.std.proofs.lemmas.Option.{slice_get-get_or, slice_get_read, slice_get_within}
use Rattle.slot_table.specs.Slots.{Slot, StoredBlob, SlotContent, Free, Used, Retired, stored_blob_in, is_orphan, orphan_from, content_with, link_up, empty_slot}
use Rattle.slot_table.specs.SlotSets.{contains_slot, is_orphan_at, HasOrphans}
use Rattle.slot_table.proofs.Writes.{slice_get-set_same, slice_get-set_other}

-- ---- one number

-- a number is a bit of a word
pub contains_slot-bit : (words : List ℕ) (k w i b : ℕ) → k / 64 ≡ w → k % 64 ≡ i → bit_at (slice_index words w) i ≡ b → contains_slot words k ≡ (b == 1)
contains_slot-bit words k w i b place bit e = rw (place, bit, e) refl

-- a set has no number of a word that is 0
pub contains_slot-none : (words : List ℕ) (k : ℕ) → slice_index words (k / 64) ≡ 0 → contains_slot words k ≡ false
contains_slot-none words k e = rw (e, bit_at-zero (k % 64)) refl

-- and none past its words
pub contains_slot-past : (words : List ℕ) (k : ℕ) → length words ≤ k / 64 → contains_slot words k ≡ false
contains_slot-past words k le = contains_slot-none words k (get_or_past words (k / 64) 0 le)

-- the rest of a word, from the bit k on
pub bit_at-rest : (n k i : ℕ) → bit_at (n / 2 ^ k) i ≡ bit_at n (k + i)
bit_at-rest n k i = ap (λ m. m % 2) (shr-shr n k i)

no_one : {n : ℕ} → n ≡ 1 → n ≡ 0 → {B : Type 0} → B
no_one e f = absurd (omega arith)

-- a bit that is set is one of the word's
pub in_word : (n i : ℕ) → n < 2 ^ 64 → bit_at n i ≡ 1 → i < 64
in_word n i fits at = elim (leb_tells 64 i) [
  | inl le ↦ no_one at (bit_at_above n 64 i fits le.1)
  | inr lt ↦ lt.1
]

-- ---- the next number

-- r is the least number of the set from k on
pub record IsNext (words : List ℕ) (k r : ℕ) : Type 0 where
  pub from : k ≤ r
  pub there : contains_slot words r ≡ true
  pub before : (m : ℕ) → k ≤ m → m < r → contains_slot words m ≡ false

-- it lies in the word of k
pub next_here : (words : List ℕ) (k w i : ℕ) → k / 64 ≡ w → k % 64 ≤ i → i < 64 → bit_at (slice_index words w) i ≡ 1 → ((j : ℕ) → k % 64 ≤ j → j < i → bit_at (slice_index words w) j ≡ 0) → IsNext words k (w * 64 + i)
next_here words k w i place from below at before = record {
  from = omega arith;
  there = contains_slot-bit words (w * 64 + i) w i 1 (omega arith) (omega arith) at;
  before = λ m le lt. contains_slot-bit words m w (m % 64) 0 (omega arith) refl (before (m % 64) (omega arith) (omega arith));
}

-- or in a later one, between which and that of k all are 0
pub next_later : (words : List ℕ) (k v w i : ℕ) → k / 64 ≡ v → v + 1 ≤ w → i < 64 → ((j : ℕ) → k % 64 ≤ j → bit_at (slice_index words v) j ≡ 0) → ((u : ℕ) → v + 1 ≤ u → u < w → slice_index words u ≡ 0) →
    bit_at (slice_index words w) i ≡ 1 → ((j : ℕ) → j < i → bit_at (slice_index words w) j ≡ 0) → IsNext words k (w * 64 + i)
next_later words k v w i place later below none between at before = record {
  from = omega arith;
  there = contains_slot-bit words (w * 64 + i) w i 1 (omega arith) (omega arith) at;
  before = λ m le lt. elim (eqb_tells (m / 64) v) [
    | inl e ↦ contains_slot-bit words m v (m % 64) 0 e.1 refl (none (m % 64) (let same = e.1 in omega arith))
    | inr ne ↦ elim (eqb_tells (m / 64) w) [
      | inl e ↦ contains_slot-bit words m w (m % 64) 0 e.1 refl (before (m % 64) (let same = e.1 in omega arith))
      | inr other ↦ contains_slot-none words m (between (m / 64) (let a = ne.1 in grind (arith, ne.1)) (let b = other.1 in grind (arith, other.1)))
    ]
  ];
}

-- there is no member if the rest of k's word and all later words are 0
pub none_later : (words : List ℕ) (k v : ℕ) → k / 64 ≡ v → ((j : ℕ) → k % 64 ≤ j → bit_at (slice_index words v) j ≡ 0) → ((u : ℕ) → v + 1 ≤ u → slice_index words u ≡ 0) → (m : ℕ) → k ≤ m → contains_slot words m ≡ false
none_later words k v place none after m le = elim (eqb_tells (m / 64) v) [
  | inl e ↦ contains_slot-bit words m v (m % 64) 0 e.1 refl (none (m % 64) (let same = e.1 in omega arith))
  | inr ne ↦ contains_slot-none words m (after (m / 64) (grind (arith, ne.1)))
]

-- ---- a number put in or taken out

pub contains_slot-set : (words : List ℕ) (k word : ℕ) (b : Bool) → k / 64 < length words → (bit_at word (k % 64) == 1) ≡ b → ((i : ℕ) → i < 64 → i ≢ k % 64 → bit_at word i ≡ bit_at (slice_index words (k / 64)) i) →
    (m : ℕ) → contains_slot (set words (k / 64) word) m ≡ cond (m == k) b (contains_slot words m)
contains_slot-set words k word b lt at others m = elim (eqb_tells m k) [
  | inl e ↦
      let Q : ℕ → Type 0 = λ n. contains_slot (set words (k / 64) word) n ≡ b in
      rw e.0 (subst Q (sym e.1) (rw (get_or-set_same words (k / 64) word 0 lt) at))
  | inr ne ↦ rw ne.0 (elim (eqb_tells (m / 64) (k / 64)) [
    | inl e ↦ rw (e.1, get_or-set_same words (k / 64) word 0 lt) (ap (λ n. n == 1) (others (m % 64) (omega arith) (λ same. ne.1 (let a = e.1 in omega arith))))
    | inr other ↦ rw (get_or-set_other words (k / 64) (m / 64) word 0 other.1) refl
  ])
]

-- ---- the slots without links

at-set_same : (slots : List Slot) (k : ℕ) (new : Slot) → k < length slots → is_orphan_at (set slots k new) k ≡ is_orphan new
at-set_same slots k new lt = ap (λ o. option_map_or is_orphan o false) (slice_get-set_same slots k new lt)

at-set_other : (slots : List Slot) (k m : ℕ) (new : Slot) → m ≢ k → is_orphan_at (set slots k new) m ≡ is_orphan_at slots m
at-set_other slots k m new ne = ap (λ o. option_map_or is_orphan o false) (slice_get-set_other slots k m new ne)

at-read : (slots : List Slot) (k : ℕ) (s : Slot) → k < length slots → s ≡ get_or slots k s → is_orphan_at slots k ≡ is_orphan s
at-read slots k s lt is = ap (λ o. option_map_or is_orphan o false) (slice_get_read slots (length slots) k s refl lt is)

-- a slot is written, and the set is updated by whether its blob has no links
pub orphans-set : (slots : List Slot) (k : ℕ) (new : Slot) (b : Bool) (words into : List ℕ) → k < length slots → is_orphan new ≡ b → ((m : ℕ) → contains_slot into m ≡ cond (m == k) b (contains_slot words m)) → length into ≡ length words → HasOrphans slots words → HasOrphans (set slots k new) into
orphans-set slots k new b words into lt is told long kept = record {
  each = λ m. told m ∙ elim (eqb_tells m k) [
    | inl e ↦
        let Q : ℕ → Type 0 = λ n. b ≡ is_orphan_at (set slots k new) n in
        rw e.0 (subst Q (sym e.1) (sym (at-set_same slots k new lt ∙ is)))
    | inr ne ↦ rw ne.0 (kept.each m ∙ sym (at-set_other slots k m new ne.1))
  ];
  roomy = rw (length-set, long) kept.roomy;
}

-- a slot is written that has as few links as before
pub orphans-kept : (slots : List Slot) (k : ℕ) (old new : Slot) (words : List ℕ) → k < length slots → old ≡ get_or slots k old → is_orphan new ≡ is_orphan old → HasOrphans slots words → HasOrphans (set slots k new) words
orphans-kept slots k old new words lt is same kept = record {
  each = λ m. kept.each m ∙ elim (eqb_tells m k) [
    | inl e ↦
        let Q : ℕ → Type 0 = λ n. is_orphan_at slots n ≡ is_orphan_at (set slots k new) n in
        subst Q (sym e.1) (at-read slots k old lt is ∙ sym same ∙ sym (at-set_same slots k new lt))
    | inr ne ↦ sym (at-set_other slots k m new ne.1)
  ];
  roomy = rw length-set kept.roomy;
}

-- a blob whose links stay is as much without links as before
pub orphan-held : (f : StoredBlob → StoredBlob) (c : SlotContent) → ((h : StoredBlob) → (f h).links ≡ h.links) → option_map_or (λ h. h.links == 0) (stored_blob_in (content_with f c)) false ≡ option_map_or (λ h. h.links == 0) (stored_blob_in c) false
orphan-held f Free links = refl
orphan-held f (Used h) links = ap (λ n. n == 0) (links h)
orphan-held f Retired links = refl

-- a slot that got a link is not a member
pub orphan-linked : (c : SlotContent) → option_map_or (λ h. h.links == 0) (stored_blob_in (content_with link_up c)) false ≡ false
orphan-linked Free = refl
orphan-linked (Used h) = grind (arith, nat_tests)
orphan-linked Retired = refl

-- ---- the least slot without links

orphan_get : (slots : List Slot) (m : ℕ) (d : Slot) → m < length slots → is_orphan_at slots m ≡ is_orphan (get_or slots m d)
orphan_get slots m d lt = ap (λ o. option_map_or is_orphan o false) (slice_get-get_or slots m d lt)

orphan_within : (slots : List Slot) (m : ℕ) → is_orphan_at slots m ≡ true → m < length slots
orphan_within slots m there = within (slice_get slots m) refl
  where
    within : (o : Option Slot) → slice_get slots m ≡ o → m < length slots
    within None e = let gone : false ≡ true = ap (λ o. option_map_or is_orphan o false) (sym e) ∙ there in absurd cc
    within (Some s) e = slice_get_within slots m s e

-- the next slot of the set is the least one without links
pub orphan_from-next : (slots : List Slot) (words : List ℕ) (k r : ℕ) → HasOrphans slots words → IsNext words k r → orphan_from slots k ≡ Some r
orphan_from-next slots words k r kept next =
    let d : Slot = empty_slot 0 in
    let from : k ≤ r = next.from in
    let within : r < length slots = orphan_within slots r (sym (kept.each r) ∙ next.there) in
    let long : length (drop k slots) ≡ length slots - k = length-drop k slots in
    let at : position_or_len is_orphan (drop k slots) ≡ r - k = position_or_len_is is_orphan (drop k slots) (r - k) d (omega arith)
    (λ i lt. rw (get_or-drop k slots i d) (sym (orphan_get slots (k + i) d (omega arith)) ∙ sym (kept.each (k + i)) ∙ next.before (k + i) (omega arith) (omega arith)))
    (λ lt. rw (get_or-drop k slots (r - k) d) (ap (λ n. is_orphan (get_or slots n d)) (omega arith) ∙ sym (orphan_get slots r d within) ∙ sym (kept.each r) ∙ next.there)) in
    let less : nat_lt (r - k) (length (drop k slots)) ≡ true = grind (arith, nat_tests, within, long, from) in
    rw (at, less) (ap Some (omega arith))

-- there is no slot without links if the set has no member
pub orphan_from-none : (slots : List Slot) (words : List ℕ) (k : ℕ) → HasOrphans slots words → ((m : ℕ) → k ≤ m → contains_slot words m ≡ false) → orphan_from slots k ≡ None
orphan_from-none slots words k kept none =
    let d : Slot = empty_slot 0 in
    let rest : List Slot = drop k slots in
    let long : length rest ≡ length slots - k = length-drop k slots in
    let at : position_or_len is_orphan rest ≡ length rest = position_or_len_is is_orphan rest (length rest) d (omega arith)
    (λ i lt. rw (get_or-drop k slots i d) (sym (orphan_get slots (k + i) d (omega arith)) ∙ sym (kept.each (k + i)) ∙ none (k + i) (omega arith)))
    (λ lt. absurd (omega arith)) in
    let less : nat_lt (length rest) (length rest) ≡ false = grind (arith, nat_tests) in
    rw (at, less) refl

-- the set returns the first slot without links
pub orphan_from-by : (slots : List Slot) (words : List ℕ) (k : ℕ) (o : Option ℕ) → HasOrphans slots words → IfSome o (λ r. (k ≤ r) × (contains_slot words r ≡ true) × ((m : ℕ) → k ≤ m → m < r → contains_slot words m ≡ false)) → (o ≡ None → (m : ℕ) → k ≤ m → contains_slot words m ≡ false) → o ≡ orphan_from slots k
orphan_from-by slots words k None kept some none = sym (orphan_from-none slots words k kept (none refl))
orphan_from-by slots words k (Some r) kept some none = sym (orphan_from-next slots words k r kept (record { from = some.0; there = some.1; before = some.2 }))
