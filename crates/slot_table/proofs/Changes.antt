-- The invariant of a table with its index and its stack, through each change of one slot.
use Rattle.std.proofs.Common.{◌≡◌, ℕ, ◌+◌, ◌<◌, ◌≤◌, Bool, true, false, cond, List, [], ◌∷◌, ◌++◌, length, length-append, set, get_or, Some, None, refl, sym, ap, ◌∙◌, subst, inl, inr, arith}
use Rattle.std.specs.Option.{option_map_or}
use Rattle.std.specs.BTreeMap as tree
use Rattle.std.specs.Map.{lookup}
use Rattle.std.proofs.Math.ListN.{length-set}
use Rattle.std.proofs.lemmas.Option.{none-some}
use Rattle.spec_lib.specs.Texts.{Text, text_cmp, same_text}
use Rattle.slot_table.specs.declared.phase.Phase.TheVariants as phase
use Rattle.slot_table.specs.Slots.{Slot, StoredBlob, SlotContent, Free, Used, Retired, stored_blob_in, stored_blob_at, phase_at, has_digest, is_free, slot_of, free_slots, fill, on_stored_blob, content_with, freed_slot, retire, IsTable}
use Rattle.slot_table.specs.Indexes.{is_free_at, IndexesDigests, IsSlotIndex}
use Rattle.slot_table.specs.SlotSets.{contains_slot, HasOrphans}
use Rattle.slot_table.proofs.Finding.{condemned_within}
use Rattle.slot_table.proofs.Writes.{held-table, emptied-table, placed-table}
use Rattle.slot_table.proofs.Indexing.{slot_of_none, tells, finds-kept, finds-placed, finds-emptied}
use Rattle.slot_table.proofs.Stacking.{free_within, free_at-held, condemned-used, free_at-read, free_slots-set, stacks-kept, stacks-popped, stacks-pushed}

digest_kept : (f : StoredBlob → StoredBlob) (c : SlotContent) (d : Text) → ((h : StoredBlob) → (f h).digest ≡ h.digest) →
    option_map_or (λ h. same_text h.digest d) (stored_blob_in (content_with f c)) false ≡ option_map_or (λ h. same_text h.digest d) (stored_blob_in c) false
digest_kept f Free d digest = refl
digest_kept f (Used h) d digest = ap (λ t. same_text t d) (digest h)
digest_kept f Retired d digest = refl

free_kept : (f : StoredBlob → StoredBlob) (c : SlotContent) → elim (content_with f c) as (λ _. Bool) [ Free ↦ true | Used h ↦ false | Retired ↦ false ] ≡ elim c as (λ _. Bool) [ Free ↦ true | Used h ↦ false | Retired ↦ false ]
free_kept f Free = refl
free_kept f (Used h) = refl
free_kept f Retired = refl

same_count : (slots : List Slot) (k : ℕ) (old new : Slot) → k < length slots → old ≡ get_or slots k old → is_free new ≡ is_free old → free_slots (set slots k new) ≡ free_slots slots
same_count slots k old new lt is same =
    let e : free_slots (set slots k new) + cond (is_free old) 1 0 ≡ free_slots slots + cond (is_free old) 1 0 = free_slots-set slots k old new lt is ∙ ap (λ b. free_slots slots + cond b 1 0) same in
    omega arith

-- a blob is changed and keeps its digest
pub changed : (slots : List Slot) (k : ℕ) (old : Slot) (f : StoredBlob → StoredBlob) (index : tree.BTreeMap Text ℕ) (stack : List ℕ) (room : ℕ) → IsTable slots → IsSlotIndex slots index stack room → k < length slots → old ≡ get_or slots k old →
    ((h : StoredBlob) → (f h).digest ≡ h.digest) → ((h : StoredBlob) → stored_blob_at slots k ≡ Some h → (f h).condemned ≡ true → (f h).links ≡ 0) →
    IsTable (set slots k (on_stored_blob f old)) × IsSlotIndex (set slots k (on_stored_blob f old)) index stack room
changed slots k old f index stack room table kept lt is digest idle =
    let new : Slot = on_stored_blob f old in
    let same : is_free new ≡ is_free old = free_kept f old.content in (
      held-table slots k old f table lt is digest idle,
      record {
        found = finds-kept slots k old new index is (λ d. digest_kept f old.content d digest) kept.found;
        stacked = stacks-kept slots stack k old new lt is same kept.stacked;
        counted = kept.counted ∙ sym (same_count slots k old new lt is same);
        roomy = rw length-set kept.roomy;
      },
    )

-- a blob is placed into the free slot on top of the stack
pub placed : (slots : List Slot) (k : ℕ) (old : Slot) (blob : Text × Text) (index into : tree.BTreeMap Text ℕ) (rest : List ℕ) (room : ℕ) → IsTable slots → IsSlotIndex slots index (rest ++ k ∷ []) room →
    slot_of slots blob.0 ≡ None → is_free_at slots k ≡ true → old ≡ get_or slots k old →
    ((d : Text) → tree.get text_cmp into d ≡ cond (tree.is_at (text_cmp blob.0) d) (Some k) (tree.get text_cmp index d)) →
    IsTable (set slots k (fill blob old)) × IsSlotIndex (set slots k (fill blob old)) into rest room
placed slots k old blob index into rest room table kept new_digest free is at =
    let lt : k < length slots = free_within slots k free in
    let new : Slot = fill blob old in
    let was : is_free old ≡ true = sym (free_at-read slots k old lt is) ∙ free in
    let after : IsTable (set slots k new) = placed-table slots k old new blob table new_digest lt refl in
    let less : free_slots (set slots k new) + 1 ≡ free_slots slots + 0 = ap (λ b. free_slots (set slots k new) + cond b 1 0) (sym was) ∙ free_slots-set slots k old new lt is in
    let long : length rest + 1 ≡ free_slots slots = sym (length-append rest (k ∷ [])) ∙ kept.counted in (
      after,
      record {
        found = finds-placed slots k old blob index into after.distinct lt (free_at-held slots k free) at kept.found;
        stacked = stacks-popped slots rest k new lt refl kept.stacked;
        counted = omega arith;
        roomy = rw length-set kept.roomy;
      },
    )

-- a condemned slot is free in its next generation, and goes on top of the stack
pub freed : (slots : List Slot) (k : ℕ) (old : Slot) (index into : tree.BTreeMap Text ℕ) (stack : List ℕ) (room more : ℕ) → IsTable slots → IsSlotIndex slots index stack room → room ≤ more →
    phase_at slots k ≡ phase.Condemned → old ≡ get_or slots k old → ((d : Text) → tree.get text_cmp into d ≡ cond (has_digest d old) None (tree.get text_cmp index d)) →
    IsTable (set slots k (freed_slot old)) × IsSlotIndex (set slots k (freed_slot old)) into (stack ++ k ∷ []) more
freed slots k old index into stack room more table kept le condemned is at =
    let lt : k < length slots = condemned_within slots k condemned in
    let new : Slot = freed_slot old in
    let used : is_free_at slots k ≡ false = condemned-used slots k condemned in
    let was : is_free old ≡ false = sym (free_at-read slots k old lt is) ∙ used in
    let after : IsTable (set slots k new) = emptied-table slots k old new table lt is refl in
    let count : free_slots (set slots k new) + 0 ≡ free_slots slots + 1 = ap (λ b. free_slots (set slots k new) + cond b 1 0) (sym was) ∙ free_slots-set slots k old new lt is in
    let long : length (stack ++ k ∷ []) ≡ length stack + 1 = length-append stack (k ∷ []) in
    let counted : length stack ≡ free_slots slots = kept.counted in
    let roomy : length slots ≤ room = kept.roomy in (
      after,
      record {
        found = finds-emptied slots k old new index into table.distinct after.distinct lt is refl at kept.found;
        stacked = stacks-pushed slots stack k new lt used refl kept.stacked;
        counted = omega arith;
        roomy = rw length-set (omega arith);
      },
    )

-- a condemned slot is retired
pub table_retired : (slots : List Slot) (k : ℕ) (old : Slot) (index into : tree.BTreeMap Text ℕ) (stack : List ℕ) (room : ℕ) → IsTable slots → IsSlotIndex slots index stack room →
    phase_at slots k ≡ phase.Condemned → old ≡ get_or slots k old → ((d : Text) → tree.get text_cmp into d ≡ cond (has_digest d old) None (tree.get text_cmp index d)) →
    IsTable (set slots k (retire old)) × IsSlotIndex (set slots k (retire old)) into stack room
table_retired slots k old index into stack room table kept condemned is at =
    let lt : k < length slots = condemned_within slots k condemned in
    let new : Slot = retire old in
    let same : is_free new ≡ is_free old = sym (sym (free_at-read slots k old lt is) ∙ condemned-used slots k condemned) in
    let after : IsTable (set slots k new) = emptied-table slots k old new table lt is refl in (
      after,
      record {
        found = finds-emptied slots k old new index into table.distinct after.distinct lt is refl at kept.found;
        stacked = stacks-kept slots stack k old new lt is same kept.stacked;
        counted = kept.counted ∙ sym (same_count slots k old new lt is same);
        roomy = rw length-set kept.roomy;
      },
    )

-- a table without rows
pub opened : (index : tree.BTreeMap Text ℕ) (words : List ℕ) (room : ℕ) → tree.IsEmpty index → ((k : ℕ) → contains_slot words k ≡ false) → IsTable [] × IsSlotIndex [] index [] room × HasOrphans [] words
opened index words room empty none = (
  record {
    few = omega arith;
    distinct = λ k m g h at_k at_m e. absurd (none-some g at_k);
    unlinked = λ k h at_k c. absurd (none-some h at_k);
  },
  record {
    found = λ d. ap (lookup (tree.is_at (text_cmp d))) empty ∙ sym (slot_of_none [] d (λ k h at_k e. none-some h at_k));
    stacked = λ k. refl;
    counted = refl;
    roomy = omega arith;
  },
  record {
    each = λ k. none k;
    roomy = omega arith;
  },
)

-- an index with the same entries
pub index_unchanged : (slots : List Slot) (index into : tree.BTreeMap Text ℕ) (stack : List ℕ) (room : ℕ) → tree.IsUnchanged index into → IsSlotIndex slots index stack room → IsSlotIndex slots into stack room
index_unchanged slots index into stack room same kept = record {
  found = λ d. ap (lookup (tree.is_at (text_cmp d))) same ∙ kept.found d;
  stacked = kept.stacked;
  counted = kept.counted;
  roomy = kept.roomy;
}

-- an index without the last inserted digest finds the same as before
pub taken_back : (slots : List Slot) (k : ℕ) (digest : Text) (index into back : tree.BTreeMap Text ℕ) → slot_of slots digest ≡ None → IndexesDigests slots index →
    ((d : Text) → tree.get text_cmp into d ≡ cond (tree.is_at (text_cmp digest) d) (Some k) (tree.get text_cmp index d)) →
    ((d : Text) → tree.get text_cmp back d ≡ cond (tree.is_at (text_cmp digest) d) None (tree.get text_cmp into d)) → IndexesDigests slots back
taken_back slots k digest index into back new_digest finds put take d = take d ∙ elim (tells digest d) [
  | inl a ↦
      let Q : Text → Type 0 = λ t. None ≡ slot_of slots t in
      rw a.0 (subst Q a.1 (sym new_digest))
  | inr b ↦ rw b.0 (put d ∙ rw b.0 (finds d))
]
