-- The index and the stack of free slots after a write of one slot.
use Rattle.std.proofs.Common.{◌≡◌, ◌≢◌, ℕ, ◌<◌, ◌⊎◌, Bool, true, false, cond, List, [], length, set, get_or, Option, Some, None, refl, sym, ap, ◌∙◌, subst, inl, inr}
use Rattle.std.specs.Option.{option_map, option_map_or}
use Rattle.std.specs.BTreeMap as tree
use Rattle.std.proofs.Math.ListN.{length-set}
use Rattle.std.proofs.lemmas.Bool.Decides.{eqb_tells}
use Rattle.std.proofs.lemmas.Option.{none-some}
use Rattle.std.proofs.lemmas.List.Folds.{position_or_len-set}
use Rattle.std.specs.Cmp.Lexicographic.{texts_ties, other_text}
use Rattle.spec_lib.proofs.Texts.{text_is_same, same_text_is}
use Rattle.spec_lib.specs.Texts.{Text, text_cmp, same_text}
use Rattle.slot_table.specs.Slots.{Slot, StoredBlob, SlotContent, Free, Used, Retired, stored_blob_in, stored_blob_at, has_digest, slot_of, fill, IsDistinct}
use Rattle.slot_table.specs.Indexes.{IndexesDigests}
use Rattle.slot_table.proofs.Finding.{not_held, held_of, holding}
use Rattle.slot_table.proofs.Writes.{stored_blob_at-set_same, stored_blob_at-set_other, stored_blob_at-read}

-- ---- the slot of a digest

slot_by : (slots : List Slot) (d : Text) (o : Option ℕ) → slot_of slots d ≡ o → IsDistinct slots → (k : ℕ) (h : StoredBlob) → stored_blob_at slots k ≡ Some h → h.digest ≡ d → slot_of slots d ≡ Some k
slot_by slots d None is distinct k h at_k e = not_held slots d is k h at_k e
slot_by slots d (Some j) is distinct k h at_k e =
    let found = held_of slots d j is in
    is ∙ ap Some (distinct j k found.0 h found.1 at_k (found.2 ∙ sym e))

-- the slot that has a digest is its slot
pub slot_of_held : (slots : List Slot) (d : Text) → IsDistinct slots → (k : ℕ) (h : StoredBlob) → stored_blob_at slots k ≡ Some h → h.digest ≡ d → slot_of slots d ≡ Some k
slot_of_held slots d = slot_by slots d (slot_of slots d) refl

none_by : (slots : List Slot) (d : Text) (o : Option ℕ) → slot_of slots d ≡ o → ((k : ℕ) (h : StoredBlob) → stored_blob_at slots k ≡ Some h → h.digest ≡ d → ⊥) → slot_of slots d ≡ None
none_by slots d None is nowhere = is
none_by slots d (Some j) is nowhere =
    let found = held_of slots d j is in
    absurd (nowhere j found.0 found.1 found.2)

-- a digest that no blob has, has no slot
pub slot_of_none : (slots : List Slot) (d : Text) → ((k : ℕ) (h : StoredBlob) → stored_blob_at slots k ≡ Some h → h.digest ≡ d → ⊥) → slot_of slots d ≡ None
slot_of_none slots d = none_by slots d (slot_of slots d) refl

-- a slot that has the digest in `a` has it in `b`
abbrev Within : List Slot → List Slot → Text → Type 0
Within a b d = (k : ℕ) (h : StoredBlob) → stored_blob_at a k ≡ Some h → h.digest ≡ d → (g : StoredBlob) × (stored_blob_at b k ≡ Some g) × (g.digest ≡ d)

alike_by : (a b : List Slot) (d : Text) (o : Option ℕ) → slot_of a d ≡ o → IsDistinct b → Within a b d → Within b a d → slot_of b d ≡ o
alike_by a b d None is distinct there back = slot_of_none b d (λ k h at_k e. let g = back k h at_k e in not_held a d is k g.0 g.1 g.2)
alike_by a b d (Some j) is distinct there back =
    let found = held_of a d j is in
    let g = there j found.0 found.1 found.2 in
    slot_of_held b d distinct j g.0 g.1 g.2

-- slots that agree on having a digest have it at the same place
pub slot_of-alike : (a b : List Slot) (d : Text) → IsDistinct b → Within a b d → Within b a d → slot_of b d ≡ slot_of a d
slot_of-alike a b d = alike_by a b d (slot_of a d) refl

-- a write of one slot if neither the old nor the new slot has the digest
other_within : (slots : List Slot) (k : ℕ) (new : Slot) (d : Text) → ((h : StoredBlob) → stored_blob_at slots k ≡ Some h → h.digest ≡ d → ⊥) → Within slots (set slots k new) d
other_within slots k new d was i h at_i e = elim (eqb_tells i k) [
  | inl same ↦
      let Q : ℕ → Type 0 = λ n. stored_blob_at slots n ≡ Some h in
      absurd (was h (subst Q same.1 at_i) e)
  | inr ne ↦ (h, stored_blob_at-set_other slots k i new ne.1 ∙ at_i, e)
]

other_back : (slots : List Slot) (k : ℕ) (new : Slot) (d : Text) → k < length slots → ((h : StoredBlob) → stored_blob_in new.content ≡ Some h → h.digest ≡ d → ⊥) → Within (set slots k new) slots d
other_back slots k new d lt comes i h at_i e = elim (eqb_tells i k) [
  | inl same ↦
      let Q : ℕ → Type 0 = λ n. stored_blob_at (set slots k new) n ≡ Some h in
      absurd (comes h (sym (stored_blob_at-set_same slots k new lt) ∙ subst Q same.1 at_i) e)
  | inr ne ↦ (h, sym (stored_blob_at-set_other slots k i new ne.1) ∙ at_i, e)
]

-- such a digest's slot stays
pub slot_of-set_other : (slots : List Slot) (k : ℕ) (new : Slot) (d : Text) → k < length slots → IsDistinct (set slots k new) →
    ((h : StoredBlob) → stored_blob_at slots k ≡ Some h → h.digest ≡ d → ⊥) → ((h : StoredBlob) → stored_blob_in new.content ≡ Some h → h.digest ≡ d → ⊥) → slot_of (set slots k new) d ≡ slot_of slots d
slot_of-set_other slots k new d lt distinct was comes =
    slot_of-alike slots (set slots k new) d distinct (other_within slots k new d was) (other_back slots k new d lt comes)

-- a look-up by a digest finds it, or another digest is asked for
tells_by : (t d : Text) (b : Bool) → same_text t d ≡ b → ((tree.is_at (text_cmp t) d ≡ true) × (t ≡ d)) ⊎ ((tree.is_at (text_cmp t) d ≡ false) × (t ≢ d))
tells_by t d true e = inl (sym (texts_ties t d) ∙ e, text_is_same t d e)
tells_by t d false e = inr (sym (texts_ties t d) ∙ e, other_text t d (sym e))

pub tells : (t d : Text) → ((tree.is_at (text_cmp t) d ≡ true) × (t ≡ d)) ⊎ ((tree.is_at (text_cmp t) d ≡ false) × (t ≢ d))
tells t d = tells_by t d (same_text t d) refl

shown_by : (c : SlotContent) (b : Text × Text) → Some b ≡ option_map (λ h. (h.digest, h.bytes)) (stored_blob_in c) → (d : Text) → option_map_or (λ h. same_text h.digest d) (stored_blob_in c) false ≡ tree.is_at (text_cmp b.0) d
shown_by Free b e d = absurd cc
shown_by (Used h) b e d =
    let key : h.digest ≡ b.0 = ap (λ o. option_map_or (λ x. x.0) o []) (sym e) in
    rw key (texts_ties b.0 d)
shown_by Retired b e d = absurd cc

-- a slot's blob is found by its digest
pub has_digest-shown : (s : Slot) (b : Text × Text) → Some b ≡ option_map (λ h. (h.digest, h.bytes)) (stored_blob_in s.content) → (d : Text) → has_digest d s ≡ tree.is_at (text_cmp b.0) d
has_digest-shown s b e d = shown_by s.content b e d

-- a slot whose blob has the digest passes `has_digest`
has_digest-held : (d : Text) (c : SlotContent) (h : StoredBlob) → stored_blob_in c ≡ Some h → h.digest ≡ d → option_map_or (λ x. same_text x.digest d) (stored_blob_in c) false ≡ true
has_digest-held d c h e f = rw e (same_text_is h.digest d f)

-- ---- the index

-- a change of one slot that keeps its digest keeps what the index finds
pub finds-kept : (slots : List Slot) (k : ℕ) (old new : Slot) (index : tree.BTreeMap Text ℕ) → old ≡ get_or slots k old → ((d : Text) → has_digest d new ≡ has_digest d old) → IndexesDigests slots index → IndexesDigests (set slots k new) index
finds-kept slots k old new index is same finds d =
    let place = position_or_len-set (has_digest d) slots k new old (same d ∙ ap (has_digest d) is) in
    finds d ∙ sym (rw (place, length-set) refl)

-- a blob whose digest had no slot is put into a free one
pub finds-placed : (slots : List Slot) (k : ℕ) (old : Slot) (blob : Text × Text) (index into : tree.BTreeMap Text ℕ) → IsDistinct (set slots k (fill blob old)) → k < length slots → stored_blob_at slots k ≡ None →
    ((d : Text) → tree.get text_cmp into d ≡ cond (tree.is_at (text_cmp blob.0) d) (Some k) (tree.get text_cmp index d)) → IndexesDigests slots index → IndexesDigests (set slots k (fill blob old)) into
finds-placed slots k old blob index into distinct lt empty is finds d =
    let new : Slot = fill blob old in
    let held : StoredBlob = record { digest = blob.0; bytes = blob.1; condemned = false; lent = false; links = 0 } in
    is d ∙ elim (tells blob.0 d) [
      | inl a ↦ rw a.0 (sym (slot_of_held (set slots k new) d distinct k held (stored_blob_at-set_same slots k new lt) a.1))
      | inr b ↦
          let was = λ (h : StoredBlob) (e : stored_blob_at slots k ≡ Some h) (f : h.digest ≡ d). none-some h (sym empty ∙ e) in
          let comes = λ (h : StoredBlob) (e : Some held ≡ Some h) (f : h.digest ≡ d). b.1 (ap (λ o. option_map_or (λ x. x.digest) o []) e ∙ f) in
          rw b.0 (finds d ∙ sym (slot_of-set_other slots k new d lt distinct was comes))
    ]

-- the digest of the slot's blob is forgotten
pub finds-emptied : (slots : List Slot) (k : ℕ) (old new : Slot) (index into : tree.BTreeMap Text ℕ) → IsDistinct slots → IsDistinct (set slots k new) → k < length slots → old ≡ get_or slots k old → stored_blob_in new.content ≡ None →
    ((d : Text) → tree.get text_cmp into d ≡ cond (has_digest d old) None (tree.get text_cmp index d)) → IndexesDigests slots index → IndexesDigests (set slots k new) into
finds-emptied slots k old new index into distinct after lt at_k empty is finds d =
    is d ∙ elim (has_digest d old) as (λ b. has_digest d old ≡ b → cond b None (tree.get text_cmp index d) ≡ slot_of (set slots k new) d) [
      | true ↦ λ e. sym (slot_of_none (set slots k new) d (λ i h at_i f. gone e i h at_i f))
      | false ↦ λ e. finds d ∙ sym (slot_of-set_other slots k new d lt after
          (λ h f g. differs e (sym (has_digest-held d old.content h (sym (stored_blob_at-read slots k old lt at_k) ∙ f) g)))
          (λ h f g. none-some h (sym empty ∙ f)))
    ] refl
  where
    gone : has_digest d old ≡ true → (i : ℕ) (h : StoredBlob) → stored_blob_at (set slots k new) i ≡ Some h → h.digest ≡ d → ⊥
    gone e i h at_i f =
        let was = holding d old.content e in
        elim (eqb_tells i k) [
          | inl same ↦
              let Q : ℕ → Type 0 = λ n. stored_blob_at (set slots k new) n ≡ Some h in
              none-some h (sym empty ∙ sym (stored_blob_at-set_same slots k new lt) ∙ subst Q same.1 at_i)
          | inr ne ↦ ne.1 (distinct i k h was.0 (sym (stored_blob_at-set_other slots k i new ne.1) ∙ at_i) (stored_blob_at-read slots k old lt at_k ∙ was.1) (f ∙ sym was.2))
        ]

    differs : {b : Bool} → b ≡ false → true ≡ b → ⊥
    differs e f = absurd cc
