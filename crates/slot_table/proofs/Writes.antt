-- The facts that a write of one slot keeps.
use Rattle.std.proofs.Common.{◌≡◌, ◌≢◌, ℕ, ◌<◌, ◌⊎◌, true, false, List, [], ◌∷◌, length, set, get_or, Some, None, refl, sym, ap, ◌∙◌, subst, inl, inr, arith}
use Prim.Native.Nat.{zero, suc}
use Rattle.std.specs.Prelude.{slice_get}
use Rattle.std.specs.Option.{option_map_or}
use Rattle.std.proofs.Math.ListN.{length-set}
use Rattle.std.proofs.lemmas.Bool.Decides.{eqb_tells}
use Rattle.std.proofs.lemmas.Option.{slice_get_read, none-some}
use Rattle.spec_lib.specs.Texts.{Text}
use Rattle.slot_table.specs.Slots.{Slot, StoredBlob, SlotContent, Free, Used, Retired, stored_blob_in, stored_blob_at, slot_of, with_slot, fill, on_stored_blob, content_with, IsTable}
use Rattle.slot_table.proofs.Finding.{not_held}

-- a slot that is read is written
pub with_slot-set : (slots : List Slot) (k : ℕ) (old new : Slot) (f : Slot → Slot) → k < length slots → old ≡ get_or slots k old → new ≡ f old → set slots k new ≡ with_slot slots k f
with_slot-set slots k old new f lt is to =
    ap (set slots k) to ∙ sym (ap (λ o. option_map_or (λ s. set slots k (f s)) o slots) (slice_get_read slots (length slots) k old refl lt is))

-- reading a written slot
pub slice_get-set_same : {X : Type 0} (xs : List X) (k : ℕ) (x : X) → k < length xs → slice_get (set xs k x) k ≡ Some x
slice_get-set_same [] k x lt = absurd (omega arith)
slice_get-set_same (y ∷ ys) zero x lt = refl
slice_get-set_same (y ∷ ys) (suc k) x lt = slice_get-set_same ys k x (omega arith)

-- reading the other slots
pub slice_get-set_other : {X : Type 0} (xs : List X) (k m : ℕ) (x : X) → m ≢ k → slice_get (set xs k x) m ≡ slice_get xs m
slice_get-set_other [] k m x ne = refl
slice_get-set_other (y ∷ ys) zero zero x ne = absurd (ne refl)
slice_get-set_other (y ∷ ys) zero (suc m) x ne = refl
slice_get-set_other (y ∷ ys) (suc k) zero x ne = refl
slice_get-set_other (y ∷ ys) (suc k) (suc m) x ne = slice_get-set_other ys k m x (λ e. ne (ap suc e))

-- the blob at a number after a write there
pub stored_blob_at-set_same : (slots : List Slot) (k : ℕ) (s : Slot) → k < length slots → stored_blob_at (set slots k s) k ≡ stored_blob_in s.content
stored_blob_at-set_same slots k s lt = ap (λ o. option_map_or (λ x. stored_blob_in x.content) o None) (slice_get-set_same slots k s lt)

-- the blob at another number
pub stored_blob_at-set_other : (slots : List Slot) (k m : ℕ) (s : Slot) → m ≢ k → stored_blob_at (set slots k s) m ≡ stored_blob_at slots m
stored_blob_at-set_other slots k m s ne = ap (λ o. option_map_or (λ x. stored_blob_in x.content) o None) (slice_get-set_other slots k m s ne)

-- the blob of a slot that is read
pub stored_blob_at-read : (slots : List Slot) (k : ℕ) (s : Slot) → k < length slots → s ≡ get_or slots k s → stored_blob_at slots k ≡ stored_blob_in s.content
stored_blob_at-read slots k s lt is = ap (λ o. option_map_or (λ x. stored_blob_in x.content) o None) (slice_get_read slots (length slots) k s refl lt is)

-- the slot afterwards has its blob, with other links and marks, or none
pub record Keeps (old new : Slot) : Type 0 where
  pub same : (h : StoredBlob) → stored_blob_in new.content ≡ Some h → (g : StoredBlob) × (stored_blob_in old.content ≡ Some g) × (g.digest ≡ h.digest)
  pub unlinked : (h : StoredBlob) → stored_blob_in new.content ≡ Some h → h.condemned ≡ true → h.links ≡ 0

-- a blob after a write was there before, with the same digest
blob_before : (slots : List Slot) (k : ℕ) (old new : Slot) → k < length slots → old ≡ get_or slots k old → Keeps old new →
    (i : ℕ) (h : StoredBlob) → stored_blob_at (set slots k new) i ≡ Some h → (g : StoredBlob) × (stored_blob_at slots i ≡ Some g) × (g.digest ≡ h.digest)
blob_before slots k old new lt is keeps i h at_i = elim (eqb_tells i k) [
  | inl e ↦
      let Q : ℕ → Type 0 = λ n. stored_blob_at (set slots k new) n ≡ Some h in
      let here : stored_blob_in new.content ≡ Some h = sym (stored_blob_at-set_same slots k new lt) ∙ subst Q e.1 at_i in
      let found = keeps.same h here in
      let old_at = stored_blob_at-read slots k old lt is in
      let R : ℕ → Type 0 = λ n. stored_blob_at slots n ≡ Some found.0 in
      (found.0, subst R (sym e.1) (old_at ∙ found.1), found.2)
  | inr ne ↦ (h, sym (stored_blob_at-set_other slots k i new ne.1) ∙ at_i, refl)
]

-- a condemned blob after a write has no links
unlinked_after : (slots : List Slot) (k : ℕ) (old new : Slot) → IsTable slots → k < length slots → Keeps old new →
    (i : ℕ) (h : StoredBlob) → stored_blob_at (set slots k new) i ≡ Some h → h.condemned ≡ true → h.links ≡ 0
unlinked_after slots k old new table lt keeps i h at_i c = elim (eqb_tells i k) [
  | inl e ↦
      let Q : ℕ → Type 0 = λ n. stored_blob_at (set slots k new) n ≡ Some h in
      keeps.unlinked h (sym (stored_blob_at-set_same slots k new lt) ∙ subst Q e.1 at_i) c
  | inr ne ↦ table.unlinked i h (sym (stored_blob_at-set_other slots k i new ne.1) ∙ at_i) c
]

-- such a change keeps the invariant of the table
pub kept-set : (slots : List Slot) (k : ℕ) (old new : Slot) → IsTable slots → k < length slots → old ≡ get_or slots k old → Keeps old new → IsTable (set slots k new)
kept-set slots k old new table lt is keeps = record {
  few = rw length-set table.few;
  distinct = λ i j g h at_i at_j e.
      let f = blob_before slots k old new lt is keeps in
      let gi = f i g at_i in
      let hj = f j h at_j in
      table.distinct i j gi.0 hj.0 gi.1 hj.1 (gi.2 ∙ e ∙ sym hj.2);
  unlinked = λ i h at_i c. unlinked_after slots k old new table lt keeps i h at_i c;
}

-- a blob that is changed keeps its digest
keeps-held : (s : Slot) (f : StoredBlob → StoredBlob) → ((h : StoredBlob) → (f h).digest ≡ h.digest) → ((h : StoredBlob) → stored_blob_in s.content ≡ Some h → (f h).condemned ≡ true → (f h).links ≡ 0) → Keeps s (on_stored_blob f s)
keeps-held s f digest idle = record { same = λ h e. same s.content h e; unlinked = λ h e c. unlinked s.content h idle e c }
  where
    same : (c : SlotContent) (h : StoredBlob) → stored_blob_in (content_with f c) ≡ Some h → (g : StoredBlob) × (stored_blob_in c ≡ Some g) × (g.digest ≡ h.digest)
    same Free h e = absurd cc
    same (Used g) h e = (g, refl, sym (digest g) ∙ ap (λ o. option_map_or (λ x. x.digest) o []) e)
    same Retired h e = absurd cc

    unlinked : (c : SlotContent) (h : StoredBlob) → ((g : StoredBlob) → stored_blob_in c ≡ Some g → (f g).condemned ≡ true → (f g).links ≡ 0) → stored_blob_in (content_with f c) ≡ Some h → h.condemned ≡ true → h.links ≡ 0
    unlinked Free h idle e c = absurd cc
    unlinked (Used g) h idle e c =
        let mark = ap (λ o. option_map_or (λ x. x.condemned) o false) e in
        ap (λ o. option_map_or (λ x. x.links) o 0) (sym e) ∙ idle g refl (mark ∙ c)
    unlinked Retired h idle e c = absurd cc

-- a blob is changed
pub held-table : (slots : List Slot) (k : ℕ) (old : Slot) (f : StoredBlob → StoredBlob) → IsTable slots → k < length slots → old ≡ get_or slots k old → ((h : StoredBlob) → (f h).digest ≡ h.digest) →
    ((h : StoredBlob) → stored_blob_at slots k ≡ Some h → (f h).condemned ≡ true → (f h).links ≡ 0) → IsTable (set slots k (on_stored_blob f old))
held-table slots k old f table lt is digest idle = kept-set slots k old (on_stored_blob f old) table lt is (keeps-held old f digest (λ h e c. idle h (stored_blob_at-read slots k old lt is ∙ e) c))

-- a slot has no blob any more
pub emptied-table : (slots : List Slot) (k : ℕ) (old new : Slot) → IsTable slots → k < length slots → old ≡ get_or slots k old → stored_blob_in new.content ≡ None → IsTable (set slots k new)
emptied-table slots k old new table lt is empty = kept-set slots k old new table lt is (record {
  same = λ h e. absurd (none-some h (sym empty ∙ e));
  unlinked = λ h e c. absurd (none-some h (sym empty ∙ e));
})

-- the blob at a number after another one was placed
held-placed : (slots : List Slot) (k : ℕ) (old : Slot) (blob : Text × Text) → k < length slots → (i : ℕ) (h : StoredBlob) → stored_blob_at (set slots k (fill blob old)) i ≡ Some h →
    ((i ≡ k) × (h.digest ≡ blob.0) × (h.links ≡ 0)) ⊎ ((i ≢ k) × (stored_blob_at slots i ≡ Some h))
held-placed slots k old blob lt i h at_i = elim (eqb_tells i k) [
  | inl e ↦
      let Q : ℕ → Type 0 = λ n. stored_blob_at (set slots k (fill blob old)) n ≡ Some h in
      let here : stored_blob_in (fill blob old).content ≡ Some h = sym (stored_blob_at-set_same slots k (fill blob old) lt) ∙ subst Q e.1 at_i in
      inl (e.1, ap (λ o. option_map_or (λ x. x.digest) o []) (sym here), ap (λ o. option_map_or (λ x. x.links) o 0) (sym here))
  | inr ne ↦ inr (ne.1, sym (stored_blob_at-set_other slots k i (fill blob old) ne.1) ∙ at_i)
]

-- a blob whose digest has no slot is placed
pub placed-table : (slots : List Slot) (k : ℕ) (old new : Slot) (blob : Text × Text) → IsTable slots → slot_of slots blob.0 ≡ None → k < length slots → new ≡ fill blob old → IsTable (set slots k new)
placed-table slots k old new blob table none lt to = rw to (record {
  few = rw length-set table.few;
  distinct = λ i j g h at_i at_j e. elim (held-placed slots k old blob lt i g at_i) [
    | inl a ↦ elim (held-placed slots k old blob lt j h at_j) [
      | inl b ↦ a.0 ∙ sym b.0
      | inr b ↦ not_held slots blob.0 none j h b.1 (sym e ∙ a.1)
    ]
    | inr a ↦ elim (held-placed slots k old blob lt j h at_j) [
      | inl b ↦ not_held slots blob.0 none i g a.1 (e ∙ b.1)
      | inr b ↦ table.distinct i j g h a.1 b.1 e
    ]
  ];
  unlinked = λ i h at_i c. elim (held-placed slots k old blob lt i h at_i) [ inl a ↦ a.2 | inr a ↦ table.unlinked i h a.1 c ];
})
