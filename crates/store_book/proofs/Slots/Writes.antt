-- The list of slots after a change of one slot.
use Rattle.std.proofs.Common.{◌≡◌, ℕ, ◌+◌, Bool, false, cond, List, [], ◌∷◌, length, map, set as write, Option, Some, None, refl, sym, ap, ◌∙◌, subst, inl, inr}
use Rattle.std.proofs.lemmas.Bool.{cases_eq}
use Rattle.spec_lib.proofs.Options.{some_same}
use Prim.Native.Nat.{zero, suc}
use Rattle.std.specs.Prelude.{slice_get}
use Rattle.std.specs.Option.{option_map, option_map_or}
use Rattle.std.specs.List.{count_by}
use Rattle.std.proofs.lemmas.List.Sums.{sum_by-cons}
use Rattle.slot_table.specs.declared.phase.Phase.TheVariants as phase
use Rattle.slot_table.specs.Slots.{Slot, StoredBlob, SlotContent, Free, Used, Retired, content_with, stored_blob_at, stored_blob_in, is_retired, on_stored_blob, phase_at, phase_in, with_slot}

pub with_slot-suc : (s : Slot) (slots : List Slot) (k : ℕ) (f : Slot → Slot) → with_slot (s ∷ slots) (suc k) f ≡ s ∷ with_slot slots k f
with_slot-suc s slots k f = at (slice_get slots k)
  where
    at : (o : Option Slot) → option_map_or (λ x. write (s ∷ slots) (suc k) (f x)) o (s ∷ slots) ≡ s ∷ option_map_or (λ x. write slots k (f x)) o slots
    at None = refl
    at (Some x) = refl

-- two changes of one slot
pub with_slot-twice : (slots : List Slot) (k : ℕ) (f g : Slot → Slot) → with_slot (with_slot slots k f) k g ≡ with_slot slots k (λ s. g (f s))
with_slot-twice [] k f g = refl
with_slot-twice (s ∷ slots) zero f g = refl
with_slot-twice (s ∷ slots) (suc k) f g =
    ap (λ xs. with_slot xs (suc k) g) (with_slot-suc s slots k f) ∙ with_slot-suc s (with_slot slots k f) k g
    ∙ ap (λ xs. s ∷ xs) (with_slot-twice slots k f g) ∙ sym (with_slot-suc s slots k (λ x. g (f x)))

-- two changes of the blob of one slot
pub with_slot-both : (slots : List Slot) (k : ℕ) (f g : StoredBlob → StoredBlob) → with_slot (with_slot slots k (on_stored_blob f)) k (on_stored_blob g) ≡ with_slot slots k (on_stored_blob (λ h. g (f h)))
with_slot-both slots k f g = with_slot-twice slots k (on_stored_blob f) (on_stored_blob g) ∙ at (slice_get slots k)
  where
    by_content : (c : SlotContent) → content_with g (content_with f c) ≡ content_with (λ h. g (f h)) c
    by_content Free = refl
    by_content (Used h) = refl
    by_content Retired = refl

    at : (o : Option Slot) → option_map_or (λ s. write slots k (on_stored_blob g (on_stored_blob f s))) o slots ≡ option_map_or (λ s. write slots k (on_stored_blob (λ h. g (f h)) s)) o slots
    at None = refl
    at (Some s) = λ i. write slots k (record { generation = s.generation; content = by_content s.content i })

pub length-with_slot : (slots : List Slot) (k : ℕ) (f : Slot → Slot) → length (with_slot slots k f) ≡ length slots
length-with_slot [] k f = refl
length-with_slot (s ∷ slots) zero f = refl
length-with_slot (s ∷ slots) (suc k) f = ap length (with_slot-suc s slots k f) ∙ ap suc (length-with_slot slots k f)

pub slot-same : (slots : List Slot) (k : ℕ) (f : Slot → Slot) (s : Slot) → slice_get slots k ≡ Some s → slice_get (with_slot slots k f) k ≡ Some (f s)
slot-same [] k f s at = cc
slot-same (x ∷ slots) zero f s at = let e : x ≡ s = cc in ap (λ (y : Slot). Some (f y)) e
slot-same (x ∷ slots) (suc k) f s at = ap (λ xs. slice_get xs (suc k)) (with_slot-suc x slots k f) ∙ slot-same slots k f s at

pub slot-other : (slots : List Slot) (k : ℕ) (f : Slot → Slot) (m : ℕ) → (m ≡ k → ⊥) → slice_get (with_slot slots k f) m ≡ slice_get slots m
slot-other [] k f m differ = refl
slot-other (s ∷ slots) zero f zero differ = absurd (differ refl)
slot-other (s ∷ slots) zero f (suc m) differ = refl
slot-other (s ∷ slots) (suc k) f zero differ = ap (λ xs. slice_get xs 0) (with_slot-suc s slots k f)
slot-other (s ∷ slots) (suc k) f (suc m) differ = ap (λ xs. slice_get xs (suc m)) (with_slot-suc s slots k f) ∙ slot-other slots k f m (λ e. differ (ap suc e))

-- a change that does not affect a reading
pub map-with_slot : {A : Type 0} (g : Slot → A) (slots : List Slot) (k : ℕ) (f : Slot → Slot) → ((s : Slot) → slice_get slots k ≡ Some s → g (f s) ≡ g s) → map g (with_slot slots k f) ≡ map g slots
map-with_slot g [] k f same = refl
map-with_slot g (s ∷ slots) zero f same = ap (λ x. x ∷ map g slots) (same s refl)
map-with_slot g (s ∷ slots) (suc k) f same = ap (map g) (with_slot-suc s slots k f) ∙ ap (λ xs. g s ∷ xs) (map-with_slot g slots k f same)

pub count_by-with_slot : (p : Slot → Bool) (slots : List Slot) (k : ℕ) (f : Slot → Slot) → ((s : Slot) → slice_get slots k ≡ Some s → p (f s) ≡ p s) → count_by p (with_slot slots k f) ≡ count_by p slots
count_by-with_slot p [] k f same = refl
count_by-with_slot p (s ∷ slots) zero f same =
    sum_by-cons (λ x. cond (p x) 1 0) (f s) slots ∙ ap (λ b. cond b 1 0 + count_by p slots) (same s refl) ∙ sym (sum_by-cons (λ x. cond (p x) 1 0) s slots)
count_by-with_slot p (s ∷ slots) (suc k) f same =
    ap (count_by p) (with_slot-suc s slots k f) ∙ sum_by-cons (λ x. cond (p x) 1 0) s (with_slot slots k f)
    ∙ ap (λ n. cond (p s) 1 0 + n) (count_by-with_slot p slots k f same) ∙ sym (sum_by-cons (λ x. cond (p x) 1 0) s slots)

abbrev held_by : Option Slot → Option StoredBlob
held_by o = option_map_or (λ s. stored_blob_in s.content) o None

pub stored_blob_at-other : (slots : List Slot) (k : ℕ) (f : Slot → Slot) (m : ℕ) → (m ≡ k → ⊥) → stored_blob_at (with_slot slots k f) m ≡ stored_blob_at slots m
stored_blob_at-other slots k f m differ = ap held_by (slot-other slots k f m differ)

pub stored_blob_at-same : (slots : List Slot) (k : ℕ) (f : Slot → Slot) (s : Slot) → slice_get slots k ≡ Some s → stored_blob_at (with_slot slots k f) k ≡ stored_blob_in (f s).content
stored_blob_at-same slots k f s at = ap held_by (slot-same slots k f s at)

-- a slot that holds a blob is in the list
pub slot_of_held : (slots : List Slot) (k : ℕ) (h : StoredBlob) → stored_blob_at slots k ≡ Some h → (s : Slot) × (slice_get slots k ≡ Some s) × (stored_blob_in s.content ≡ Some h)
slot_of_held slots k h at = there (slice_get slots k) refl at
  where
    there : (o : Option Slot) → slice_get slots k ≡ o → held_by o ≡ Some h → (s : Slot) × (slice_get slots k ≡ Some s) × (stored_blob_in s.content ≡ Some h)
    there None e f = cc
    there (Some s) e f = (s, e, f)

-- a slot whose blob is not condemned is live
pub phase_live : (slots : List Slot) (k : ℕ) (h : StoredBlob) → stored_blob_at slots k ≡ Some h → h.condemned ≡ false → phase_at slots k ≡ phase.Live
phase_live slots k h at live =
    let s = slot_of_held slots k h at in
    ap (λ o. option_map_or (λ (x : Slot). phase_in x.content) o phase.Retired) s.1 ∙ by_content s.0.content s.2
  where
    by_content : (c : SlotContent) → stored_blob_in c ≡ Some h → phase_in c ≡ phase.Live
    by_content Free e = cc
    by_content (Used g) e = let same : g ≡ h = cc in ap (λ b. cond b phase.Condemned phase.Live) (ap (λ (x : StoredBlob). x.condemned) same ∙ live)
    by_content Retired e = cc

-- two changes that are alike for the slot's blob
pub with_slot-alike : (slots : List Slot) (k : ℕ) (f g : StoredBlob → StoredBlob) (h : StoredBlob) → stored_blob_at slots k ≡ Some h → f h ≡ g h → with_slot slots k (on_stored_blob f) ≡ with_slot slots k (on_stored_blob g)
with_slot-alike slots k f g h at same =
    let s = slot_of_held slots k h at in
    ap (λ o. option_map_or (λ x. write slots k (on_stored_blob f x)) o slots) s.1
    ∙ (λ i. write slots k (record { generation = s.0.generation; content = by_content s.0.content s.2 i }))
    ∙ sym (ap (λ o. option_map_or (λ x. write slots k (on_stored_blob g x)) o slots) s.1)
  where
    by_content : (c : SlotContent) → stored_blob_in c ≡ Some h → content_with f c ≡ content_with g c
    by_content Free e = refl
    by_content (Used x) e = let is : x ≡ h = some_same e in ap Used (ap f is ∙ same ∙ ap g (sym is))
    by_content Retired e = refl

-- ---- a change of a slot's content

module _ (g : StoredBlob → StoredBlob) where
  same_retired : (c : SlotContent) (n : ℕ) → is_retired (record { generation = n; content = content_with g c }) ≡ is_retired (record { generation = n; content = c })
  same_retired Free n = refl
  same_retired (Used h) n = refl
  same_retired Retired n = refl

  pub retired-with_slot : (slots : List Slot) (k : ℕ) → count_by is_retired (with_slot slots k (on_stored_blob g)) ≡ count_by is_retired slots
  retired-with_slot slots k = count_by-with_slot is_retired slots k (on_stored_blob g) (λ s at. same_retired s.content s.generation)

  held_content : (c : SlotContent) → stored_blob_in (content_with g c) ≡ option_map g (stored_blob_in c)
  held_content Free = refl
  held_content (Used h) = refl
  held_content Retired = refl

  pub stored_blob_at-on : (slots : List Slot) (k : ℕ) (h : StoredBlob) → stored_blob_at slots k ≡ Some h → stored_blob_at (with_slot slots k (on_stored_blob g)) k ≡ Some (g h)
  stored_blob_at-on slots k h at =
      let s = slot_of_held slots k h at in
      stored_blob_at-same slots k (on_stored_blob g) s.0 s.1 ∙ held_content s.0.content ∙ ap (option_map g) s.2

  -- each slot holds its blob as before, or the changed blob
  pub held_before : (P : StoredBlob → StoredBlob → Type 0) → ((h : StoredBlob) → P (g h) h) → ((h : StoredBlob) → P h h) → (slots : List Slot) (k : ℕ) (h : StoredBlob) → stored_blob_at slots k ≡ Some h
      → (m : ℕ) (x : StoredBlob) → stored_blob_at (with_slot slots k (on_stored_blob g)) m ≡ Some x → (y : StoredBlob) × (stored_blob_at slots m ≡ Some y) × P x y
  held_before P changed same slots k h at m x here = elim (cases_eq m k) [
    | inl e ↦ (h, ap (stored_blob_at slots) e ∙ at, subst (λ (z : StoredBlob). P z h) (some_same (sym (stored_blob_at-on slots k h at) ∙ ap (stored_blob_at (with_slot slots k (on_stored_blob g))) (sym e) ∙ here)) (changed h))
    | inr other ↦ (x, sym (stored_blob_at-other slots k (on_stored_blob g) m other) ∙ here, same x)
  ]
