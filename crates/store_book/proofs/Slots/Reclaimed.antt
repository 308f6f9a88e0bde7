-- Condemning and reclaiming a slot: the slots and the keeper's rows agree.
use Rattle.std.proofs.Common.{◌≡◌, ◌≢◌, ℕ, ◌<◌, Bool, true, false, cond, List, [], ◌∷◌, map, Option, Some, None, refl, sym, ap, ◌∙◌, arith, inl, inr}
use Prim.Native.Nat.{zero, suc}
use Rattle.std.specs.Prelude.{slice_get, slice_index, slice_set, ◌==◌}
use Rattle.std.specs.Option.{option_map_or}
use Rattle.std.proofs.lemmas.Bool.{cases_eq, eqb-true, eq-eqb, false_from_ne_true}
use Rattle.std.proofs.lemmas.List.{get_or-set_other}
use Rattle.std.proofs.Math.ListN.{length-set}
use Rattle.pin_core.specs.declared.world.PinRow.{PinRow}
use Rattle.pin_core.specs.Events.{last_generation, reclaimed_row}
use Rattle.pin_core.specs.World.{row}
use Rattle.slot_table.specs.declared.phase.Phase.TheVariants as phase
use Rattle.slot_table.specs.Slots.{Slot, StoredBlob, SlotContent, Free, Used, Retired, stored_blob_in, stored_blob_at, phase_in, phase_at, generation_at, is_orphan, with_slot, on_stored_blob, content_with, mark, freed_slot, retire}
use Rattle.store_book.specs.Pinned.{IsPinned, is_orphan_at, row_of}
use Rattle.store_book.proofs.Slots.Pinned.{condemned_slot, row-at, rows-write}
use Rattle.store_book.proofs.Slots.Writes.{stored_blob_at-other, stored_blob_at-same, length-with_slot, with_slot-suc}

-- ---- orphans

-- an orphan is a blob without links
pub orphan_held : (c : SlotContent) → option_map_or (λ (h : StoredBlob). h.links == 0) (stored_blob_in c) false ≡ true → (h : StoredBlob) × (c ≡ Used h) × (h.links ≡ 0)
orphan_held Free e = absurd cc
orphan_held (Used h) e = (h, refl, eqb-true h.links 0 e)
orphan_held Retired e = absurd cc

pub orphan_slot : (slots : List Slot) (k : ℕ) → is_orphan_at slots k ≡ true → (s : Slot) × (slice_get slots k ≡ Some s) × (is_orphan s ≡ true)
orphan_slot slots k is = by (slice_get slots k) refl is
  where
    by : (o : Option Slot) → slice_get slots k ≡ o → option_map_or is_orphan o false ≡ true → (s : Slot) × (slice_get slots k ≡ Some s) × (is_orphan s ≡ true)
    by None e f = absurd cc
    by (Some s) e f = (s, e, f)

-- a condemned blob has nothing to condemn
pub condemned-same : (slots : List Slot) (k : ℕ) → phase_at slots k ≢ phase.Live → with_slot slots k (on_stored_blob (mark true)) ≡ slots
condemned-same [] k not = refl
condemned-same (s ∷ slots) zero not = ap (λ (x : Slot). x ∷ slots) (λ i. record { generation = s.generation; content = by_content s.content not i })
  where
    by_content : (c : SlotContent) → phase_in c ≢ phase.Live → content_with (mark true) c ≡ c
    by_content Free e = refl
    by_content (Used x) e = at x.condemned refl e
      where
        at : (b : Bool) → x.condemned ≡ b → cond b phase.Condemned phase.Live ≢ phase.Live → Used (mark true x) ≡ Used x
        at true is e = λ i. Used (record { digest = x.digest; bytes = x.bytes; condemned = sym is i; lent = x.lent; links = x.links })
        at false is e = absurd (e refl)
    by_content Retired e = refl
condemned-same (s ∷ slots) (suc k) not = with_slot-suc s slots k (on_stored_blob (mark true)) ∙ ap (λ xs. s ∷ xs) (condemned-same slots k not)

-- ---- reclaiming

-- the row of a condemned slot
pub row_there : (slots : List Slot) (rows : List PinRow) (bounds : List ℕ) → IsPinned slots rows bounds → (k : ℕ) → phase_at slots k ≡ phase.Condemned → (s : Slot) × (slice_get slots k ≡ Some s) × (row rows k ≡ row_of s) × (generation_at slots k ≡ s.generation)
row_there slots rows bounds kept k is =
    let s = condemned_slot slots k is in
    (s.0, s.1, ap (λ rs. row rs k) kept.same_rows ∙ row-at slots k s.0 s.1, ap (λ o. option_map_or (λ (x : Slot). x.generation) o 0) s.1)

-- a slot that was emptied
cleared : (f : Slot → Slot) → ((s : Slot) → stored_blob_in (f s).content ≡ None) → (slots : List Slot) (rows : List PinRow) (bounds : List ℕ) → IsPinned slots rows bounds → (k : ℕ) (s : Slot) → slice_get slots k ≡ Some s → row rows k ≡ row_of s → reclaimed_row (row_of s) ≡ row_of (f s) →
    IsPinned (with_slot slots k f) (slice_set rows k (reclaimed_row (row rows k))) (slice_set bounds k 0)
cleared f nothing slots rows bounds kept k s at is_row becomes = record {
  same_rows =
      ap (λ (r : PinRow). slice_set rows k (reclaimed_row r)) is_row
      ∙ ap (λ rs. slice_set rs k (reclaimed_row (row_of s))) kept.same_rows
      ∙ ap (slice_set (map row_of slots) k) becomes
      ∙ rows-write slots k f s at;
  one_each = length-set bounds k 0 ∙ kept.one_each ∙ sym (length-with_slot slots k f);
  unlent = unlent;
}
  where
    unlent : (j : ℕ) (h : StoredBlob) → stored_blob_at (with_slot slots k f) j ≡ Some h → h.lent ≡ false → slice_index (slice_set bounds k 0) j ≡ 0
    unlent j h here mark = elim (cases_eq j k) [
      | inl e ↦ (let clash : None ≡ Some h = sym (nothing s) ∙ sym (stored_blob_at-same slots k f s at) ∙ ap (stored_blob_at (with_slot slots k f)) (sym e) ∙ here in absurd cc)
      | inr other ↦ get_or-set_other bounds k j 0 0 other ∙ kept.unlent j h (sym (stored_blob_at-other slots k f j other) ∙ here) mark
    ]

pub IsPinned-freed : (slots : List Slot) (rows : List PinRow) (bounds : List ℕ) → IsPinned slots rows bounds → (k : ℕ) → phase_at slots k ≡ phase.Condemned → (row rows k).generation < last_generation →
    IsPinned (with_slot slots k freed_slot) (slice_set rows k (reclaimed_row (row rows k))) (slice_set bounds k 0)
IsPinned-freed slots rows bounds kept k is young =
    let r = row_there slots rows bounds kept k is in
    let same : (row rows k).generation ≡ r.0.generation = ap (λ (x : PinRow). x.generation) r.2 in
    let test : (r.0.generation == last_generation) ≡ false = false_from_ne_true (r.0.generation == last_generation) (λ e. let last : r.0.generation ≡ last_generation = eqb-true r.0.generation last_generation e in omega arith) in
    cleared freed_slot (λ s. refl) slots rows bounds kept k r.0 r.1 r.2 (rw test refl)

pub IsPinned-retired : (slots : List Slot) (rows : List PinRow) (bounds : List ℕ) → IsPinned slots rows bounds → (k : ℕ) → phase_at slots k ≡ phase.Condemned → (row rows k).generation ≡ last_generation →
    IsPinned (with_slot slots k retire) (slice_set rows k (reclaimed_row (row rows k))) (slice_set bounds k 0)
IsPinned-retired slots rows bounds kept k is last =
    let r = row_there slots rows bounds kept k is in
    let test : (r.0.generation == last_generation) ≡ true = eq-eqb r.0.generation last_generation (sym (ap (λ (x : PinRow). x.generation) r.2) ∙ last) in
    cleared retire (λ s. refl) slots rows bounds kept k r.0 r.1 r.2 (rw test refl)

-- the generation of a condemned slot is that of its row
pub generation_row : (slots : List Slot) (rows : List PinRow) (bounds : List ℕ) → IsPinned slots rows bounds → (k : ℕ) → phase_at slots k ≡ phase.Condemned → generation_at slots k ≡ (row rows k).generation
generation_row slots rows bounds kept k is = let r = row_there slots rows bounds kept k is in r.3 ∙ ap (λ (x : PinRow). x.generation) (sym r.2)
