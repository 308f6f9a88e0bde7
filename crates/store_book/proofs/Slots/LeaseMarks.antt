-- The ever-leased marks of the slots.
use Rattle.std.proofs.Common.{◌≡◌, ℕ, false, List, [], ◌∷◌, length, Some, refl, sym, ap, ◌∙◌}
use Prim.Native.Nat.{zero, suc}
use Rattle.std.specs.Prelude.{slice_get}
use Rattle.std.specs.Option.{option_map_or}
use Rattle.slot_table.specs.declared.phase.Phase.TheVariants as phase
use Rattle.slot_table.specs.Slots.{Slot, StoredBlob, SlotContent, Free, Used, Retired, stored_blob_in, phase_at, with_slot, on_stored_blob, content_with, fill}
use Rattle.spec_lib.specs.Texts.{Text}
use Rattle.store_book.specs.Layers.{is_lent, lent_marks}
use Rattle.spec_lib.proofs.Options.{some_same}
use Rattle.store_book.proofs.Slots.Writes.{map-with_slot}
use Rattle.store_book.proofs.Slots.Placed.{free_slot}

pub length-marks : (slots : List Slot) → length (lent_marks slots) ≡ length slots
length-marks [] = refl
length-marks (s ∷ slots) = ap suc (length-marks slots)

pub mark_at : (slots : List Slot) (k : ℕ) (s : Slot) → slice_get slots k ≡ Some s → slice_get (lent_marks slots) k ≡ Some (is_lent s)
mark_at [] k s e = cc
mark_at (x ∷ slots) zero s e = ap (λ y. Some (is_lent y)) (some_same e)
mark_at (x ∷ slots) (suc k) s e = mark_at slots k s e

-- a change of a blob that keeps its mark
pub marks-on : (g : StoredBlob → StoredBlob) → ((h : StoredBlob) → (g h).lent ≡ h.lent) → (slots : List Slot) (k : ℕ) → lent_marks (with_slot slots k (on_stored_blob g)) ≡ lent_marks slots
marks-on g keeps slots k = map-with_slot is_lent slots k (on_stored_blob g) (λ s here. by_content s.content)
  where
    by_content : (c : SlotContent) → option_map_or (λ h. h.lent) (stored_blob_in (content_with g c)) false ≡ option_map_or (λ h. h.lent) (stored_blob_in c) false
    by_content Free = refl
    by_content (Used h) = keeps h
    by_content Retired = refl

-- a free slot has no mark, and none when it is filled
pub unmarked : (slots : List Slot) (k : ℕ) → phase_at slots k ≡ phase.Free → slice_get (lent_marks slots) k ≡ Some false
unmarked slots k free = let s = free_slot slots k free in mark_at slots k s.0 s.1 ∙ ap (λ o. Some (option_map_or (λ (h : StoredBlob). h.lent) o false)) s.2

pub marks-fill : (blob : Text × Text) (slots : List Slot) (k : ℕ) → phase_at slots k ≡ phase.Free → lent_marks (with_slot slots k (fill blob)) ≡ lent_marks slots
marks-fill blob slots k free =
    let s = free_slot slots k free in
    map-with_slot is_lent slots k (fill blob) (λ x here. let same : s.0 ≡ x = some_same (sym s.1 ∙ here) in sym (ap is_lent (sym same) ∙ ap (λ o. option_map_or (λ (h : StoredBlob). h.lent) o false) s.2))
