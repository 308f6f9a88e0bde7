-- The residents after a blob was placed in a free slot.
use Rattle.std.proofs.Common.{◌≡◌, ℕ, Bool, true, false, cond, List, [], ◌∷◌, Option, Some, None, refl, sym, ap, ◌∙◌}
use Prim.Native.Nat.{zero, suc}
use Rattle.std.specs.Prelude.{slice_get}
use Rattle.std.specs.Ordering.{eq_by_cmp}
use Rattle.std.specs.Cmp.{Equal-is}
use Rattle.std.specs.Cmp.Lexicographic.{nat_list_cmp_total}
use Rattle.std.specs.FinMap.{find, get, insert, get-from_entries, get-insert, same_map}
use Rattle.std.proofs.lemmas.Map.Lookups.{exact_bytes}
use Rattle.slot_table.specs.declared.phase.Phase.TheVariants as phase
use Rattle.slot_table.specs.Slots.{Slot, SlotContent, Free, Used, Retired, with_slot, fill, phase_at, phase_in}
use Rattle.spec_lib.proofs.Options.{some_none}
use Rattle.spec_lib.specs.Texts.{Text, text_cmp}
use Rattle.store_model.specs.Catalog.{Resident}
use Rattle.store_book.proofs.Slots.Writes.{with_slot-suc}
use Rattle.store_book.specs.Layers.{resident_of, with_resident, resident_rows, residents_of}

module _ (blob : Text × Text) where
  abbrev pub stored : Bool → Resident
  stored m = record { bytes = blob.1; condemned = false; lent = m }

  -- two keys that differ
  pub swapped : (q d : Text) (x y : Resident) (o : Option Resident) → eq_by_cmp text_cmp blob.0 d ≡ false → cond (eq_by_cmp text_cmp q d) (Some y) (cond (eq_by_cmp text_cmp q blob.0) (Some x) o) ≡ cond (eq_by_cmp text_cmp q blob.0) (Some x) (cond (eq_by_cmp text_cmp q d) (Some y) o)
  swapped q d x y o differ = at (eq_by_cmp text_cmp q d) (eq_by_cmp text_cmp q blob.0) refl refl
    where
      at : (a b : Bool) → eq_by_cmp text_cmp q d ≡ a → eq_by_cmp text_cmp q blob.0 ≡ b → cond a (Some y) (cond b (Some x) o) ≡ cond b (Some x) (cond a (Some y) o)
      at true true e f = clash (sym (ap (λ z. eq_by_cmp text_cmp z d) (exact_bytes q blob.0 ((Equal-is (text_cmp q blob.0)).0 f))) ∙ e)
        where
          clash : eq_by_cmp text_cmp blob.0 d ≡ true → Some y ≡ Some x
          clash e = absurd (let t : true ≡ false = sym e ∙ differ in cc)
      at true false e f = refl
      at false true e f = refl
      at false false e f = refl

  apart_from : (q d : Text) (b : Bool) (v : Resident) (o : Option Resident) → cond b (Some v) o ≡ None → (b ≡ false) × (o ≡ None)
  apart_from q d true v o e = some_none e
  apart_from q d false v o e = (refl, e)

  free_content : (c : SlotContent) → phase_in c ≡ phase.Free → (m : Bool) (rest : List (Text × Resident)) → with_resident c m rest ≡ rest
  free_content Free e m rest = refl
  free_content (Used h) e m rest = not_free h.condemned e
    where
      not_free : (b : Bool) → cond b phase.Condemned phase.Live ≡ phase.Free → with_resident (Used h) m rest ≡ rest
      not_free true e = cc
      not_free false e = cc
  free_content Retired e m rest = cc

  find-fill : (slots : List Slot) (k : ℕ) (marks : List Bool) (m : Bool) (q : Text) → phase_at slots k ≡ phase.Free → slice_get marks k ≡ Some m → find text_cmp blob.0 (resident_rows slots marks) ≡ None →
      find text_cmp q (resident_rows (with_slot slots k (fill blob)) marks) ≡ cond (eq_by_cmp text_cmp q blob.0) (Some (stored m)) (find text_cmp q (resident_rows slots marks))
  find-fill [] k marks m q free at none = no_slot free
    where
      no_slot : phase.Retired ≡ phase.Free → find text_cmp q (resident_rows (with_slot [] k (fill blob)) marks) ≡ cond (eq_by_cmp text_cmp q blob.0) (Some (stored m)) (find text_cmp q (resident_rows [] marks))
      no_slot e = cc
  find-fill (s ∷ slots) k [] m q free at none = some_none (sym at)
  find-fill (s ∷ slots) zero (x ∷ marks) m q free at none =
      (let same : x ≡ m = cc in λ i. cond (eq_by_cmp text_cmp q blob.0) (Some (stored (same i))) (find text_cmp q (resident_rows slots marks)))
      ∙ ap (λ rows. cond (eq_by_cmp text_cmp q blob.0) (Some (stored m)) (find text_cmp q rows)) (sym (free_content s.content free x (resident_rows slots marks)))
  find-fill (s ∷ slots) (suc k) (x ∷ marks) m q free at none =
      ap (λ rows. find text_cmp q (resident_rows rows (x ∷ marks))) (with_slot-suc s slots k (fill blob))
      ∙ under s.content none (λ h. find-fill slots k marks m q free at h)
    where
      under : (c : SlotContent) → find text_cmp blob.0 (with_resident c x (resident_rows slots marks)) ≡ None →
          (find text_cmp blob.0 (resident_rows slots marks) ≡ None → find text_cmp q (resident_rows (with_slot slots k (fill blob)) marks) ≡ cond (eq_by_cmp text_cmp q blob.0) (Some (stored m)) (find text_cmp q (resident_rows slots marks))) →
          find text_cmp q (with_resident c x (resident_rows (with_slot slots k (fill blob)) marks)) ≡ cond (eq_by_cmp text_cmp q blob.0) (Some (stored m)) (find text_cmp q (with_resident c x (resident_rows slots marks)))
      under Free none rest = rest none
      under (Used h) none rest =
          let parts = apart_from q h.digest (eq_by_cmp text_cmp blob.0 h.digest) (resident_of x h) (find text_cmp blob.0 (resident_rows slots marks)) none in
          ap (cond (eq_by_cmp text_cmp q h.digest) (Some (resident_of x h))) (rest parts.1)
          ∙ swapped q h.digest (stored m) (resident_of x h) (find text_cmp q (resident_rows slots marks)) parts.0
      under Retired none rest = rest none

  -- the new blob is resident, and the others are unchanged
  pub residents-fill : (slots : List Slot) (k : ℕ) (marks : List Bool) (m : Bool) → phase_at slots k ≡ phase.Free → slice_get marks k ≡ Some m → get (residents_of slots marks) blob.0 ≡ None →
      residents_of (with_slot slots k (fill blob)) marks ≡ insert (residents_of slots marks) blob.0 (stored m)
  residents-fill slots k marks m free at none = same_map nat_list_cmp_total exact_bytes (residents_of (with_slot slots k (fill blob)) marks) (insert (residents_of slots marks) blob.0 (stored m)) (λ q.
      get-from_entries nat_list_cmp_total (resident_rows (with_slot slots k (fill blob)) marks) q
      ∙ find-fill slots k marks m q free at (sym (get-from_entries nat_list_cmp_total (resident_rows slots marks) blob.0) ∙ none)
      ∙ sym (get-insert nat_list_cmp_total (residents_of slots marks) blob.0 (stored m) q ∙ ap (cond (eq_by_cmp text_cmp q blob.0) (Some (stored m))) (get-from_entries nat_list_cmp_total (resident_rows slots marks) q)))
