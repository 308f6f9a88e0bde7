-- The queries of a book, by the clauses of their calls of the layers.
use Rattle.std.proofs.Common.{◌≡◌, ℕ, ◌+◌, ◌<◌, Bool, true, false, cond, List, [], ◌∷◌, length, Some, None, Ok, Err, refl, sym, ap, ◌∙◌, arith}
use Rattle.std.specs.Option.{option_map_or}
use Rattle.std.specs.FinMap.{len}
use Rattle.std.specs.List.{count_by}
use Rattle.std.proofs.lemmas.List.Sums.{sum_by-cons}
use Rattle.blob_digest.specs.declared.refusal.Refusal.TheVariants.{BlobUnknown}
use Rattle.spec_lib.specs.Texts.{Text}
use Rattle.slot_table.specs.declared.phase.Phase.TheVariants as phase
use Rattle.slot_table.specs.Slots.{Slot, StoredBlob, SlotContent, Free, Used, Retired, stored_blob_at, is_free as is_free_slot, free_slots as free_count}
use Rattle.link_table.specs.Linked.{known_tenant, used_in, quota_in, blobs_of, share_in, tenant_repo_count}
use Rattle.store_model.specs.Catalog.{Catalog}
use Rattle.store_model.specs.Queries.{stat, usage, slot_use, repo_count, free_slots}
use Rattle.store_book.specs.BookState.{SlotView}
use Rattle.store_book.specs.FreeSlots.{is_free}
use Rattle.store_book.specs.Internal.Storing.{bytes_at, linked_slot}
use Rattle.store_book.specs.Layers.{Layers, lent_marks, book_catalog, IsBook}
use Rattle.store_book.specs.Pinned.{Pinned, slot_view, slot_views, slot_views_of, with_looks}
use Rattle.store_book.proofs.Layers.LinkedSlots.{blobs_counted, linked_none}
use Rattle.store_book.proofs.Layers.Ties.{rooms}
use Rattle.store_book.proofs.Refine.Lease.{held, has, resident}
use Rattle.store_book.proofs.Refine.Take.{use_is}
use Rattle.store_book.proofs.Slots.LeaseMarks.{length-marks}

module _ (L : Layers) (t : ℕ) (repo : Text) (book : IsBook L) (known : known_tenant L.links repo ≡ Ok t) where
  abbrev C : Catalog
  C = book_catalog L

  -- the running numbers are those of the catalog
  pub usage_is : t < length L.links.tenants → usage C repo ≡ Ok (record { used = used_in L.links t; quota = quota_in L.links.tenants t })
  usage_is there = rw known (λ i. Ok (record { used = sym (use_is L t book there) i; quota = quota_in L.links.tenants t }))

  pub slot_use_is : slot_use C repo ≡ Ok (record { blobs = len (blobs_of L.links t); share = share_in L.links.tenants t })
  slot_use_is = rw known (λ i. Ok (record { blobs = sym (blobs_counted L book t) i; share = share_in L.links.tenants t }))

  pub repo_count_is : repo_count C repo ≡ Ok (tenant_repo_count L.links.tenants L.links.repos t)
  repo_count_is = rw known refl

  module _ (digest : Text) where
    pub stat_unknown : linked_slot L.links L.slots repo digest ≡ None → stat C repo digest ≡ Err BlobUnknown
    stat_unknown none = rw (known, linked_none L book repo digest none) refl

    module _ (k : ℕ) (at_slot : linked_slot L.links L.slots repo digest ≡ Some k) where
      abbrev there : (h : StoredBlob) × (stored_blob_at L.slots k ≡ Some h) × (h.digest ≡ digest)
      there = held L t repo digest book known k at_slot

      pub stat_is : stat C repo digest ≡ Ok (length (bytes_at L.slots k))
      stat_is =
          rw (known, has L t repo digest book known k at_slot, resident L t repo digest book known k at_slot)
          (ap (λ o. Ok (length (option_map_or (λ (h : StoredBlob). h.bytes) o []))) (sym there.1))

-- ---- free slots

-- the number of free slots is that of the catalog
pub free_left : (L : Layers) → IsBook L → free_count L.slots ≡ free_slots (book_catalog L)
free_left L book = let all = rooms L (lent_marks L.slots) (length-marks L.slots) book.tied.distinct in omega arith

free_as_seen : (s : Slot) (bound : ℕ) → is_free (slot_view s bound) ≡ is_free_slot s
free_as_seen s bound = by_content s.content
  where
    by_mark : (b : Bool) → elim (cond b phase.Condemned phase.Live) [ phase.Free ↦ true | phase.Live ↦ false | phase.Condemned ↦ false | phase.Retired ↦ false ] ≡ false
    by_mark true = refl
    by_mark false = refl

    by_content : (c : SlotContent) → is_free (slot_view (record { generation = s.generation; content = c }) bound) ≡ is_free_slot (record { generation = s.generation; content = c })
    by_content Free = refl
    by_content (Used h) = by_mark h.condemned
    by_content Retired = refl

abbrev as_one : Bool → ℕ
as_one b = cond b 1 0

-- the number of looks at a slot does not make it free
count-with_looks : (looks : List ℕ) (xs : List SlotView) → count_by is_free (with_looks looks xs) ≡ count_by is_free xs
count-with_looks looks [] = refl
count-with_looks [] (s ∷ xs) = sum_by-cons (λ x. as_one (is_free x)) (record s { looks = 0 }) (with_looks [] xs) ∙ ap (λ n. as_one (is_free s) + n) (count-with_looks [] xs) ∙ sym (sum_by-cons (λ x. as_one (is_free x)) s xs)
count-with_looks (n ∷ looks) (s ∷ xs) = sum_by-cons (λ x. as_one (is_free x)) (record s { looks = n }) (with_looks looks xs) ∙ ap (λ n. as_one (is_free s) + n) (count-with_looks looks xs) ∙ sym (sum_by-cons (λ x. as_one (is_free x)) s xs)

-- its bound does not make it free either
count-slot_views : (slots : List Slot) (bounds : List ℕ) → count_by is_free (slot_views slots bounds) ≡ free_count slots
count-slot_views [] bounds = refl
count-slot_views (s ∷ slots) [] = sum_by-cons (λ x. as_one (is_free x)) (slot_view s 0) (slot_views slots []) ∙ (λ i. as_one (free_as_seen s 0 i) + count-slot_views slots [] i) ∙ sym (sum_by-cons (λ x. as_one (is_free_slot x)) s slots)
count-slot_views (s ∷ slots) (b ∷ bounds) = sum_by-cons (λ x. as_one (is_free x)) (slot_view s b) (slot_views slots bounds) ∙ (λ i. as_one (free_as_seen s b i) + count-slot_views slots bounds i) ∙ sym (sum_by-cons (λ x. as_one (is_free_slot x)) s slots)

pub free_seen : (p : Pinned) → free_count p.slots ≡ count_by is_free (slot_views_of p)
free_seen p = sym (count-with_looks p.looks (slot_views p.slots p.bounds) ∙ count-slot_views p.slots p.bounds)
