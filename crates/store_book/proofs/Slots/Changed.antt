-- After a change of a stored blob that keeps its digest, its length and its links, the catalog has the changed blob and the layers agree.
use Rattle.std.proofs.Common.{◌≡◌, ℕ, Bool, true, false, cond, List, [], ◌∷◌, length, Option, Some, refl, sym, ap, ◌∙◌, subst, arith, inl, inr}
use Prim.Native.Nat.{zero, suc}
use Rattle.std.specs.Option.{option_map_or}
use Rattle.std.specs.Ordering.{eq_by_cmp, is_eq}
use Rattle.std.specs.Cmp.{tied_itself, Equal-is}
use Rattle.std.specs.Cmp.Lexicographic.{nat_list_cmp_total}
use Rattle.std.specs.FinMap.{find, get, insert, get-from_entries, get-insert, same_map}
use Rattle.std.proofs.lemmas.Bool.{false_from_ne_true}
use Rattle.std.proofs.lemmas.Map.Lookups.{exact_bytes}
use Rattle.slot_table.specs.Slots.{Slot, StoredBlob, SlotContent, Free, Used, Retired, stored_blob_at, stored_blob_in, IsDistinct, with_slot, on_stored_blob, content_with, mark, lend}
use Rattle.spec_lib.specs.Texts.{Text, text_cmp}
use Rattle.store_model.specs.Catalog.{Link, Resident, Catalog, link_count}
use Rattle.store_book.specs.Internal.Storing.{renew}
use Rattle.store_book.specs.Layers.{Layers, resident_of, with_resident, resident_rows, residents_of, lent_marks, book_catalog, IsTied}
use Rattle.store_book.proofs.Layers.Sums.{IsDistinct-rest}
use Rattle.store_book.proofs.Slots.Filled.{swapped}
use Rattle.store_book.proofs.Slots.LeaseMarks.{length-marks}
use Rattle.spec_lib.proofs.Options.{some_same}
use Rattle.spec_lib.proofs.Maps.{cases_key, get-insert_at, get-insert_other}
use Rattle.store_book.proofs.Slots.Writes.{with_slot-suc, length-with_slot, held_before, retired-with_slot}

abbrev rows_of : List Slot → List (Text × Resident)
rows_of slots = resident_rows slots (lent_marks slots)

-- two slots' digests differ
apart : (s : Slot) (slots : List Slot) (x h : StoredBlob) (k : ℕ) → stored_blob_in s.content ≡ Some x → stored_blob_at slots k ≡ Some h → IsDistinct (s ∷ slots) → eq_by_cmp text_cmp h.digest x.digest ≡ false
apart s slots x h k here at distinct = false_from_ne_true (eq_by_cmp text_cmp h.digest x.digest) (λ tie.
    let same : suc k ≡ 0 = distinct (suc k) 0 h x at here (exact_bytes h.digest x.digest ((Equal-is (text_cmp h.digest x.digest)).0 tie)) in omega arith)

-- the blob of a slot is resident, with its marks
resident_row : (slots : List Slot) (k : ℕ) (h : StoredBlob) → stored_blob_at slots k ≡ Some h → IsDistinct slots → find text_cmp h.digest (rows_of slots) ≡ Some (resident_of h.lent h)
resident_row [] k h at distinct = cc
resident_row (s ∷ slots) zero h at distinct = by_content s.content at
  where
    by_content : (c : SlotContent) → stored_blob_in c ≡ Some h → find text_cmp h.digest (with_resident c (option_map_or (λ x. x.lent) (stored_blob_in c) false) (rows_of slots)) ≡ Some (resident_of h.lent h)
    by_content Free e = cc
    by_content (Used x) e =
        let same : x ≡ h = some_same e in
        ap (λ (y : StoredBlob). cond (eq_by_cmp text_cmp h.digest y.digest) (Some (resident_of y.lent y)) (find text_cmp h.digest (rows_of slots))) same
        ∙ ap (λ b. cond b (Some (resident_of h.lent h)) (find text_cmp h.digest (rows_of slots))) (ap is_eq (tied_itself nat_list_cmp_total h.digest))
    by_content Retired e = cc
resident_row (s ∷ slots) (suc k) h at distinct = by_content (resident_row slots k h at (IsDistinct-rest s slots distinct)) s.content refl
  where
    by_content : find text_cmp h.digest (rows_of slots) ≡ Some (resident_of h.lent h) → (c : SlotContent) → s.content ≡ c → find text_cmp h.digest (with_resident c (option_map_or (λ x. x.lent) (stored_blob_in c) false) (rows_of slots)) ≡ Some (resident_of h.lent h)
    by_content rest Free e = rest
    by_content rest (Used x) e = ap (λ b. cond b (Some (resident_of x.lent x)) (find text_cmp h.digest (rows_of slots))) (apart s slots x h k (ap stored_blob_in e) at distinct) ∙ rest
    by_content rest Retired e = rest

pub resident_at : (slots : List Slot) (k : ℕ) (h : StoredBlob) → stored_blob_at slots k ≡ Some h → IsDistinct slots → get (residents_of slots (lent_marks slots)) h.digest ≡ Some (resident_of h.lent h)
resident_at slots k h at distinct = get-from_entries nat_list_cmp_total (rows_of slots) h.digest ∙ resident_row slots k h at distinct

-- a change keeps the digest and the links
pub record KeepsTies (g : StoredBlob → StoredBlob) : Type 0 where
  pub digest : (h : StoredBlob) → (g h).digest ≡ h.digest
  pub links : (h : StoredBlob) → (g h).links ≡ h.links

pub mark-KeepsTies : (b : Bool) → KeepsTies (mark b)
mark-KeepsTies b = record { digest = λ h. refl; links = λ h. refl }

pub lend-KeepsTies : KeepsTies lend
lend-KeepsTies = record { digest = λ h. refl; links = λ h. refl }

pub renew-KeepsTies : (content : Text) → KeepsTies (renew content)
renew-KeepsTies content = record { digest = λ h. refl; links = λ h. refl }

module _ (g : StoredBlob → StoredBlob) (keeps : KeepsTies g) where
  abbrev marked : StoredBlob → Resident
  marked h = resident_of (g h).lent (g h)

  abbrev Finds : List Slot → ℕ → StoredBlob → Text → Type 0
  Finds slots k h q = find text_cmp q (rows_of (with_slot slots k (on_stored_blob g))) ≡ cond (eq_by_cmp text_cmp q h.digest) (Some (marked h)) (find text_cmp q (rows_of slots))

  find-change : (slots : List Slot) (k : ℕ) (h : StoredBlob) (q : Text) → stored_blob_at slots k ≡ Some h → IsDistinct slots → Finds slots k h q
  find-change [] k h q at distinct = cc
  find-change (s ∷ slots) zero h q at distinct = by_content s.content at
    where
      twice : (b : Bool) (x y : Resident) (o : Option Resident) → cond b (Some x) o ≡ cond b (Some x) (cond b (Some y) o)
      twice true x y o = refl
      twice false x y o = refl

      by_content : (c : SlotContent) → stored_blob_in c ≡ Some h → find text_cmp q (with_resident (content_with g c) (option_map_or (λ x. x.lent) (stored_blob_in (content_with g c)) false) (rows_of slots))
          ≡ cond (eq_by_cmp text_cmp q h.digest) (Some (marked h)) (find text_cmp q (with_resident c (option_map_or (λ x. x.lent) (stored_blob_in c) false) (rows_of slots)))
      by_content Free e = cc
      by_content (Used x) e =
          let same : x ≡ h = some_same e in
          ap (λ (d : Text). cond (eq_by_cmp text_cmp q d) (Some (marked x)) (find text_cmp q (rows_of slots))) (keeps.digest x)
          ∙ twice (eq_by_cmp text_cmp q x.digest) (marked x) (resident_of x.lent x) (find text_cmp q (rows_of slots))
          ∙ ap (λ (y : StoredBlob). cond (eq_by_cmp text_cmp q y.digest) (Some (marked y)) (cond (eq_by_cmp text_cmp q x.digest) (Some (resident_of x.lent x)) (find text_cmp q (rows_of slots)))) same
      by_content Retired e = cc
  find-change (s ∷ slots) (suc k) h q at distinct =
      ap (λ (xs : List Slot). find text_cmp q (rows_of xs)) (with_slot-suc s slots k (on_stored_blob g)) ∙ by_content (find-change slots k h q at (IsDistinct-rest s slots distinct)) s.content refl
    where
      by_content : Finds slots k h q → (c : SlotContent) → s.content ≡ c → find text_cmp q (with_resident c (option_map_or (λ x. x.lent) (stored_blob_in c) false) (rows_of (with_slot slots k (on_stored_blob g))))
          ≡ cond (eq_by_cmp text_cmp q h.digest) (Some (marked h)) (find text_cmp q (with_resident c (option_map_or (λ x. x.lent) (stored_blob_in c) false) (rows_of slots)))
      by_content rest Free e = rest
      by_content rest (Used x) e =
          ap (cond (eq_by_cmp text_cmp q x.digest) (Some (resident_of x.lent x))) rest
          ∙ swapped (h.digest, h.bytes) q x.digest (marked h) (resident_of x.lent x) (find text_cmp q (rows_of slots)) (apart s slots x h k (ap stored_blob_in e) at distinct)
      by_content rest Retired e = rest

  module _ (L : Layers) (k : ℕ) (h : StoredBlob) (at : stored_blob_at L.slots k ≡ Some h) (tied : IsTied L.links L.slots (lent_marks L.slots) (book_catalog L)) where
    abbrev C : Catalog
    C = book_catalog L

    abbrev slots' : List Slot
    slots' = with_slot L.slots k (on_stored_blob g)

    abbrev after : Catalog
    after = record C { residents = insert C.residents h.digest (marked h) }

    same_residents : residents_of slots' (lent_marks slots') ≡ after.residents
    same_residents = same_map nat_list_cmp_total exact_bytes (residents_of slots' (lent_marks slots')) after.residents (λ q.
        get-from_entries nat_list_cmp_total (rows_of slots') q
        ∙ find-change L.slots k h q at tied.distinct
        ∙ ap (cond (eq_by_cmp text_cmp q h.digest) (Some (marked h))) (sym (get-from_entries nat_list_cmp_total (rows_of L.slots) q))
        ∙ sym (get-insert nat_list_cmp_total C.residents h.digest (marked h) q))

    -- the catalog has the changed blob
    pub catalog-change : book_catalog (record L { slots = slots' }) ≡ after
    catalog-change = λ i. record C {
      slots = length-with_slot L.slots k (on_stored_blob g) i;
      residents = same_residents i;
      retired = retired-with_slot g L.slots k i;
    }

    origin : (m : ℕ) (x : StoredBlob) → stored_blob_at slots' m ≡ Some x → (y : StoredBlob) × (stored_blob_at L.slots m ≡ Some y) × (x.digest ≡ y.digest) × (x.links ≡ y.links)
    origin m x here = let o = held_before g (λ x y. (x.digest ≡ y.digest) × (x.links ≡ y.links)) (λ x. (keeps.digest x, keeps.links x)) (λ x. (refl, refl)) L.slots k h at m x here in (o.0, o.1, o.2.0, o.2.1)

    sized : length (g h).bytes ≡ length h.bytes → (key : Link) (n : ℕ) → get L.links.links key ≡ Some n → (b : Resident) × (get after.residents key.1 ≡ Some b) × (n ≡ length b.bytes)
    sized long key n found =
        let b = tied.sizes key n found in
        elim (cases_key nat_list_cmp_total exact_bytes key.1 h.digest) [
          | inl e ↦
              let is : b.0 ≡ resident_of h.lent h = some_same (sym b.1 ∙ ap (get C.residents) e ∙ resident_at L.slots k h at tied.distinct) in
              (marked h, ap (get after.residents) e ∙ get-insert_at nat_list_cmp_total exact_bytes C.residents h.digest (marked h), b.2 ∙ ap (λ (x : Resident). length x.bytes) is ∙ sym long)
          | inr differ ↦ (b.0, get-insert_other nat_list_cmp_total exact_bytes C.residents h.digest (marked h) key.1 differ ∙ b.1, b.2)
        ]

    -- the layers agree then
    pub IsTied-change : length (g h).bytes ≡ length h.bytes → IsTied L.links slots' (lent_marks slots') (book_catalog (record L { slots = slots' }))
    IsTied-change long = subst (λ (D : Catalog). IsTied L.links slots' (lent_marks slots') D) (sym catalog-change) (record {
      marks = length-marks slots';
      distinct = λ a b x y at_a at_b same. (let o = origin a x at_a in let p = origin b y at_b in tied.distinct a b o.0 p.0 o.1 p.1 (sym o.2 ∙ same ∙ p.2));
      sizes = sized long;
      counts = λ m x here. (let o = origin m x here in o.3 ∙ tied.counts m o.0 o.1 ∙ ap (link_count after) (sym o.2));
    })
