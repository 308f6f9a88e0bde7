-- The lines from the layers are the text of the book.
use Rattle.std.proofs.Common.{◌≡◌, ℕ, ◌+◌, ◌<◌, ◌≤◌, Bool, true, false, cond, List, [], ◌∷◌, ◌++◌, length, map, get_or, Option, Some, None, refl, sym, ap, ◌∙◌, arith}
use Rattle.std.specs.Prelude.{filter, ◌&&◌, slice_index}
use Rattle.std.specs.declared.cmp.Ordering.{Ordering}
use Rattle.std.specs.List.{flat_map, enumerate_from, AllByRecursion}
use Rattle.std.specs.Ordering.{is_lt}
use Rattle.std.specs.Option.{option_map_or}
use Rattle.std.specs.FinMap.{FinMap, entries, entries_sorted, get, get-entries, is_sorted, keys}
use Rattle.std.specs.FinMap.Entries.{below_all}
use Rattle.std.proofs.lemmas.List.Concat.{flat_map-cons}
use Rattle.std.proofs.lemmas.List.Folds.{flat_map-map}
use Rattle.spec_lib.proofs.Lists.{all_weaker, is_true, flat_map-same, all_same, all_by_index}
use Rattle.spec_lib.specs.Sets as set
use Rattle.blob_digest.proofs.KeyOrders.{link_cmp_total, exact_link}
use Rattle.spec_lib.proofs.Rows.{found_value}
use Rattle.slot_table.specs.Slots.{StoredBlob, slot_of, links_at}
use Rattle.link_table.specs.ManifestTable.{manifests_on}
use Rattle.link_table.specs.Linked.{Tenant, used_in, blobs_in, repos_of}
use Rattle.spec_lib.proofs.Sorted.{IsApart-sorted, entries-sorted}
use Rattle.store_model.specs.Sessions.{number_and_length, sessions_of}
use Rattle.spec_lib.specs.Texts.{Text, same_text}
use Rattle.store_model.specs.Catalog.{Link, Resident, Catalog, link_cmp, used_bytes, blob_length, link_count}
use Rattle.store_book.specs.Layers.{Layers, links_of, lent_marks, book_catalog, IsBook}
use Rattle.store_book.specs.Internal.Lines.{CanPrint, blob_row, links_to, session_row, repo_rows, tenant_rows, book_rows}
use Rattle.store_model.specs.BookText.{blob_line, blob_text, book_line, book_text, end_line, manifest_row, manifest_text, repo_text, repository_line, tenant_line, tenant_text}
use Rattle.store_book.proofs.Refine.Take.{use_is}
use Rattle.slot_table.proofs.Finding.{held_of}
use Rattle.store_book.proofs.Layers.Ties.{not_resident}

-- ---- lists

numbers_below : (xs : List Tenant) (from n : ℕ) → from + length xs ≤ n → AllByRecursion (λ e. e.0 < n) (enumerate_from from xs)
numbers_below [] from n h = tt
numbers_below (x ∷ xs) from n h = (omega arith, numbers_below xs (from + 1) n (omega arith))

-- ---- links

abbrev no_link : Link × ℕ
no_link = (([], []), 0)

each_found : (links : FinMap link_cmp ℕ) → AllByRecursion (λ e. get links e.0 ≡ Some e.1) (entries links)
each_found links =
    all_by_index (λ e. get links e.0 ≡ Some e.1) no_link (entries links) (λ i lt.
    get-entries links (get_or (entries links) i no_link).0
    ∙ found_value link_cmp link_cmp_total (entries links) i no_link (get_or (entries links) i no_link).0 (IsApart-sorted link_cmp (entries links) (is_true (entries_sorted links))) lt refl)

module _ {K X : Type 0} (R : K → K → Ordering) where
  below_all-marked : (q : K) (es : List (K × X)) → below_all R q (set.unit_entries (map (λ e. e.0) es)) ≡ below_all R q es
  below_all-marked q [] = refl
  below_all-marked q (e ∷ es) = ap (λ b. is_lt (R q e.0) && b) (below_all-marked q es)

  is_sorted-marked : (es : List (K × X)) → is_sorted R (set.unit_entries (map (λ e. e.0) es)) ≡ is_sorted R es
  is_sorted-marked [] = refl
  is_sorted-marked (e ∷ es) = λ i. below_all-marked e.0 es i && is_sorted-marked es i

unmarked : {K : Type 0} (ks : List K) → map (λ (e : K × Unit {0}). e.0) (set.unit_entries ks) ≡ ks
unmarked [] = refl
unmarked (k ∷ ks) = ap (λ t. k ∷ t) (unmarked ks)

items_links : (links : FinMap link_cmp ℕ) → set.items (links_of links) ≡ keys links
items_links links =
    ap (map (λ e. e.0)) (entries-sorted link_cmp link_cmp_total exact_link (set.unit_entries (keys links)) (is_sorted-marked link_cmp (entries links) ∙ is_true (entries_sorted links)))
    ∙ unmarked (keys links)

-- the rows of a repository's links, and its links in the catalog
blobs_same : (f : Text × ℕ → Text) (g : Link → Text) (repo : Text) (es : List (Link × ℕ)) → AllByRecursion (λ e. f (e.0.1, e.1) ≡ g e.0) es →
    flat_map f (map (λ e. (e.0.1, e.1)) (filter (λ e. same_text e.0.0 repo) es)) ≡ flat_map g (filter (λ l. same_text l.0 repo) (map (λ e. e.0) es))
blobs_same f g repo [] same = refl
blobs_same f g repo (e ∷ es) same = by_test (same_text e.0.0 repo) (blobs_same f g repo es same.1)
  where
    by_test : (b : Bool) → flat_map f (map (λ e. (e.0.1, e.1)) (filter (λ e. same_text e.0.0 repo) es)) ≡ flat_map g (filter (λ l. same_text l.0 repo) (map (λ e. e.0) es)) →
        flat_map f (map (λ e. (e.0.1, e.1)) (cond b (e ∷ filter (λ e. same_text e.0.0 repo) es) (filter (λ e. same_text e.0.0 repo) es)))
        ≡ flat_map g (cond b (e.0 ∷ filter (λ l. same_text l.0 repo) (map (λ e. e.0) es)) (filter (λ l. same_text l.0 repo) (map (λ e. e.0) es)))
    by_test true rest = flat_map-cons f (e.0.1, e.1) _ ∙ (λ i. same.0 i ++ rest i) ∙ sym (flat_map-cons g e.0 _)
    by_test false rest = rest

-- ---- the book

module _ (L : Layers) (book : IsBook L) where
  abbrev C : Catalog
  C = book_catalog L

  as_many_links : (d : Text) (b : Resident) → get C.residents d ≡ Some b → links_to L.slots d ≡ link_count C d
  as_many_links d b kept = by_slot (slot_of L.slots d) refl
    where
      by_slot : (o : Option ℕ) → slot_of L.slots d ≡ o → option_map_or (links_at L.slots) o 0 ≡ link_count C d
      by_slot None none = absurd (let gone = sym kept ∙ not_resident L.slots (lent_marks L.slots) d none in cc)
      by_slot (Some k) found =
          let h = held_of L.slots d k found in
          ap (λ (o : Option StoredBlob). option_map_or (λ h. h.links) o 0) h.1 ∙ book.tied.counts k h.0 h.1 ∙ ap (link_count C) h.2

  linked : (e : Link × ℕ) → get L.links.links e.0 ≡ Some e.1 → blob_row L.slots (e.0.1, e.1) ≡ blob_text C e.0
  linked e there =
      let b = book.tied.sizes e.0 e.1 there in
      let length_is : e.1 ≡ blob_length C e.0.1 = b.2 ∙ ap (λ o. option_map_or (λ (b : Resident). length b.bytes) o 0) (sym b.1) in
      let links_are : links_to L.slots e.0.1 ≡ link_count C e.0.1 = as_many_links e.0.1 b.0 b.1 in
      λ i. blob_line e.0.1 (length_is i) (links_are i)

  blobs_are : (repo : Text) → flat_map (blob_row L.slots) (blobs_in L.links repo) ≡ flat_map (blob_text C) (filter (λ l. same_text l.0 repo) (set.items C.links))
  blobs_are repo =
      blobs_same (blob_row L.slots) (blob_text C) repo (entries L.links.links) (all_weaker (λ e. get L.links.links e.0 ≡ Some e.1) (λ e. blob_row L.slots (e.0.1, e.1) ≡ blob_text C e.0) linked (entries L.links.links) (each_found L.links.links))
      ∙ ap (λ (ls : List Link). flat_map (blob_text C) (filter (λ l. same_text l.0 repo) ls)) (sym (items_links L.links.links))

  manifests_are : (repo : Text) → flat_map manifest_row (manifests_on L.links.manifests repo) ≡ flat_map manifest_text (filter (λ e. same_text e.0.0 repo) (entries C.manifests))
  manifests_are repo = flat_map-map manifest_row (λ e. (e.0.1, e.1)) (filter (λ e. same_text e.0.0 repo) (entries L.links.manifests))

  repo_is : (t : ℕ) (repo : Text) → repo_rows L.links L.uploads L.slots t repo ≡ repo_text C t repo
  repo_is t repo = λ i. repository_line repo ++ blobs_are repo i ++ manifests_are repo i ++ flat_map-map session_row number_and_length (sessions_of L.uploads.sessions t repo) i

  tenant_is : (e : ℕ × Tenant) → e.0 < length L.links.tenants → tenant_rows L.links L.uploads L.slots e ≡ tenant_text C e
  tenant_is e there =
      let repos_are : flat_map (repo_rows L.links L.uploads L.slots e.0) (repos_of L.links e.0) ≡ flat_map (repo_text C e.0) (repos_of L.links e.0) =
      flat_map-same (repo_rows L.links L.uploads L.slots e.0) (repo_text C e.0) (repos_of L.links e.0) (all_same (λ r. repo_rows L.links L.uploads L.slots e.0 r ≡ repo_text C e.0 r) (repo_is e.0) (repos_of L.links e.0)) in
      let used_is : used_in L.links e.0 ≡ used_bytes C e.0 = use_is L e.0 book there in
      λ i. tenant_line e.1.name (used_is i) e.1.quota (slice_index L.uploads.next e.0) ++ repos_are i

  -- the lines from the layers are the text of the book
  pub text_is : book_rows L.links L.uploads L.slots ≡ book_text C
  text_is =
      ap (λ (t : Text). book_line ++ t ++ end_line)
      (flat_map-same (tenant_rows L.links L.uploads L.slots) (tenant_text C) (enumerate_from 0 L.links.tenants)
      (all_weaker (λ e. e.0 < length L.links.tenants) (λ e. tenant_rows L.links L.uploads L.slots e ≡ tenant_text C e) tenant_is (enumerate_from 0 L.links.tenants) (numbers_below L.links.tenants 0 (length L.links.tenants) (omega arith))))

  -- a book can be printed
  pub can_print : CanPrint L.links L.uploads
  can_print = book.sound.lawful.numbering.one_each
