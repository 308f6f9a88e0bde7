-- After a blob was linked: the catalog, and the agreement of the layers.
use Rattle.std.proofs.Common.{◌≡◌, ℕ, ◌+◌, ◌<◌, Bool, true, false, cond, not, List, [], ◌∷◌, length, Option, Some, None, is_some, refl, sym, ap, ◌∙◌, subst, arith}
use Prim.Native.Nat.{zero, suc}
use Rattle.std.specs.Prelude.{slice_get, nat_le, ◌&&◌, if◌then◌else◌}
use Rattle.std.specs.Option.{option_map_or}
use Rattle.std.specs.List.{count_by}
use Rattle.std.proofs.lemmas.List.Sums.{sum_by-cons}
use Rattle.std.proofs.lemmas.Bool.Decides.{nat_tests}
use Rattle.std.specs.Cmp.Lexicographic.{nat_list_cmp_total}
use Rattle.std.specs.Ordering.{eq_by_cmp}
use Rattle.std.specs.FinMap.{FinMap, get, insert, len, contains_key, get-insert, same_map}
use Rattle.std.proofs.lemmas.Map.Lookups.{exact_bytes}
use Rattle.spec_lib.proofs.Options.{some_value, some_same}
use Rattle.spec_lib.specs.Sets as set
use Rattle.blob_digest.proofs.KeyOrders.{link_cmp_total, exact_link}
use Rattle.spec_lib.proofs.Sums.{insert_back}
use Rattle.spec_lib.proofs.Sets.{insert_there}
use Rattle.slot_table.specs.declared.phase.Phase.TheVariants as phase
use Rattle.slot_table.specs.Slots.{Slot, StoredBlob, SlotContent, Free, Used, Retired, phase_in, stored_blob_in, is_free, is_retired, with_slot, fill, on_stored_blob, link_up, mark, phase_at, stored_blob_at, slot_of}
use Rattle.link_table.specs.Linked.{Linked}
use Rattle.spec_lib.specs.Texts.{Text, text_cmp}
use Rattle.store_model.specs.Catalog.{Link, Resident, Catalog, holds}
use Rattle.store_model.specs.Commands.{was_leased, fits_stored, is_full_for, fits_content}
use Rattle.store_model.specs.Invariant.{WellFormed}
use Rattle.store_book.specs.Layers.{Layers, links_of, lent_marks, resident_of, catalog_from, book_catalog, IsTied}
use Rattle.store_book.specs.Internal.Storing.{with_sized_link, with_renewed_slot, renew, IsStored, is_existing, is_added}
use Rattle.spec_lib.proofs.Maps.{get-insert_at}
use Rattle.store_book.proofs.Slots.LeaseMarks.{length-marks, marks-on, marks-fill, unmarked}
use Rattle.store_book.proofs.Slots.Changed.{resident_at, renew-KeepsTies, catalog-change, IsTied-change}
use Rattle.store_book.proofs.Layers.Sums.{holds_is}
use Rattle.slot_table.proofs.Finding.{held_of}
use Rattle.store_book.proofs.Layers.Ties.{links_of-insert, catalog-relink, IsTied-link, link_up-KeepsBlob, slot_is_resident, not_resident, rooms}
use Rattle.store_book.proofs.Slots.Filled.{stored}
use Rattle.store_book.proofs.Slots.Placed.{catalog-fill, IsTied-fill, stored_blob_at-fill, free_slot}
use Rattle.store_model.proofs.Commands.Fits.{fits_long, fits_same}
use Rattle.store_model.proofs.Invariant.Links.{unlinked}
use Rattle.store_book.proofs.Slots.Writes.{stored_blob_at-on}

-- if an element passes the test, the count is not 0
counted_there : {A : Type 0} (p : A → Bool) (xs : List A) (k : ℕ) (x : A) → slice_get xs k ≡ Some x → p x ≡ true → 0 < count_by p xs
counted_there p [] k x at passes = cc
counted_there p (y ∷ xs) zero x at passes =
    let same : y ≡ x = cc in
    let sum : count_by p (y ∷ xs) ≡ cond (p y) 1 0 + count_by p xs = sum_by-cons (λ z. cond (p z) 1 0) y xs in
    let one : cond {A = ℕ} (p y) 1 0 ≡ 1 = ap (λ b. cond b 1 0) (ap p same ∙ passes) in
    omega arith
counted_there p (y ∷ xs) (suc k) x at passes =
    let sum : count_by p (y ∷ xs) ≡ cond (p y) 1 0 + count_by p xs = sum_by-cons (λ z. cond (p z) 1 0) y xs in
    let rest = counted_there p xs k x at passes in
    omega arith

free_is : (slots : List Slot) (k : ℕ) (s : Slot) → slice_get slots k ≡ Some s → phase_at slots k ≡ phase.Free → is_free s ≡ true
free_is slots k s at free = by_content s.content refl (sym (ap (λ o. option_map_or (λ x. phase_in x.content) o phase.Retired) at) ∙ free)
  where
    by_content : (c : SlotContent) → s.content ≡ c → phase_in c ≡ phase.Free → is_free (record s { content = c }) ≡ true
    by_content Free e f = refl
    by_content (Used h) e f = elim h.condemned as (λ b. cond b phase.Condemned phase.Live ≡ phase.Free → is_free (record s { content = Used h }) ≡ true) [ true ↦ λ g. cc | false ↦ λ g. cc ] f
    by_content Retired e f = cc

le-false : (a b : ℕ) → b < a → nat_le a b ≡ false
le-false a b h = grind (arith, nat_tests)

insert_twice : (m : FinMap text_cmp Resident) (k : Text) (v w : Resident) → insert (insert m k v) k w ≡ insert m k w
insert_twice m k v w = same_map nat_list_cmp_total exact_bytes (insert (insert m k v) k w) (insert m k w) (λ q.
    get-insert nat_list_cmp_total (insert m k v) k w q
    ∙ ap (cond (eq_by_cmp text_cmp q k) (Some w)) (get-insert nat_list_cmp_total m k v q)
    ∙ both (eq_by_cmp text_cmp q k) (get m q)
    ∙ sym (get-insert nat_list_cmp_total m k w q))
  where
    both : (b : Bool) (o : Option Resident) → cond b (Some w) (cond b (Some v) o) ≡ cond b (Some w) o
    both true o = refl
    both false o = refl

-- the stored blob: live, with its ever-leased mark
abbrev blob_of : Catalog → Text × Text → Resident
blob_of C blob = record { bytes = blob.1; condemned = false; lent = was_leased (get C.residents blob.0) }

-- the catalog with the blob, linked
abbrev pub keeping : Catalog → Text → Text × Text → Catalog
keeping C repo blob = record C { links = set.insert C.links (repo, blob.0); residents = insert C.residents blob.0 (blob_of C blob) }

module _ (L : Layers) (repo : Text) (blob : Text × Text) where
  abbrev C : Catalog
  C = book_catalog L

  -- facts about a linked blob
  pub record Keeps (l' : Linked) (slots' : List Slot) : Type 0 where
    pub catalog : book_catalog (record L { links = l'; slots = slots' }) ≡ keeping C repo blob
    pub tied : IsTied l' slots' (lent_marks slots') (book_catalog (record L { links = l'; slots = slots' }))
    pub links : l' ≡ with_sized_link L.links repo blob
    pub same : fits_stored C.contents (get C.residents blob.0) blob.1 ≡ true
    pub housed : is_full_for C blob.0 ≡ false

  module _ (tied : IsTied L.links L.slots (lent_marks L.slots) C) (there : set.contains L.links.repos repo ≡ true) (named : (k : Link) → set.contains (links_of L.links.links) k ≡ true → set.contains L.links.repos k.0 ≡ true) where
    module _ (k : ℕ) (h : StoredBlob) (at : stored_blob_at L.slots k ≡ Some h) (digest : h.digest ≡ blob.0) (bytes : h.bytes ≡ blob.1) (live : h.condemned ≡ false) where
      resident : (b : Resident) × (get C.residents h.digest ≡ Some b) × (b.bytes ≡ h.bytes) × (b.condemned ≡ h.condemned)
      resident = slot_is_resident L.slots (lent_marks L.slots) (length-marks L.slots) tied.distinct k h at

      kept : get C.residents blob.0 ≡ Some resident.0
      kept = ap (get C.residents) (sym digest) ∙ resident.1

      whole_blob : (b : Resident) → get C.residents blob.0 ≡ Some b → b.bytes ≡ blob.1 → b.condemned ≡ false → blob_of C blob ≡ b
      whole_blob b found bytes uncondemned = λ i. record { bytes = sym bytes i; condemned = sym uncondemned i; lent = was_leased (found i) }

      -- a blob that is already stored changes no blob
      pub same_residents : insert C.residents blob.0 (blob_of C blob) ≡ C.residents
      same_residents = ap (insert C.residents blob.0) (whole_blob resident.0 kept (resident.2 ∙ bytes) (resident.3 ∙ live)) ∙ insert_back nat_list_cmp_total exact_bytes C.residents blob.0 resident.0 kept

      size : length blob.1 ≡ length resident.0.bytes
      size = ap length (sym (resident.2 ∙ bytes))

      same_there : fits_stored C.contents (get C.residents blob.0) blob.1 ≡ true
      same_there = ap (λ o. fits_stored C.contents o blob.1) kept ∙ fits_same C.contents.on_disk resident.0.bytes blob.1 (resident.2 ∙ bytes)

      housed_there : is_full_for C blob.0 ≡ false
      housed_there = ap (λ o. not (is_some o) && nat_le C.slots (len C.residents + C.retired)) kept

      module _ (old : contains_key L.links.links (repo, blob.0) ≡ true) where
        found : (n : ℕ) × (get L.links.links (repo, blob.0) ≡ Some n)
        found = some_value (get L.links.links (repo, blob.0)) old

        same_links : insert L.links.links (repo, blob.0) (length blob.1) ≡ L.links.links
        same_links =
            let b = tied.sizes (repo, blob.0) found.0 found.1 in
            let is : b.0 ≡ resident.0 = some_same (sym b.1 ∙ kept) in
            let n : found.0 ≡ length blob.1 = b.2 ∙ ap (λ (x : Resident). length x.bytes) is ∙ sym size in
            insert_back link_cmp_total exact_link L.links.links (repo, blob.0) (length blob.1) (found.1 ∙ ap Some n)

        held_before : set.contains C.links (repo, blob.0) ≡ true
        held_before = holds_is L (lent_marks L.slots) tied named repo blob.0 ∙ old

        -- an existing link changes nothing
        pub Keeps-old : Keeps (with_sized_link L.links repo blob) L.slots
        Keeps-old =
            let same_l : with_sized_link L.links repo blob ≡ L.links = λ i. record L.links { links = same_links i } in
            let links : set.insert C.links (repo, blob.0) ≡ C.links = insert_there link_cmp_total exact_link C.links (repo, blob.0) held_before in
            record {
              catalog = (λ i. book_catalog (record L { links = same_l i })) ∙ (λ i. record C { links = sym links i; residents = sym same_residents i });
              tied = subst (λ (x : Linked). IsTied x L.slots (lent_marks L.slots) (book_catalog (record L { links = x }))) (sym same_l) tied;
              links = refl;
              same = same_there;
              housed = housed_there;
            }

      module _ (new : contains_key L.links.links (repo, blob.0) ≡ false) where
        abbrev linked_up : List Slot
        linked_up = with_slot L.slots k (on_stored_blob link_up)

        not_held_before : holds C repo h.digest ≡ false
        not_held_before = ap (holds C repo) digest ∙ holds_is L (lent_marks L.slots) tied named repo blob.0 ∙ new

        relinked : catalog_from (record L { links = with_sized_link L.links repo blob; slots = linked_up }) (lent_marks L.slots) ≡ record C { links = set.insert C.links (repo, blob.0) }
        relinked =
            catalog-relink L (insert L.links.links (repo, blob.0) (length blob.1)) (lent_marks L.slots) k h at link_up link_up-KeepsBlob tied
            ∙ (λ i. record C { links = links_of-insert L.links.links (repo, blob.0) (length blob.1) i })

        tied_then : IsTied (with_sized_link L.links repo blob) linked_up (lent_marks L.slots) (catalog_from (record L { links = with_sized_link L.links repo blob; slots = linked_up }) (lent_marks L.slots))
        tied_then =
            subst (λ (d : Text). IsTied (record L.links { links = insert L.links.links (repo, d) (length blob.1) }) linked_up (lent_marks L.slots) (catalog_from (record L { links = record L.links { links = insert L.links.links (repo, d) (length blob.1) }; slots = linked_up }) (lent_marks L.slots)))
            digest (IsTied-link L (lent_marks L.slots) k h at tied repo there (length blob.1) resident.0 resident.1 size not_held_before)

        -- a new link counts in its slot
        pub Keeps-new : Keeps (with_sized_link L.links repo blob) linked_up
        Keeps-new =
            let marks : lent_marks L.slots ≡ lent_marks linked_up = sym (marks-on link_up (λ h. refl) L.slots k) in
            record {
              catalog = (λ i. catalog_from (record L { links = with_sized_link L.links repo blob; slots = linked_up }) (sym marks i)) ∙ relinked ∙ (λ i. record C { links = set.insert C.links (repo, blob.0); residents = sym same_residents i });
              tied = subst (λ (m : List Bool). IsTied (with_sized_link L.links repo blob) linked_up m (catalog_from (record L { links = with_sized_link L.links repo blob; slots = linked_up }) m)) marks tied_then;
              links = refl;
              same = same_there;
              housed = housed_there;
            }

  module _ (tied : IsTied L.links L.slots (lent_marks L.slots) C) (lawful : WellFormed C) (there : set.contains L.links.repos repo ≡ true) where
    module _ (k : ℕ) (none : slot_of L.slots blob.0 ≡ None) (free : phase_at L.slots k ≡ phase.Free) where
      abbrev slots1 : List Slot
      slots1 = with_slot L.slots k (fill blob)

      abbrev slots2 : List Slot
      slots2 = with_slot slots1 k (on_stored_blob link_up)

      slot_there : (s : Slot) × (slice_get L.slots k ≡ Some s) × (stored_blob_in s.content ≡ None) × (is_retired s ≡ false)
      slot_there = free_slot L.slots k free

      abbrev C1 : Catalog
      C1 = catalog_from (record L { slots = slots1 }) (lent_marks L.slots)

      filled_catalog : C1 ≡ record C { residents = insert C.residents blob.0 (stored blob false) }
      filled_catalog = catalog-fill L (lent_marks L.slots) k blob false free (unmarked L.slots k free) none

      filled_tied : IsTied L.links slots1 (lent_marks L.slots) C1
      filled_tied = IsTied-fill L (lent_marks L.slots) k blob false free (unmarked L.slots k free) none tied lawful

      absent : get C.residents blob.0 ≡ None
      absent = not_resident L.slots (lent_marks L.slots) blob.0 none

      abbrev filled : StoredBlob
      filled = record { digest = blob.0; bytes = blob.1; condemned = false; lent = false; links = 0 }

      in_slot : stored_blob_at slots1 k ≡ Some filled
      in_slot = stored_blob_at-fill L (lent_marks L.slots) k blob false free (unmarked L.slots k free) none

      kept_now : get C1.residents blob.0 ≡ Some (stored blob false)
      kept_now = ap (λ (D : Catalog). get D.residents blob.0) filled_catalog ∙ get-insert_at nat_list_cmp_total exact_bytes C.residents blob.0 (stored blob false)

      tied_now : IsTied (with_sized_link L.links repo blob) slots2 (lent_marks L.slots) (catalog_from (record L { links = with_sized_link L.links repo blob; slots = slots2 }) (lent_marks L.slots))
      tied_now = IsTied-link (record L { slots = slots1 }) (lent_marks L.slots) k filled in_slot filled_tied repo there (length blob.1) (stored blob false) kept_now refl (unlinked C lawful blob.0 absent repo)

      catalog_now : catalog_from (record L { links = with_sized_link L.links repo blob; slots = slots2 }) (lent_marks L.slots) ≡ keeping C repo blob
      catalog_now =
          catalog-relink (record L { slots = slots1 }) (insert L.links.links (repo, blob.0) (length blob.1)) (lent_marks L.slots) k filled in_slot link_up link_up-KeepsBlob filled_tied
          ∙ (λ i. record C1 { links = links_of-insert L.links.links (repo, blob.0) (length blob.1) i })
          ∙ (λ i. record (filled_catalog i) { links = set.insert C.links (repo, blob.0) })
          ∙ (λ i. record C { links = set.insert C.links (repo, blob.0); residents = insert C.residents blob.0 (record { bytes = blob.1; condemned = false; lent = was_leased (sym absent i) }) })

      -- a blob that filled a free slot is stored, with one link
      pub Keeps-filled : Keeps (with_sized_link L.links repo blob) slots2
      Keeps-filled =
          let marks : lent_marks L.slots ≡ lent_marks slots2 = sym (marks-on link_up (λ h. refl) slots1 k ∙ marks-fill blob L.slots k free) in
          record {
            catalog = (λ i. catalog_from (record L { links = with_sized_link L.links repo blob; slots = slots2 }) (sym marks i)) ∙ catalog_now;
            tied = subst (λ (m : List Bool). IsTied (with_sized_link L.links repo blob) slots2 m (catalog_from (record L { links = with_sized_link L.links repo blob; slots = slots2 }) m)) marks tied_now;
            links = refl;
            same = ap (λ o. fits_stored C.contents o blob.1) absent;
            housed = ap (λ o. not (is_some o) && nat_le C.slots (len C.residents + C.retired)) absent ∙ has_room;
          }
        where
          has_room : nat_le C.slots (len C.residents + C.retired) ≡ false
          has_room =
              let sum = rooms L (lent_marks L.slots) (length-marks L.slots) tied.distinct in
              let some = counted_there is_free L.slots k slot_there.0 slot_there.1 (free_is L.slots k slot_there.0 slot_there.1 free) in
              le-false C.slots (len C.residents + C.retired) (omega arith)

-- ---- after linking a blob

module _ (L : Layers) (repo : Text) (blob : Text × Text) where
  abbrev B : Catalog
  B = book_catalog L

  module _ (tied : IsTied L.links L.slots (lent_marks L.slots) B) (lawful : WellFormed B) (there : set.contains L.links.repos repo ≡ true) where
    module _ (k : ℕ) (h : StoredBlob) (at : stored_blob_at L.slots k ≡ Some h) (digest : h.digest ≡ blob.0) (fits : fits_content L.contents.on_disk h.bytes blob.1 ≡ true) where
      long : length h.bytes ≡ length blob.1
      long = fits_long L.contents.on_disk h.bytes blob.1 fits

      abbrev live_again : List Slot
      live_again = with_renewed_slot L.slots k blob.1

      abbrev live_one : Resident
      live_one = record { bytes = blob.1; condemned = false; lent = h.lent }

      -- the catalog with the blob live
      abbrev D : Catalog
      D = record B { residents = insert B.residents h.digest live_one }

      catalog_live_again : book_catalog (record L { slots = live_again }) ≡ D
      catalog_live_again = catalog-change (renew blob.1) (renew-KeepsTies blob.1) L k h at tied

      was : get B.residents h.digest ≡ Some (resident_of h.lent h)
      was = resident_at L.slots k h at tied.distinct

      named : (l : Link) → set.contains (links_of L.links.links) l ≡ true → set.contains L.links.repos l.0 ≡ true
      named l is = (lawful.links l is).repo

      twice : (b : Resident) → insert (insert B.residents h.digest live_one) blob.0 b ≡ insert B.residents blob.0 b
      twice b = ap (λ (d : Text). insert (insert B.residents d live_one) blob.0 b) digest ∙ insert_twice B.residents blob.0 live_one b

      same_lent : was_leased (get D.residents blob.0) ≡ was_leased (get B.residents blob.0)
      same_lent =
          ap (λ (d : Text). was_leased (get D.residents d)) (sym digest) ∙ ap was_leased (get-insert_at nat_list_cmp_total exact_bytes B.residents h.digest live_one)
          ∙ sym (ap (λ (d : Text). was_leased (get B.residents d)) (sym digest) ∙ ap was_leased was)

      keeping_live_again : keeping (book_catalog (record L { slots = live_again })) repo blob ≡ keeping B repo blob
      keeping_live_again =
          (λ i. keeping (catalog_live_again i) repo blob)
          ∙ (λ i. record B { links = set.insert B.links (repo, blob.0); residents = twice (record { bytes = blob.1; condemned = false; lent = was_leased (get D.residents blob.0) }) i })
          ∙ (λ i. record B { links = set.insert B.links (repo, blob.0); residents = insert B.residents blob.0 (record { bytes = blob.1; condemned = false; lent = same_lent i }) })

      Keeps-live_again : (l' : Linked) (slots' : List Slot) → Keeps (record L { slots = live_again }) repo blob l' slots' → Keeps L repo blob l' slots'
      Keeps-live_again l' slots' keeps =
          let kept : get B.residents blob.0 ≡ Some (resident_of h.lent h) = ap (get B.residents) (sym digest) ∙ was in
          record {
            catalog = keeps.catalog ∙ keeping_live_again;
            tied = keeps.tied;
            links = keeps.links;
            same = ap (λ o. fits_stored B.contents o blob.1) kept ∙ fits;
            housed = ap (λ o. not (is_some o) && nat_le B.slots (len B.residents + B.retired)) kept;
          }

      by_link : (b : Bool) → contains_key L.links.links (repo, blob.0) ≡ b → Keeps (record L { slots = live_again }) repo blob (with_sized_link L.links repo blob) (if b then live_again else with_slot live_again k (on_stored_blob link_up))
      by_link true is = Keeps-old (record L { slots = live_again }) repo blob (IsTied-change (renew blob.1) (renew-KeepsTies blob.1) L k h at tied (sym long)) there named k (renew blob.1 h) (stored_blob_at-on (renew blob.1) L.slots k h at) digest refl refl is
      by_link false is = Keeps-new (record L { slots = live_again }) repo blob (IsTied-change (renew blob.1) (renew-KeepsTies blob.1) L k h at tied (sym long)) there named k (renew blob.1 h) (stored_blob_at-on (renew blob.1) L.slots k h at) digest refl refl is

      Keeps-is_existing : Keeps L repo blob (with_sized_link L.links repo blob) (if contains_key L.links.links (repo, blob.0) then live_again else with_slot live_again k (on_stored_blob link_up))
      Keeps-is_existing = Keeps-live_again _ _ (by_link (contains_key L.links.links (repo, blob.0)) refl)

    pub IsStored-Keeps : (l' : Linked) (slots' : List Slot) → IsStored L.contents.on_disk L.links L.slots repo blob l' slots' → Keeps L repo blob l' slots'
    IsStored-Keeps l' slots' (is_existing k h place at fits links slots_are) =
        let held = held_of L.slots blob.0 k place in
        let same : held.0 ≡ h = some_same (sym held.1 ∙ at) in
        let digest : h.digest ≡ blob.0 = ap (λ (x : StoredBlob). x.digest) (sym same) ∙ held.2 in
        subst (λ (x : Linked). Keeps L repo blob x slots') (sym links) (subst (λ (x : List Slot). Keeps L repo blob (with_sized_link L.links repo blob) x) (sym slots_are) (Keeps-is_existing k h at digest fits))
    IsStored-Keeps l' slots' (is_added k none free links slots_are) =
        subst (λ (x : Linked). Keeps L repo blob x slots') (sym links) (subst (λ (x : List Slot). Keeps L repo blob (with_sized_link L.links repo blob) x) (sym slots_are) (Keeps-filled L repo blob tied lawful there k none free))
