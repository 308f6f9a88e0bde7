-- The ties between the layers after a link more or less.
use Rattle.std.proofs.Common.{◌≡◌, ℕ, ◌+◌, ◌-◌, Bool, true, false, cond, List, [], ◌∷◌, length, Option, Some, None, is_some, refl, sym, ap, ◌∙◌, subst, arith, inl, inr}
use Prim.Native.Nat.{zero, suc}
use Rattle.std.specs.Option.{option_map}
use Rattle.std.specs.List.{count_by}
use Rattle.std.specs.Ordering.{eq_by_cmp, is_eq}
use Rattle.std.specs.Cmp.{tied_itself, Equal-is}
use Rattle.std.specs.FinMap.{FinMap, get, insert, remove, from_entries, get-insert, get-remove, get-from_entries, find, len, len-empty, len-insert, same_map}
use Rattle.std.proofs.lemmas.Bool.{cases_eq}
use Rattle.std.proofs.lemmas.List.Sums.{sum_by-cons}
use Rattle.spec_lib.proofs.Options.{not_some, some_same}
use Rattle.spec_lib.specs.Sets as set
use Rattle.blob_digest.proofs.KeyOrders.{link_cmp_total, exact_link}
use Rattle.spec_lib.proofs.Sets.{insert_there}
use Rattle.spec_lib.proofs.Sums.{insert-remove, get-remove_same}
use Rattle.spec_lib.specs.Rows.{IsApart}
use Rattle.std.specs.Cmp.Lexicographic.{nat_list_cmp_total}
use Rattle.slot_table.proofs.Finding.{not_held}
use Rattle.slot_table.specs.Slots.{Slot, StoredBlob, SlotContent, Free, Used, Retired, stored_blob_at, stored_blob_in, IsDistinct, is_retired, is_free, free_slots, slot_of, with_slot, on_stored_blob, content_with, link_up, link_down}
use Rattle.link_table.specs.Linked.{Linked}
use Rattle.spec_lib.specs.Texts.{Text, text_cmp}
use Rattle.store_model.specs.Catalog.{Link, Resident, Catalog, link_cmp, holds, link_count}
use Rattle.store_book.proofs.Slots.Writes.{with_slot-suc, length-with_slot, stored_blob_at-other, stored_blob_at-on, held_before, retired-with_slot}
use Rattle.store_model.proofs.Invariant.Counts.{link_count-link, count_other-link}
use Rattle.store_book.specs.Layers.{Layers, links_of, resident_of, with_resident, resident_rows, residents_of, catalog_from, IsTied}
use Rattle.store_book.proofs.Layers.Sums.{get-links_of, mark, found_slot, IsApart-rows}

-- ---- links without their sizes

mark_at : (b : Bool) (n : ℕ) (o : Option ℕ) → option_map mark (cond b (Some n) o) ≡ cond b (Some tt) (option_map mark o)
mark_at true n o = refl
mark_at false n o = refl

mark_none : (b : Bool) (o : Option ℕ) → option_map mark (cond b None o) ≡ cond b None (option_map mark o)
mark_none true o = refl
mark_none false o = refl

pub links_of-insert : (links : FinMap link_cmp ℕ) (k : Link) (n : ℕ) → links_of (insert links k n) ≡ set.insert (links_of links) k
links_of-insert links k n = same_map link_cmp_total exact_link (links_of (insert links k n)) (set.insert (links_of links) k) (λ q.
    get-links_of (insert links k n) q ∙ ap (option_map mark) (get-insert link_cmp_total links k n q) ∙ mark_at (eq_by_cmp link_cmp q k) n (get links q)
    ∙ ap (cond (eq_by_cmp link_cmp q k) (Some tt)) (sym (get-links_of links q)) ∙ sym (get-insert link_cmp_total (links_of links) k tt q))

pub links_of-remove : (links : FinMap link_cmp ℕ) (k : Link) → links_of (remove links k) ≡ set.remove (links_of links) k
links_of-remove links k = same_map link_cmp_total exact_link (links_of (remove links k)) (set.remove (links_of links) k) (λ q.
    get-links_of (remove links k) q ∙ ap (option_map mark) (get-remove link_cmp_total links k q) ∙ mark_none (eq_by_cmp link_cmp q k) (get links q)
    ∙ ap (cond (eq_by_cmp link_cmp q k) None) (sym (get-links_of links q)) ∙ sym (get-remove link_cmp_total (links_of links) k q))

-- ---- one slot changes

-- the slots after a change of a count
pub record KeepsBlob (g : StoredBlob → StoredBlob) : Type 0 where
  pub digest : (h : StoredBlob) → (g h).digest ≡ h.digest
  pub resident : (h : StoredBlob) (lent : Bool) → resident_of lent (g h) ≡ resident_of lent h

pub link_up-KeepsBlob : KeepsBlob link_up
link_up-KeepsBlob = record { digest = λ h. refl; resident = λ h lent. refl }

pub link_down-KeepsBlob : KeepsBlob link_down
link_down-KeepsBlob = record { digest = λ h. refl; resident = λ h lent. refl }

module _ (g : StoredBlob → StoredBlob) (keeps : KeepsBlob g) where
  same_content : (c : SlotContent) (m : Bool) (rest : List (Text × Resident)) → with_resident (content_with g c) m rest ≡ with_resident c m rest
  same_content Free m rest = refl
  same_content (Used h) m rest = λ i. (keeps.digest h i, keeps.resident h m i) ∷ rest
  same_content Retired m rest = refl

  pub rows-with_slot : (slots : List Slot) (k : ℕ) (marks : List Bool) → resident_rows (with_slot slots k (on_stored_blob g)) marks ≡ resident_rows slots marks
  rows-with_slot [] k marks = refl
  rows-with_slot (s ∷ slots) zero [] = refl
  rows-with_slot (s ∷ slots) zero (m ∷ marks) = same_content s.content m (resident_rows slots marks)
  rows-with_slot (s ∷ slots) (suc k) [] = ap (λ x. resident_rows x []) (with_slot-suc s slots k (on_stored_blob g))
  rows-with_slot (s ∷ slots) (suc k) (m ∷ marks) = ap (λ x. resident_rows x (m ∷ marks)) (with_slot-suc s slots k (on_stored_blob g)) ∙ ap (with_resident s.content m) (rows-with_slot slots k marks)

module _ (L : Layers) (links' : FinMap link_cmp ℕ) (marks : List Bool) (k : ℕ) (h : StoredBlob) (at : stored_blob_at L.slots k ≡ Some h) (g : StoredBlob → StoredBlob) (keeps : KeepsBlob g)
    (tied : IsTied L.links L.slots marks (catalog_from L marks)) where
  abbrev before : Catalog
  before = catalog_from L marks

  abbrev after : Catalog
  after = record before { links = links_of links' }

  abbrev slots' : List Slot
  slots' = with_slot L.slots k (on_stored_blob g)

  abbrev l' : Linked
  l' = record L.links { links = links' }

  -- a change of links and of one count is one of the catalog's links alone
  pub catalog-relink : catalog_from (record L { links = l'; slots = slots' }) marks ≡ after
  catalog-relink = λ i. record {
    tenants = L.links.tenants;
    slots = length-with_slot L.slots k (on_stored_blob g) i;
    contents = L.contents;
    repos = L.links.repos;
    links = links_of links';
    manifests = before.manifests;
    sessions = L.uploads.sessions;
    next = L.uploads.next;
    residents = from_entries {R = text_cmp} (rows-with_slot g keeps L.slots k marks i);
    retired = retired-with_slot g L.slots k i;
  }

  origin : (m : ℕ) (x : StoredBlob) → stored_blob_at slots' m ≡ Some x → (y : StoredBlob) × (stored_blob_at L.slots m ≡ Some y) × (x.digest ≡ y.digest)
  origin = held_before g (λ x y. x.digest ≡ y.digest) keeps.digest (λ x. refl) L.slots k h at

  module _ (sizes : (key : Link) (n : ℕ) → get links' key ≡ Some n → (b : Resident) × (get before.residents key.1 ≡ Some b) × (n ≡ length b.bytes))
      (as_many_links : (g h).links ≡ link_count after h.digest) (others : (x : Text) → (x ≡ h.digest → ⊥) → link_count after x ≡ link_count before x) where
    counts_after : (m : ℕ) (x : StoredBlob) → stored_blob_at slots' m ≡ Some x → x.links ≡ link_count after x.digest
    counts_after m x here = elim (cases_eq m k) [
      | inl e ↦ (let is : g h ≡ x = some_same (sym (stored_blob_at-on g L.slots k h at) ∙ ap (stored_blob_at slots') (sym e) ∙ here) in
          ap (λ (y : StoredBlob). y.links) (sym is) ∙ as_many_links ∙ ap (link_count after) (sym (keeps.digest h) ∙ ap (λ (y : StoredBlob). y.digest) is))
      | inr other ↦ (let there = sym (stored_blob_at-other L.slots k (on_stored_blob g) m other) ∙ here in
          tied.counts m x there ∙ sym (others x.digest (λ same. other (tied.distinct m k x h there at same))))
    ]

    tied_after : IsTied l' slots' marks after
    tied_after = record {
      marks = tied.marks ∙ sym (length-with_slot L.slots k (on_stored_blob g));
      distinct = λ a b x y at_a at_b same. (let p = origin a x at_a in let q = origin b y at_b in tied.distinct a b p.0 q.0 p.1 q.1 (sym p.2 ∙ same ∙ q.2));
      sizes = sizes;
      counts = counts_after;
    }

    pub IsTied-relink : IsTied l' slots' marks (catalog_from (record L { links = l'; slots = slots' }) marks)
    IsTied-relink = subst (λ (C : Catalog). IsTied l' slots' marks C) (sym catalog-relink) tied_after

-- ---- after a mount, and after a delete

same_key : (a b : Link) → eq_by_cmp link_cmp a b ≡ true → a ≡ b
same_key a b tie = exact_link a b ((Equal-is (link_cmp a b)).0 tie)

module _ (L : Layers) (marks : List Bool) (k : ℕ) (h : StoredBlob) (at : stored_blob_at L.slots k ≡ Some h)
    (tied : IsTied L.links L.slots marks (catalog_from L marks)) (r : Text) (there : set.contains L.links.repos r ≡ true) where
  abbrev C : Catalog
  C = catalog_from L marks

  -- one link of a resident blob more, which its slot counts
  pub IsTied-link : (n : ℕ) (b : Resident) → get C.residents h.digest ≡ Some b → n ≡ length b.bytes → holds C r h.digest ≡ false →
      IsTied (record L.links { links = insert L.links.links (r, h.digest) n }) (with_slot L.slots k (on_stored_blob link_up)) marks (catalog_from (record L { links = record L.links { links = insert L.links.links (r, h.digest) n }; slots = with_slot L.slots k (on_stored_blob link_up) }) marks)
  IsTied-link n b kept size new =
      let D : Catalog = record C { links = links_of (insert L.links.links (r, h.digest) n) } in
      let same : D ≡ record C { links = set.insert C.links (r, h.digest) } = λ i. record C { links = links_of-insert L.links.links (r, h.digest) n i } in
      let old : h.links ≡ link_count C h.digest = tied.counts k h at in
      let more : link_count (record C { links = set.insert C.links (r, h.digest) }) h.digest ≡ 1 + link_count C h.digest = link_count-link C r h.digest there new in
      let after : link_count D h.digest ≡ 1 + link_count C h.digest = ap (λ (X : Catalog). link_count X h.digest) same ∙ more in
      let as_many_links : h.links + 1 ≡ link_count D h.digest = omega arith in
      IsTied-relink L (insert L.links.links (r, h.digest) n) marks k h at link_up link_up-KeepsBlob tied
      (λ key m found. sized key m (eq_by_cmp link_cmp key (r, h.digest)) refl (sym (get-insert link_cmp_total L.links.links (r, h.digest) n key) ∙ found))
      as_many_links
      (λ x differ. ap (λ (X : Catalog). link_count X x) same ∙ count_other-link C r h.digest x differ)
    where
      sized : (key : Link) (m : ℕ) (t : Bool) → eq_by_cmp link_cmp key (r, h.digest) ≡ t → cond t (Some n) (get L.links.links key) ≡ Some m → (c : Resident) × (get C.residents key.1 ≡ Some c) × (m ≡ length c.bytes)
      sized key m true tie found = (b, ap (λ (q : Link). get C.residents q.1) (same_key key (r, h.digest) tie) ∙ kept, sym (some_same found) ∙ size)
      sized key m false tie found = tied.sizes key m found

  -- one link less, which its slot counts
  pub IsTied-unlink : (n : ℕ) → get L.links.links (r, h.digest) ≡ Some n →
      IsTied (record L.links { links = remove L.links.links (r, h.digest) }) (with_slot L.slots k (on_stored_blob link_down)) marks (catalog_from (record L { links = record L.links { links = remove L.links.links (r, h.digest) }; slots = with_slot L.slots k (on_stored_blob link_down) }) marks)
  IsTied-unlink n linked =
      let D : Catalog = record C { links = links_of (remove L.links.links (r, h.digest)) } in
      let E : Catalog = record C { links = set.remove C.links (r, h.digest) } in
      let same : D ≡ E = λ i. record C { links = links_of-remove L.links.links (r, h.digest) i } in
      let contained : set.contains C.links (r, h.digest) ≡ true = ap is_some (get-links_of L.links.links (r, h.digest) ∙ ap (option_map mark) linked) in
      let again : record E { links = set.insert E.links (r, h.digest) } ≡ C = λ i. record C { links = (insert-remove link_cmp_total exact_link C.links (r, h.digest) tt ∙ insert_there link_cmp_total exact_link C.links (r, h.digest) contained) i } in
      let gone : holds E r h.digest ≡ false = ap is_some (get-remove_same link_cmp_total exact_link C.links (r, h.digest)) in
      let old : h.links ≡ link_count C h.digest = tied.counts k h at in
      let one_more : link_count C h.digest ≡ 1 + link_count E h.digest = sym (ap (λ (X : Catalog). link_count X h.digest) again) ∙ link_count-link E r h.digest there gone in
      let less : h.links - 1 ≡ link_count E h.digest = omega arith in
      IsTied-relink L (remove L.links.links (r, h.digest)) marks k h at link_down link_down-KeepsBlob tied
      (λ key m found. tied.sizes key m (kept_at key m (eq_by_cmp link_cmp key (r, h.digest)) (sym (get-remove link_cmp_total L.links.links (r, h.digest) key) ∙ found)))
      (less ∙ sym (ap (λ (X : Catalog). link_count X h.digest) same))
      (λ x differ. ap (λ (X : Catalog). link_count X x) same ∙ sym (sym (ap (λ (X : Catalog). link_count X x) again) ∙ count_other-link E r h.digest x differ))
    where
      kept_at : (key : Link) (m : ℕ) (b : Bool) → cond b None (get L.links.links key) ≡ Some m → get L.links.links key ≡ Some m
      kept_at key m true e = cc
      kept_at key m false e = e

-- ---- slots that are full

len-rows : (es : List (Text × Resident)) → IsApart text_cmp es → len (from_entries {R = text_cmp} es) ≡ length es
len-rows [] apart = len-empty text_cmp Resident
len-rows (e ∷ es) apart =
    len-insert nat_list_cmp_total (from_entries {R = text_cmp} es) e.0 e.1
    ∙ ap (λ o. cond (is_some o) (len (from_entries {R = text_cmp} es)) (len (from_entries {R = text_cmp} es) + 1)) (get-from_entries nat_list_cmp_total es e.0 ∙ apart.0)
    ∙ ap (λ n. n + 1) (len-rows es apart.1) ∙ (let n : length es + 1 ≡ length (e ∷ es) = omega arith in n)

each : (s : Slot) (m : Bool) (rest : List (Text × Resident)) → length (with_resident s.content m rest) + (cond (is_retired s) 1 0 + cond (is_free s) 1 0) ≡ length rest + 1
each s m rest = elim s.content as (λ c. length (with_resident c m rest) + (cond (is_retired (record s { content = c })) 1 0 + cond (is_free (record s { content = c })) 1 0) ≡ length rest + 1) [
  | Free ↦ omega arith
  | Used h ↦ omega arith
  | Retired ↦ omega arith
]

kinds : (slots : List Slot) (marks : List Bool) → length marks ≡ length slots → length (resident_rows slots marks) + (count_by is_retired slots + free_slots slots) ≡ length slots
kinds [] marks e = refl
kinds (s ∷ slots) [] e = absurd (let f : 0 ≡ suc (length slots) = e in omega arith)
kinds (s ∷ slots) (m ∷ marks) e =
    let f : suc (length marks) ≡ suc (length slots) = e in
    let rest = kinds slots marks (omega arith) in
    let a : count_by is_retired (s ∷ slots) ≡ cond (is_retired s) 1 0 + count_by is_retired slots = sum_by-cons (λ x. cond (is_retired x) 1 0) s slots in
    let b : free_slots (s ∷ slots) ≡ cond (is_free s) 1 0 + free_slots slots = sum_by-cons (λ x. cond (is_free x) 1 0) s slots in
    let c = each s m (resident_rows slots marks) in
    let n : length (s ∷ slots) ≡ length slots + 1 = omega arith in
    omega arith

-- the catalog has room for a blob exactly if a slot is free
pub rooms : (L : Layers) (marks : List Bool) → length marks ≡ length L.slots → IsDistinct L.slots →
    len (catalog_from L marks).residents + (catalog_from L marks).retired + free_slots L.slots ≡ length L.slots
rooms L marks one_each distinct =
    let a = len-rows (resident_rows L.slots marks) (IsApart-rows L.slots marks distinct) in
    let b = kinds L.slots marks one_each in
    omega arith

-- ---- the slot of a digest

-- a digest without a slot has no resident blob
pub not_resident : (slots : List Slot) (marks : List Bool) (d : Text) → slot_of slots d ≡ None → get (residents_of slots marks) d ≡ None
not_resident slots marks d none =
    get-from_entries nat_list_cmp_total (resident_rows slots marks) d
    ∙ not_some (find text_cmp d (resident_rows slots marks)) (λ b found. let f = found_slot slots marks d b found in not_held slots d none f.0 f.1 f.2 f.3)

later : (c : SlotContent) (m : Bool) (rest : List (Text × Resident)) (d : Text) → is_some (find text_cmp d rest) ≡ true → is_some (find text_cmp d (with_resident c m rest)) ≡ true
later Free m rest d there = there
later (Used h) m rest d there = elim (eq_by_cmp text_cmp d h.digest) as (λ b. is_some (cond b (Some (resident_of m h)) (find text_cmp d rest)) ≡ true) [ true ↦ refl | false ↦ there ]
later Retired m rest d there = there

here : (c : SlotContent) (m : Bool) (rest : List (Text × Resident)) (h : StoredBlob) → stored_blob_in c ≡ Some h → is_some (find text_cmp h.digest (with_resident c m rest)) ≡ true
here Free m rest h e = cc
here (Used g) m rest h e =
    let same : g ≡ h = cc in
    ap (λ (x : StoredBlob). is_some (cond (eq_by_cmp text_cmp x.digest g.digest) (Some (resident_of m g)) (find text_cmp x.digest rest))) (sym same)
    ∙ ap (λ b. is_some (cond b (Some (resident_of m g)) (find text_cmp g.digest rest))) (ap is_eq (tied_itself nat_list_cmp_total g.digest))
here Retired m rest h e = cc

held_found : (slots : List Slot) (marks : List Bool) → length marks ≡ length slots → (k : ℕ) (h : StoredBlob) → stored_blob_at slots k ≡ Some h → is_some (find text_cmp h.digest (resident_rows slots marks)) ≡ true
held_found [] marks e k h at = cc
held_found (s ∷ slots) [] e k h at = absurd (let f : 0 ≡ suc (length slots) = e in omega arith)
held_found (s ∷ slots) (m ∷ marks) e zero h at = here s.content m (resident_rows slots marks) h at
held_found (s ∷ slots) (m ∷ marks) e (suc k) h at =
    let f : suc (length marks) ≡ suc (length slots) = e in
    later s.content m (resident_rows slots marks) h.digest (held_found slots marks (omega arith) k h at)

there_is : (o : Option Resident) → is_some o ≡ true → (b : Resident) × (o ≡ Some b)
there_is None e = cc
there_is (Some b) e = (b, refl)

-- the blob of a slot is resident, with the slot's bytes and mark
pub slot_is_resident : (slots : List Slot) (marks : List Bool) → length marks ≡ length slots → IsDistinct slots → (k : ℕ) (h : StoredBlob) → stored_blob_at slots k ≡ Some h →
    (b : Resident) × (get (residents_of slots marks) h.digest ≡ Some b) × (b.bytes ≡ h.bytes) × (b.condemned ≡ h.condemned)
slot_is_resident slots marks one_each distinct k h at =
    let b = there_is (find text_cmp h.digest (resident_rows slots marks)) (held_found slots marks one_each k h at) in
    let f = found_slot slots marks h.digest b.0 b.1 in
    let place : f.0 ≡ k = distinct f.0 k f.1 h f.2 at f.3 in
    let same : f.1 ≡ h = some_same (sym f.2 ∙ ap (stored_blob_at slots) place ∙ at) in
    (b.0, get-from_entries nat_list_cmp_total (resident_rows slots marks) h.digest ∙ b.1, f.4 ∙ ap (λ (x : StoredBlob). x.bytes) same, f.5 ∙ ap (λ (x : StoredBlob). x.condemned) same)
