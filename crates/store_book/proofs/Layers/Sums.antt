-- The sums and counts that the layers keep are those of the catalog.
use Rattle.std.proofs.Common.{◌≡◌, ℕ, ◌+◌, ◌<◌, Bool, true, false, cond, List, [], ◌∷◌, length, Option, Some, None, is_some, refl, sym, ap, ◌∙◌, subst, arith}
use Prim.Native.Nat.{suc}
use Rattle.std.specs.Prelude.{◌&&◌, if◌then◌else◌, map}
use Rattle.std.specs.Option.{option_map}
use Rattle.std.specs.List.{sum_by}
use Rattle.std.specs.Ordering.{eq_by_cmp}
use Rattle.std.specs.Cmp.{Equal-is}
use Rattle.std.specs.Cmp.Lexicographic.{nat_list_cmp_total}
use Rattle.std.specs.FinMap.{FinMap, find, entries, get, from_entries, keys, get-entries, get-from_entries, same_map, contains_key-keys}
use Rattle.std.proofs.lemmas.List.Sums.{sum_by-cons}
use Rattle.std.proofs.lemmas.Bool.{false≢true, and_from, and_parts}
use Rattle.std.proofs.lemmas.Map.Lookups.{exact_bytes}
use Rattle.spec_lib.proofs.Lists.{witness, list_any_weaker}
use Rattle.spec_lib.proofs.Options.{not_some, some_none, some_same}
use Rattle.spec_lib.specs.Sets as set
use Rattle.spec_lib.specs.Rows.{IsApart}
use Rattle.blob_digest.proofs.KeyOrders.{link_cmp_total}
use Rattle.spec_lib.proofs.Texts.{tied_text}
use Rattle.spec_lib.proofs.Rows.{sum_by-from_entries}
use Rattle.slot_table.specs.Slots.{Slot, StoredBlob, Free, Used, Retired, stored_blob_at, stored_blob_in, IsDistinct}
use Rattle.link_table.specs.Linked.{blobs_of, total_size, used_in}
use Rattle.link_table.proofs.Weights.{IsBlobs-blobs}
use Rattle.spec_lib.specs.Texts.{Text, text_cmp}
use Rattle.store_model.specs.Catalog.{Link, Resident, Catalog, link_cmp, is_repo_of, is_repo_of_tenant, holds, tenant_holds, used_bytes}
use Rattle.store_book.specs.Layers.{Layers, links_of, resident_of, with_resident, resident_rows, catalog_from, AreCharges, IsTied}

-- ---- a sum over some keys of a map

module _ {X : Type 0} (p : Text → Bool) (f : X → ℕ) where
  abbrev pub picked : List (Text × X) → List (Text × ℕ)
  picked [] = []
  picked (e ∷ es) = if p e.0 then (e.0, f e.1) ∷ picked es else picked es

  abbrev pub share_of : Text × X → ℕ
  share_of e = if p e.0 then f e.1 else 0

  find-picked : (es : List (Text × X)) (q : Text) → find text_cmp q (picked es) ≡ cond (p q) (option_map f (find text_cmp q es)) None
  find-picked [] q = none_at (p q)
    where
      none_at : (b : Bool) → ◌≡◌ {A = Option ℕ} None (cond b None None)
      none_at true = refl
      none_at false = refl
  find-picked (e ∷ es) q =
      elim (eq_by_cmp text_cmp q e.0) as (λ b. eq_by_cmp text_cmp q e.0 ≡ b → find text_cmp q (cond (p e.0) ((e.0, f e.1) ∷ picked es) (picked es)) ≡ cond (p q) (option_map f (cond b (Some e.1) (find text_cmp q es))) None) [
        | true ↦ λ tie. ap (λ b. find text_cmp q (cond b ((e.0, f e.1) ∷ picked es) (picked es))) (ap p (sym (tied_text q e.0 tie))) ∙ at_tie (p q) refl tie (find-picked es q)
        | false ↦ λ tie. at_other (p e.0) tie ∙ find-picked es q
      ] refl
    where
      at_tie : (b : Bool) → p q ≡ b → eq_by_cmp text_cmp q e.0 ≡ true → find text_cmp q (picked es) ≡ cond (p q) (option_map f (find text_cmp q es)) None → find text_cmp q (cond b ((e.0, f e.1) ∷ picked es) (picked es)) ≡ cond b (Some (f e.1)) None
      at_tie true is tie below = rw tie refl
      at_tie false is tie below = below ∙ rw is refl

      at_other : (b : Bool) → eq_by_cmp text_cmp q e.0 ≡ false → find text_cmp q (cond b ((e.0, f e.1) ∷ picked es) (picked es)) ≡ find text_cmp q (picked es)
      at_other true tie = rw tie refl
      at_other false tie = refl

  IsApart-picked : (es : List (Text × X)) → IsApart text_cmp es → IsApart text_cmp (picked es)
  IsApart-picked [] apart = tt
  IsApart-picked (e ∷ es) apart =
      elim (p e.0) as (λ b. IsApart text_cmp (cond b ((e.0, f e.1) ∷ picked es) (picked es))) [
        | true ↦ (find-picked es e.0 ∙ ap (λ o. cond (p e.0) (option_map f o) None) apart.0 ∙ none_at (p e.0), IsApart-picked es apart.1)
        | false ↦ IsApart-picked es apart.1
      ]
    where
      none_at : (b : Bool) → ◌≡◌ {A = Option ℕ} (cond b None None) None
      none_at true = refl
      none_at false = refl

  sum-picked : (es : List (Text × X)) → sum_by (λ e. e.1) (picked es) ≡ sum_by share_of es
  sum-picked [] = refl
  sum-picked (e ∷ es) =
      elim (p e.0) as (λ b. p e.0 ≡ b → sum_by (λ e. e.1) (cond b ((e.0, f e.1) ∷ picked es) (picked es)) ≡ sum_by share_of (e ∷ es)) [
        | true ↦ λ is. let a : sum_by (λ (x : Text × ℕ). x.1) ((e.0, f e.1) ∷ picked es) ≡ f e.1 + sum_by (λ (x : Text × ℕ). x.1) (picked es) = sum_by-cons (λ (x : Text × ℕ). x.1) (e.0, f e.1) (picked es) in
            let b : sum_by share_of (e ∷ es) ≡ (if p e.0 then f e.1 else 0) + sum_by share_of es = sum_by-cons share_of e es in
            a ∙ ap (λ n. f e.1 + n) (sum-picked es) ∙ sym (b ∙ ap (λ c. (if c then f e.1 else 0) + sum_by share_of es) is)
        | false ↦ λ is. let b : sum_by share_of (e ∷ es) ≡ (if p e.0 then f e.1 else 0) + sum_by share_of es = sum_by-cons share_of e es in
            let c : sum_by share_of (e ∷ es) ≡ 0 + sum_by share_of es = b ∙ ap (λ c. (if c then f e.1 else 0) + sum_by share_of es) is in
            sum-picked es ∙ (omega arith)
      ] refl

  -- if a map's keys are among the rows', its sum is one over the rows
  pub sum-part : (m : FinMap text_cmp ℕ) (es : List (Text × X)) → IsApart text_cmp es → ((q : Text) → get m q ≡ cond (p q) (option_map f (find text_cmp q es)) None) →
      total_size m ≡ sum_by share_of (entries (from_entries {R = text_cmp} es))
  sum-part m es apart is =
      let same : m ≡ from_entries (picked es) = same_map nat_list_cmp_total exact_bytes m (from_entries (picked es)) (λ q. is q ∙ sym (get-from_entries nat_list_cmp_total (picked es) q ∙ find-picked es q)) in
      ap total_size same ∙ sum_by-from_entries text_cmp (λ e. e.1) nat_list_cmp_total (picked es) (IsApart-picked es apart) ∙ sum-picked es
      ∙ sym (sum_by-from_entries text_cmp share_of nat_list_cmp_total es apart)

-- ---- links without their sizes

abbrev pub mark : ℕ → Unit {0}
mark n = tt

unit_is : (u : Unit {0}) → ◌≡◌ {A = Option (Unit {0})} (Some tt) (Some u)
unit_is u = refl

find-keys : (es : List (Link × ℕ)) (k : Link) → find link_cmp k (set.unit_entries (map (λ e. e.0) es)) ≡ option_map mark (find link_cmp k es)
find-keys [] k = refl
find-keys (e ∷ es) k = ap (λ o. cond (eq_by_cmp link_cmp k e.0) (Some tt) o) (find-keys es k) ∙ marks (eq_by_cmp link_cmp k e.0) (find link_cmp k es)
  where
    marks : (b : Bool) (o : Option ℕ) → cond b (Some tt) (option_map mark o) ≡ option_map mark (cond b (Some e.1) o)
    marks true o = unit_is (mark e.1)
    marks false o = refl

pub get-links_of : (links : FinMap link_cmp ℕ) (k : Link) → get (links_of links) k ≡ option_map mark (get links k)
get-links_of links k = get-from_entries link_cmp_total (set.unit_entries (keys links)) k ∙ find-keys (entries links) k ∙ ap (option_map mark) (sym (get-entries links k))

-- ---- the blobs of the slots

abbrev Found : List Slot → List Bool → Text → Resident → Type 0
Found slots marks d b = (k : ℕ) × (h : StoredBlob) × (stored_blob_at slots k ≡ Some h) × (h.digest ≡ d) × (b.bytes ≡ h.bytes) × (b.condemned ≡ h.condemned)

-- a blob that is found is that of a slot
pub found_slot : (slots : List Slot) (marks : List Bool) (d : Text) (b : Resident) → find text_cmp d (resident_rows slots marks) ≡ Some b → Found slots marks d b
found_slot [] marks d b found = some_none (sym found)
found_slot (s ∷ slots) [] d b found = some_none (sym found)
found_slot (s ∷ slots) (m ∷ marks) d b found =
    elim s.content as (λ c. s.content ≡ c → find text_cmp d (with_resident c m (resident_rows slots marks)) ≡ Some b → Found (s ∷ slots) (m ∷ marks) d b) [
      | Free ↦ λ is h. later (found_slot slots marks d b h)
      | Used g ↦ λ is h. elim (eq_by_cmp text_cmp d g.digest) as (λ t. eq_by_cmp text_cmp d g.digest ≡ t → cond t (Some (resident_of m g)) (find text_cmp d (resident_rows slots marks)) ≡ Some b → Found (s ∷ slots) (m ∷ marks) d b) [
        | true ↦ λ tie e. (0, g, ap stored_blob_in is, sym (exact_bytes d g.digest ((Equal-is (text_cmp d g.digest)).0 tie)), ap (λ (x : Resident). x.bytes) (sym (some_same e)), ap (λ (x : Resident). x.condemned) (sym (some_same e)))
        | false ↦ λ tie e. later (found_slot slots marks d b e)
      ] refl h
      | Retired ↦ λ is h. later (found_slot slots marks d b h)
    ] refl found
  where
    later : Found slots marks d b → Found (s ∷ slots) (m ∷ marks) d b
    later f = (suc f.0, f.1, f.2, f.3, f.4, f.5)

suc_same : (k m : ℕ) → suc k ≡ suc m → k ≡ m
suc_same k m e = omega arith

pub IsDistinct-rest : (s : Slot) (slots : List Slot) → IsDistinct (s ∷ slots) → IsDistinct slots
IsDistinct-rest s slots distinct = λ k m g h at_k at_m same. suc_same k m (distinct (suc k) (suc m) g h at_k at_m same)

-- if no digest has two slots, the rows have distinct keys
pub IsApart-rows : (slots : List Slot) (marks : List Bool) → IsDistinct slots → IsApart text_cmp (resident_rows slots marks)
IsApart-rows [] marks distinct = tt
IsApart-rows (s ∷ slots) [] distinct = tt
IsApart-rows (s ∷ slots) (m ∷ marks) distinct =
    elim s.content as (λ c. s.content ≡ c → IsApart text_cmp (with_resident c m (resident_rows slots marks))) [
      | Free ↦ λ is. IsApart-rows slots marks (IsDistinct-rest s slots distinct)
      | Used g ↦ λ is. (
        not_some (find text_cmp g.digest (resident_rows slots marks)) (λ b found. let f = found_slot slots marks g.digest b found in
            let same : 0 ≡ suc f.0 = distinct 0 (suc f.0) g f.1 (ap stored_blob_in is) f.2 (sym f.3) in omega arith),
        IsApart-rows slots marks (IsDistinct-rest s slots distinct),
      )
      | Retired ↦ λ is. IsApart-rows slots marks (IsDistinct-rest s slots distinct)
    ] refl

-- ---- uses

is_some_map : (o : Option ℕ) → is_some (option_map mark o) ≡ is_some o
is_some_map None = refl
is_some_map (Some n) = refl

module _ (L : Layers) (marks : List Bool) (tied : IsTied L.links L.slots marks (catalog_from L marks))
    (named : (k : Link) → set.contains (links_of L.links.links) k ≡ true → set.contains L.links.repos k.0 ≡ true) where
  abbrev C : Catalog
  C = catalog_from L marks

  abbrev rows : List (Text × Resident)
  rows = resident_rows L.slots marks

  pub holds_is : (r d : Text) → holds C r d ≡ is_some (get L.links.links (r, d))
  holds_is r d = ap is_some (get-links_of L.links.links (r, d)) ∙ is_some_map (get L.links.links (r, d))

  module _ (t : ℕ) where
    held_by : (r d : Text) (n : ℕ) → is_repo_of_tenant L.links.tenants t r ≡ true → get L.links.links (r, d) ≡ Some n → tenant_holds C t d ≡ true
    held_by r d n own at =
        let here : holds C r d ≡ true = holds_is r d ∙ ap is_some at in
        list_any_weaker (eq_by_cmp text_cmp r) (λ q. is_repo_of C t q && holds C q d)
        (λ q tie. subst (λ (x : Text). (is_repo_of C t x && holds C x d) ≡ true) (exact_bytes r q ((Equal-is (text_cmp r q)).0 tie)) (and_from (is_repo_of C t r) (holds C r d) own here))
        (set.items C.repos) (sym (contains_key-keys C.repos r) ∙ named (r, d) here)

    size_at : (q : Text) (o : Option ℕ) → get (blobs_of L.links t) q ≡ o → o ≡ cond (tenant_holds C t q) (option_map (λ b. length b.bytes) (find text_cmp q rows)) None
    size_at q None is = sym (none_at (tenant_holds C t q) refl)
      where
        none_at : (b : Bool) → tenant_holds C t q ≡ b → cond b (option_map (λ b. length b.bytes) (find text_cmp q rows)) None ≡ None
        none_at true h =
            let r = witness (λ r. is_repo_of C t r && holds C r q) (set.items C.repos) h in
            let both = and_parts (is_repo_of C t r.0) (holds C r.0 q) r.1 in
            let none = (IsBlobs-blobs (is_repo_of_tenant L.links.tenants t) L.links.links).none q r.0 is both.0 in
            absurd (false≢true (ap is_some (sym none) ∙ sym (holds_is r.0 q) ∙ both.1))
        none_at false h = refl
    size_at q (Some n) is =
        let r = (IsBlobs-blobs (is_repo_of_tenant L.links.tenants t) L.links.links).some q n is in
        let b = tied.sizes (r.0, q) n r.2 in
        let found : find text_cmp q rows ≡ Some b.0 = sym (get-from_entries nat_list_cmp_total rows q) ∙ b.1 in
        rw (held_by r.0 q n r.1 r.2, found) (ap Some b.2)

    -- the use that the links count is that of the catalog
    pub used_is : AreCharges L.links C → t < length L.links.tenants → used_in L.links t ≡ used_bytes C t
    used_is charges lt = λ i. sum-part (tenant_holds C t) (λ (b : Resident). length b.bytes) (blobs_of L.links t) rows (IsApart-rows L.slots marks tied.distinct) (λ q. size_at q (get (blobs_of L.links t) q) refl) i + charges.sums t lt i
