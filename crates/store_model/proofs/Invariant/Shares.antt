-- The number of a tenant's distinct digests, after a link was added or removed and in equivalent catalogs.
use Rattle.std.proofs.Common.{◌≡◌, ℕ, ◌+◌, ◌<◌, ◌≤◌, Bool, true, false, cond, length, List, ◌∷◌, map, not, Option, Some, None, is_some, refl, sym, ap, ◌∙◌, arith, inl, inr, [], Ok}
use Rattle.std.specs.Prelude.{◌&&◌, ◌||◌, nat_le}
use Rattle.std.specs.declared.cmp.Ordering.{Ordering}
use Rattle.std.specs.Ordering.{eq_by_cmp}
use Rattle.std.specs.Cmp.{IsTotalOrder}
use Rattle.std.specs.Cmp.Lexicographic.{nat_list_cmp_total}
use Rattle.std.specs.List.{filter, list_any}
use Rattle.std.specs.FinMap.{FinMap, contains_key, entries, get, get-insert, IsAntisymmetric, len, len-entries, len-insert, same_map}
use Rattle.std.proofs.lemmas.Bool.{lt-leb, or_right}
use Rattle.std.proofs.lemmas.List.{length-map}
use Rattle.std.proofs.lemmas.List.Sums.{count_by-le-length, length-filter}
use Rattle.std.proofs.lemmas.Map.Lookups.{exact_bytes}
use Rattle.spec_lib.specs.Sets as set
use Rattle.spec_lib.specs.Texts.{Text, text_cmp}
use Rattle.store_model.specs.Catalog.{Link, Catalog, is_repo_of, holds, tenant_holds, held_digests, held_count, share_of}
use Rattle.store_model.specs.Commands.{check_share}
use Rattle.spec_lib.specs.Outcomes.{refuse}
use Rattle.blob_digest.specs.declared.refusal.Refusal.TheVariants.{LimitReached}
use Rattle.store_model.specs.Invariant.{WellFormed}
use Rattle.spec_lib.proofs.Maps.{len-same_keys}
use Rattle.spec_lib.proofs.Rows.{entries-empty}
use Rattle.spec_lib.proofs.Sets.{member, now, still}
use Rattle.blob_digest.proofs.KeyOrders.{link_cmp_total, exact_link}
use Rattle.store_model.proofs.Invariant.Counts.{back}
use Rattle.store_model.proofs.Invariant.DistinctUse.{any_member, contains-held_digests, held_digests-by_links, same_truth, some_member}

-- ---- sets

same_unit : (x y : Option (Unit {0})) → is_some x ≡ is_some y → x ≡ y
same_unit None None e = refl
same_unit None (Some u) e = cc
same_unit (Some u) None e = cc
same_unit (Some u) (Some v) e = refl

module _ {K : Type 0} {R : K → K → Ordering} (o : IsTotalOrder R) (same : IsAntisymmetric R) where
  -- sets with the same members are the same
  pub same_set : (s u : set.Set R) → ((k : K) → set.contains s k ≡ set.contains u k) → s ≡ u
  same_set s u each = same_map o same s u (λ k. same_unit (get s k) (get u k) (each k))

  -- some member of a set with one more passes, if that one or another one does
  any_insert : (p : K → Bool) (s : set.Set R) (k : K) → list_any p (set.items (set.insert s k)) ≡ (p k || list_any p (set.items s))
  any_insert p s k = same_truth (list_any p (set.items (set.insert s k))) (p k || list_any p (set.items s)) to (from (p k) refl)
    where
      to : list_any p (set.items (set.insert s k)) ≡ true → (p k || list_any p (set.items s)) ≡ true
      to h =
          let x = some_member o same p (set.insert s k) h in
          elim (member o same s k x.0 x.1) [
            | inl e ↦ ap (λ b. b || list_any p (set.items s)) (sym (ap p e) ∙ x.2)
            | inr there ↦ or_right (p k) (list_any p (set.items s)) (any_member o same s p x.0 there x.2)
          ]

      from : (b : Bool) → p k ≡ b → (b || list_any p (set.items s)) ≡ true → list_any p (set.items (set.insert s k)) ≡ true
      from true is h = any_member o same (set.insert s k) p k (now o same s k) is
      from false is h = let x = some_member o same p s h in any_member o same (set.insert s k) p x.0 (still o same s k x.0 x.1) x.2

  contains_more : (s : set.Set R) (k q : K) → set.contains (set.insert s k) q ≡ (eq_by_cmp R q k || set.contains s q)
  contains_more s k q = ap is_some (get-insert o s k tt q) ∙ at (eq_by_cmp R q k)
    where
      at : (b : Bool) → is_some (cond b (Some tt) (get s q)) ≡ (b || set.contains s q)
      at true = refl
      at false = refl

-- the number of members is the size of the map
pub items_len : (s : set.Set text_cmp) → length (set.items s) ≡ len s
items_len s = length-map (entries s) (λ (e : Text × Unit {0}). e.0) ∙ sym (len-entries s)

-- a tenant holds no digest without links
pub held_count-none : (C : Catalog) (t : ℕ) → set.items C.links ≡ [] → held_count C t ≡ 0
held_count-none C t none =
    ap (λ ls. length (set.items (set.from_list {R = text_cmp} (map {B = Text} (λ (l : Link). l.1) (filter (λ l. is_repo_of C t l.0) ls))))) none
    ∙ ap (λ es. length (map {B = Text} (λ (e : Text × Unit {0}). e.0) es)) (entries-empty text_cmp (Unit {0}))

-- a set has at most as many members as the list that it was made of
from_list-few : (ks : List Text) → length (set.items (set.from_list {R = text_cmp} ks)) ≤ length ks
from_list-few [] = let none : length (set.items (set.from_list {R = text_cmp} [])) ≡ 0 = ap (λ es. length (map {B = Text} (λ (e : Text × Unit {0}). e.0) es)) (entries-empty text_cmp (Unit {0})) in omega arith
from_list-few (k ∷ ks) =
    let s : set.Set text_cmp = set.from_list ks in
    let rest = from_list-few ks in
    let size : length (set.items (set.insert s k)) ≡ cond (set.contains s k) (len s) (len s + 1) = items_len (set.insert s k) ∙ len-insert nat_list_cmp_total s k tt in
    let same = items_len s in
    let most = at_most_more (set.contains s k) (len s) in
    omega arith
  where
    at_most_more : (b : Bool) (n : ℕ) → cond b n (n + 1) ≤ n + 1
    at_most_more true n = omega arith
    at_most_more false n = omega arith

-- a tenant holds at most as many digests as there are links, so few links are within a share
pub few_links : (C : Catalog) (t : ℕ) (d : Text) → length (set.items C.links) < share_of C t → check_share C t d ≡ Ok tt
few_links C t d few =
    let own : List Link = filter (λ l. is_repo_of C t l.0) (set.items C.links) in
    let a : held_count C t ≤ length (map {B = Text} (λ (l : Link). l.1) own) = from_list-few (map (λ l. l.1) own) in
    let b : length (map {B = Text} (λ (l : Link). l.1) own) ≡ length own = length-map own (λ (l : Link). l.1) in
    let c = length-filter (λ (l : Link). is_repo_of C t l.0) (set.items C.links) in
    let most = count_by-le-length (λ (l : Link). is_repo_of C t l.0) (set.items C.links) in
    let within : nat_le (share_of C t) (held_count C t) ≡ false = lt-leb (share_of C t) (held_count C t) (omega arith) in
    ap (λ b. refuse b LimitReached) (by (tenant_holds C t d) (nat_le (share_of C t) (held_count C t)) within)
  where
    by : (held full : Bool) → full ≡ false → (not held && full) ≡ false
    by true full is = refl
    by false full is = is

-- ---- a link is added

module _ (C : Catalog) (t : ℕ) (r d : Text) where
  abbrev linked : Catalog
  linked = record C { links = set.insert C.links (r, d) }

  by_link : (x : Text) → set.contains (held_digests linked t) x ≡ ((is_repo_of C t r && eq_by_cmp text_cmp x d) || set.contains (held_digests C t) x)
  by_link x =
      held_digests-by_links linked t x
      ∙ any_insert link_cmp_total exact_link (λ l. is_repo_of C t l.0 && eq_by_cmp text_cmp x l.1) C.links (r, d)
      ∙ ap (λ b. (is_repo_of C t r && eq_by_cmp text_cmp x d) || b) (sym (held_digests-by_links C t x))

  -- no other tenant holds more
  pub held_other-link : is_repo_of C t r ≡ false → held_count linked t ≡ held_count C t
  held_other-link other =
      ap (λ (s : set.Set text_cmp). length (set.items s)) (same_set nat_list_cmp_total exact_bytes (held_digests linked t) (held_digests C t) (λ x. by_link x ∙ ap (λ b. (b && eq_by_cmp text_cmp x d) || set.contains (held_digests C t) x) other))

  -- the tenant holds one digest more, if it did not hold it
  pub held_count-link : is_repo_of C t r ≡ true → held_count linked t ≡ cond (set.contains (held_digests C t) d) (held_count C t) (held_count C t + 1)
  held_count-link own =
      let more : held_digests linked t ≡ set.insert (held_digests C t) d =
      same_set nat_list_cmp_total exact_bytes (held_digests linked t) (set.insert (held_digests C t) d) (λ x. by_link x ∙ ap (λ b. (b && eq_by_cmp text_cmp x d) || set.contains (held_digests C t) x) own ∙ sym (contains_more nat_list_cmp_total exact_bytes (held_digests C t) d x)) in
      ap (λ (s : set.Set text_cmp). length (set.items s)) more
      ∙ items_len (set.insert (held_digests C t) d)
      ∙ len-insert nat_list_cmp_total (held_digests C t) d tt
      ∙ (λ i. cond (set.contains (held_digests C t) d) (sym (items_len (held_digests C t)) i) (sym (items_len (held_digests C t)) i + 1))

  -- a tenant holds no fewer digests
  pub held_less-link : held_count C t ≤ held_count linked t
  held_less-link = by (is_repo_of C t r) refl
    where
      at : (b : Bool) (n m : ℕ) → m ≡ cond b n (n + 1) → n ≤ m
      at true n m e = omega arith
      at false n m e = omega arith

      by : (b : Bool) → is_repo_of C t r ≡ b → held_count C t ≤ held_count linked t
      by true own = at (set.contains (held_digests C t) d) (held_count C t) (held_count linked t) (held_count-link own)
      by false other = let same = held_other-link other in omega arith

-- a tenant holds no more digests after a link was removed
pub held_count-unlink : (C : Catalog) (t : ℕ) (r d : Text) → holds C r d ≡ true → held_count (record C { links = set.remove C.links (r, d) }) t ≤ held_count C t
held_count-unlink C t r d has =
    let without : Catalog = record C { links = set.remove C.links (r, d) } in
    let same : held_count (record C { links = set.insert without.links (r, d) }) t ≡ held_count C t = ap (λ ls. held_count (record C { links = ls }) t) (back C r d has) in
    let less = held_less-link without t r d in
    omega arith

-- ---- the same number in other terms

-- the number of digests that a tenant holds is the size of any map whose keys they are
pub held_count-by_keys : {X : Type 0} (C : Catalog) → WellFormed C → (t : ℕ) (m : FinMap text_cmp X) → ((d : Text) → contains_key m d ≡ tenant_holds C t d) → len m ≡ held_count C t
held_count-by_keys C lawful t m each =
    len-same_keys nat_list_cmp_total exact_bytes m (held_digests C t) (λ d. each d ∙ sym (contains-held_digests C lawful t d)) ∙ sym (items_len (held_digests C t))
