-- A use is the sum over the tenant's distinct digests: over their set, and over any map of their sizes.
use Rattle.std.proofs.Common.{◌≡◌, ℕ, ◌+◌, Bool, true, false, cond, length, List, [], ◌∷◌, map, Option, Some, None, is_some, refl, sym, ap, ◌∙◌, subst, arith}
use Rattle.std.specs.Prelude.{◌&&◌, ◌||◌, nat_lt, if◌then◌else◌}
use Rattle.std.specs.declared.cmp.Ordering.{Ordering}
use Rattle.std.specs.Ordering.{eq_by_cmp, is_eq}
use Rattle.std.specs.Cmp.{IsTotalOrder, Equal-is, tied_itself}
use Rattle.std.proofs.lemmas.Bool.{false≢true, and_from, and_parts}
use Rattle.spec_lib.specs.Sets as set
use Rattle.std.specs.Option.{option_map_or}
use Rattle.std.specs.List.{sum_by, count_by, list_any, filter}
use Rattle.std.specs.Cmp.Lexicographic.{nat_list_cmp_total}
use Rattle.std.specs.FinMap.{FinMap, entries, get, get-empty, get-insert, contains_key-keys, IsAntisymmetric}
use Rattle.std.proofs.lemmas.Map.Lookups.{exact_bytes}
use Rattle.spec_lib.specs.Texts.{Text, text_cmp}
use Rattle.store_model.specs.Catalog.{Link, Resident, Catalog, is_repo_of, holds, tenant_holds, blob_length, blob_share, used_bytes, session_charges_of, held_digests}
use Rattle.store_model.specs.Invariant.{WellFormed}
use Rattle.spec_lib.proofs.Maps.{term, sum_alike, map_induct}
use Rattle.spec_lib.proofs.Lists.{list_any_count, list_any_weaker}
use Rattle.spec_lib.proofs.Rows.{entries-empty, sum_by-map}
use Rattle.spec_lib.proofs.Sums.{sum_new}
use Rattle.blob_digest.proofs.KeyOrders.{link_cmp_total, exact_link}
use Rattle.spec_lib.proofs.Sets.{now, still}
use Rattle.store_model.proofs.Invariant.Links.{unlinked, is_unheld}

module _ (C : Catalog) (lawful : WellFormed C) (t : ℕ) (sizes : FinMap text_cmp ℕ) (each : (d : Text) → get sizes d ≡ (if tenant_holds C t d then Some (blob_length C d) else None)) where
  abbrev value : Text × ℕ → ℕ
  value e = e.1

  at_held : (h : Bool) (d : Text) (b : Resident) (n : ℕ) → n ≡ length b.bytes → (if h then length b.bytes else 0) ≡ term value d (if h then Some n else None)
  at_held true d b n e = sym e
  at_held false d b n e = refl

  alike : (d : Text) (x : Option Resident) → get C.residents d ≡ x → term (blob_share C t) d x ≡ term value d (get sizes d)
  alike d None none = sym (ap (term value d) (each d ∙ ap (λ h. cond h (Some (blob_length C d)) None) (is_unheld C t d (unlinked C lawful d none))))
  alike d (Some b) found =
      at_held (tenant_holds C t d) d b (blob_length C d) (ap (λ x. option_map_or (λ (y : Resident). length y.bytes) x 0) found) ∙ sym (ap (term value d) (each d))

-- ---- the set of a tenant's digests

pub same_truth : (a b : Bool) → (a ≡ true → b ≡ true) → (b ≡ true → a ≡ true) → a ≡ b
same_truth true b to from = sym (to refl)
same_truth false true to from = from refl
same_truth false false to from = refl

module _ {K : Type 0} {R : K → K → Ordering} (o : IsTotalOrder R) (same : IsAntisymmetric R) where
  pub contains-from_list : (ks : List K) (k : K) → set.contains (set.from_list {R = R} ks) k ≡ list_any (eq_by_cmp R k) ks
  contains-from_list [] k = ap is_some (get-empty R k)
  contains-from_list (x ∷ ks) k = ap is_some (get-insert o (set.from_list {R = R} ks) x tt k) ∙ at (eq_by_cmp R k x) ∙ ap (λ b. eq_by_cmp R k x || b) (contains-from_list ks k)
    where
      at : (b : Bool) → is_some (cond b (Some tt) (get (set.from_list {R = R} ks) k)) ≡ (b || set.contains (set.from_list {R = R} ks) k)
      at true = refl
      at false = refl

  -- a member that passes
  pub any_member : (s : set.Set R) (p : K → Bool) (k : K) → set.contains s k ≡ true → p k ≡ true → list_any p (set.items s) ≡ true
  any_member s p k there is =
      list_any_weaker (eq_by_cmp R k) p (λ q tie. subst (λ (x : K). p x ≡ true) (same k q ((Equal-is (R k q)).0 tie)) is) (set.items s) (sym (contains_key-keys s k) ∙ there)

  pub some_member : (p : K → Bool) (s : set.Set R) → list_any p (set.items s) ≡ true → (k : K) × (set.contains s k ≡ true) × (p k ≡ true)
  some_member p = map_induct o same (λ (s : set.Set R). list_any p (set.items s) ≡ true → (k : K) × (set.contains s k ≡ true) × (p k ≡ true))
      (λ h. absurd (false≢true (sym (ap (λ (es : List (K × Unit {0})). list_any p (map (λ e. e.0) es)) (entries-empty R (Unit {0}))) ∙ h)))
      (λ s k v none rest h. elim (p k) as (λ b. p k ≡ b → (q : K) × (set.contains (set.insert s k) q ≡ true) × (p q ≡ true)) [
        | true ↦ λ is. (k, now o same s k, is)
        | false ↦ λ isnt.
            let one : K → ℕ = λ q. cond (p q) 1 0 in
            let sum : count_by p (set.items (set.insert s k)) ≡ cond (p k) 1 0 + count_by p (set.items s) =
            sum_by-map one (λ (e : K × Unit {0}). e.0) (entries (set.insert s k)) ∙ sum_new o same (λ (e : K × Unit {0}). cond (p e.0) 1 0) s k tt none ∙ ap (λ n. cond (p k) 1 0 + n) (sym (sum_by-map one (λ (e : K × Unit {0}). e.0) (entries s))) in
            let alike : count_by p (set.items (set.insert s k)) ≡ count_by p (set.items s) = sum ∙ ap (λ b. cond {A = ℕ} b 1 0 + count_by p (set.items s)) isnt ∙ omega arith in
            let found = rest (list_any_count p (set.items s) ∙ sym (ap (nat_lt 0) alike) ∙ sym (list_any_count p (set.items (set.insert s k))) ∙ h) in
            (found.0, still o same s k found.0 found.1, found.2)
      ] refl)

any_of_filtered : (p : Link → Bool) (q : Text → Bool) (ls : List Link) → list_any q (map (λ l. l.1) (filter p ls)) ≡ list_any (λ l. p l && q l.1) ls
any_of_filtered p q [] = refl
any_of_filtered p q (l ∷ ls) = elim (p l) as (λ b. list_any q (map (λ l. l.1) (cond b (l ∷ filter p ls) (filter p ls))) ≡ ((b && q l.1) || list_any (λ l. p l && q l.1) ls)) [
  | true ↦ ap (λ b. q l.1 || b) (any_of_filtered p q ls)
  | false ↦ any_of_filtered p q ls
]

-- the digests of the links of the tenant's repositories
pub held_digests-by_links : (C : Catalog) (t : ℕ) (d : Text) → set.contains (held_digests C t) d ≡ list_any (λ l. is_repo_of C t l.0 && eq_by_cmp text_cmp d l.1) (set.items C.links)
held_digests-by_links C t d =
    contains-from_list nat_list_cmp_total exact_bytes (map (λ l. l.1) (filter (λ l. is_repo_of C t l.0) (set.items C.links))) d
    ∙ any_of_filtered (λ l. is_repo_of C t l.0) (eq_by_cmp text_cmp d) (set.items C.links)

module _ (C : Catalog) (lawful : WellFormed C) (t : ℕ) where
  -- some link of one of the tenant's repositories
  pub tenant_holds-by_links : (d : Text) → list_any (λ l. is_repo_of C t l.0 && eq_by_cmp text_cmp d l.1) (set.items C.links) ≡ tenant_holds C t d
  tenant_holds-by_links d = same_truth (list_any p (set.items C.links)) (tenant_holds C t d) to from
    where
      p : Link → Bool
      p l = is_repo_of C t l.0 && eq_by_cmp text_cmp d l.1

      to : list_any p (set.items C.links) ≡ true → tenant_holds C t d ≡ true
      to h =
          let l = some_member link_cmp_total exact_link p C.links h in
          let both = and_parts _ _ l.2 in
          let is_d : l.0.1 ≡ d = sym (exact_bytes d l.0.1 ((Equal-is (text_cmp d l.0.1)).0 both.1)) in
          any_member nat_list_cmp_total exact_bytes C.repos (λ r. is_repo_of C t r && holds C r d) l.0.0 (lawful.links l.0 l.1).repo (and_from _ _ both.0 (ap (λ (x : Text). holds C l.0.0 x) (sym is_d) ∙ l.1))

      from : tenant_holds C t d ≡ true → list_any p (set.items C.links) ≡ true
      from h =
          let r = some_member nat_list_cmp_total exact_bytes (λ r. is_repo_of C t r && holds C r d) C.repos h in
          let both = and_parts _ _ r.2 in
          any_member link_cmp_total exact_link C.links p (r.0, d) both.1 (and_from _ _ both.0 (ap is_eq (tied_itself nat_list_cmp_total d)))

  pub contains-held_digests : (d : Text) → set.contains (held_digests C t) d ≡ tenant_holds C t d
  contains-held_digests d = held_digests-by_links C t d ∙ tenant_holds-by_links d

  -- A tenant's use is the total length of its distinct linked digests plus its sessions' bytes.
  pub used_by_digests : used_bytes C t ≡ sum_by (blob_length C) (set.items (held_digests C t)) + session_charges_of C t
  used_by_digests =
      let one : Text × Unit {0} → ℕ = λ e. blob_length C e.0 in
      let blobs : sum_by (blob_share C t) (entries C.residents) ≡ sum_by one (entries (held_digests C t)) = sum_alike nat_list_cmp_total exact_bytes (blob_share C t) one C.residents (held_digests C t) (λ d. equal d (get C.residents d) refl) in
      let mapped : sum_by (blob_length C) (set.items (held_digests C t)) ≡ sum_by one (entries (held_digests C t)) = sum_by-map (blob_length C) (λ (e : Text × Unit {0}). e.0) (entries (held_digests C t)) in
      omega arith
    where
      in_set : (n : ℕ) (x : Option (Unit {0})) → option_map_or (λ _. n) x 0 ≡ cond (is_some x) n 0
      in_set n None = refl
      in_set n (Some u) = refl

      equal : (d : Text) (x : Option Resident) → get C.residents d ≡ x → term (blob_share C t) d x ≡ term (λ (e : Text × Unit {0}). blob_length C e.0) d (get (held_digests C t) d)
      equal d None none =
          sym (in_set (blob_length C d) (get (held_digests C t) d) ∙ ap (λ h. cond h (blob_length C d) 0) (contains-held_digests d ∙ is_unheld C t d (unlinked C lawful d none)))
      equal d (Some b) found =
          let long : blob_length C d ≡ length b.bytes = ap (λ x. option_map_or (λ (y : Resident). length y.bytes) x 0) found in
          sym (in_set (blob_length C d) (get (held_digests C t) d) ∙ ap (λ h. cond h (blob_length C d) 0) (contains-held_digests d) ∙ ap (λ n. cond (tenant_holds C t d) n 0) long)
