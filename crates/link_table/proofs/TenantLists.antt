-- Lists of tenants: sorted, moved about, and with names that differ.
use Rattle.std.proofs.Common.{◌≡◌, ℕ, ◌+◌, ◌<◌, ◌≤◌, ◌^◌, Bool, true, false, cond, List, [], ◌∷◌, length, map, get_or, Option, Some, None, refl, sym, ap, ◌∙◌, arith, add-one}
use Prim.Native.Nat.{zero, suc}
use Rattle.std.specs.Prelude.{nat_eq, string_bytes}
use Rattle.std.specs.declared.cmp.Ordering.{Ordering}
use Rattle.std.specs.declared.cmp.Ordering.TheVariants.{Less, Equal, Greater}
use Rattle.std.specs.Ordering.{is_lt, is_eq, ordering_then, ordering_reverse, nat_cmp}
use Rattle.std.specs.Option.{option_eq}
use Rattle.std.specs.Cmp.{IsTotalOrder}
use Rattle.std.specs.Cmp.Lexicographic.{nat_list_cmp_total, texts_ties}
use Rattle.std.specs.List.{All, AllByRecursion, AllAdjacentBelow, count_by, position}
use Rattle.std.specs.List.Sorted.{IsPermutation, IsSortedBy, IsStrictlySortedBy}
use Rattle.std.proofs.lemmas.Bool.{true≢false, eq-eqb, eqb-true}
use Rattle.std.proofs.lemmas.List.Elements.{All-map}
use Rattle.std.proofs.lemmas.List.Quantifiers.{position-Some}
use Rattle.std.proofs.lemmas.List.Sorted.{All-permutation, length_permutation, sum_by-IsPermutation, IsPermutation-sym, IsPermutation-map}
use Rattle.std.proofs.lemmas.List.Sums.{sum_by-cons}
use Rattle.spec_lib.proofs.Texts.{same_itself, text_is_same}
use Rattle.spec_lib.specs.Texts.{Text, text_cmp, same_text}
use Rattle.blob_digest.specs.Names.{tenant_name, IsComponent}
use Rattle.blob_digest.specs.Tenants.{AreSupported, Tenant, tenant_of, is_repo_of_tenant, no_tenant}
use Rattle.spec_lib.proofs.Rows.{position-map, sum_by-map}
use Rattle.link_table.specs.declared.tenants.TenantLimits.{TenantLimits}
use Rattle.link_table.specs.declared.tenants.TenantSettings.{TenantSettings}
use Rattle.link_table.specs.Linked.{limits_in}
use Rattle.link_table.specs.Tenancy.{AreTenants, DoNamesRise, HasNames, IsWithinLimits, tenant_shown, tenants_shown}
use Rattle.spec_lib.proofs.Sorted.{is_less}

-- ---- how many pass a test

count_by-cons : {A : Type 0} (p : A → Bool) (x : A) (xs : List A) → count_by p (x ∷ xs) ≡ cond (p x) 1 0 + count_by p xs
count_by-cons p x xs = sum_by-cons (λ y. cond (p y) 1 0) x xs

-- an element that passes is counted
pub one_place : {A : Type 0} (p : A → Bool) (xs : List A) (j : ℕ) (d : A) → j < length xs → p (get_or xs j d) ≡ true → 1 ≤ count_by p xs
one_place p [] j d lt h = absurd (omega arith)
one_place p (x ∷ xs) zero d lt h = rw (count_by-cons p x xs, h) (omega arith)
one_place p (x ∷ xs) (suc j) d lt h = let rest = one_place p xs j d (omega arith) h in rw (count_by-cons p x xs) (omega arith)

-- and two are counted both
pub two_places : {A : Type 0} (p : A → Bool) (xs : List A) (i j : ℕ) (d : A) → i < j → j < length xs → p (get_or xs i d) ≡ true → p (get_or xs j d) ≡ true → 2 ≤ count_by p xs
two_places p [] i j d below lt g h = absurd (omega arith)
two_places p (x ∷ xs) i zero d below lt g h = absurd (omega arith)
two_places p (x ∷ xs) zero (suc j) d below lt g h = let rest = one_place p xs j d (omega arith) h in rw (count_by-cons p x xs, g) (omega arith)
two_places p (x ∷ xs) (suc i) (suc j) d below lt g h = let rest = two_places p xs i j d (omega arith) (omega arith) g h in rw (count_by-cons p x xs) (omega arith)

-- ---- names that strictly rise

module _ {K : Type 0} (R : K → K → Ordering) (o : IsTotalOrder R) where
  below_all : (x y : K) (zs : List K) → R x y ≡ Less → AllByRecursion (λ z. R y z ≡ Less) zs → AllByRecursion (λ z. R x z ≡ Less) zs
  below_all x y [] less all = tt
  below_all x y (z ∷ zs) less all = (o.trans x y z less all.0, below_all x y zs less all.1)

  -- keys each of which is below the next
  pub rising_by : {A B : Type 0} (g : B → K) (h : A → B) (xs : List A) → ((k : ℕ) (d : A) → suc k < length xs → R (g (h (get_or xs k d))) (g (h (get_or xs (suc k) d))) ≡ Less) → IsStrictlySortedBy R (map g (map h xs))
  unfolding IsStrictlySortedBy
  rising_by g h [] next = tt
  rising_by g h (x ∷ []) next = (tt, tt)
  rising_by g h (x ∷ y ∷ ys) next =
      let rest = rising_by g h (y ∷ ys) (λ k d lt. next (suc k) d (omega arith)) in
      let first = next 0 x (omega arith) in
      ((first, below_all (g (h x)) (g (h y)) (map g (map h ys)) first rest.0), rest)

-- a name below all others is none of them
unnamed : (a : Text) (ts : List Tenant) → AllByRecursion (λ b. text_cmp a b ≡ Less) (map (λ t. t.name) ts) → count_by (λ t. same_text t.name a) ts ≡ 0
unnamed a [] all = refl
unnamed a (t ∷ ts) all =
    let reversed : text_cmp t.name a ≡ Greater = nat_list_cmp_total.antisymm t.name a ∙ ap ordering_reverse all.0 in
    count_by-cons (λ t. same_text t.name a) t ts ∙ rw (texts_ties t.name a ∙ ap is_eq reversed) (rw (unnamed a ts all.1) refl)

-- names that strictly rise occur once
pub once : (ts : List Tenant) → IsStrictlySortedBy text_cmp (map (λ t. t.name) ts) → (name : Text) → count_by (λ t. same_text t.name name) ts ≤ 1
unfolding IsStrictlySortedBy
once [] up name = omega arith
once (t ∷ ts) up name = rw (count_by-cons (λ t. same_text t.name name) t ts) (elim (same_text t.name name) as (λ b. same_text t.name name ≡ b → cond b 1 0 + count_by (λ t. same_text t.name name) ts ≤ 1) [
  | true ↦ λ is.
      let none : count_by (λ t. same_text t.name name) ts ≡ 0 = ap (λ a. count_by (λ t. same_text t.name a) ts) (sym (text_is_same t.name name is)) ∙ unnamed t.name ts up.0 in
      omega arith
  | false ↦ λ is. (let rest = once ts up.1 name in omega arith)
] refl)

-- ---- the same tenants in another order

module _ (xs ys : List Tenant) (moved : IsPermutation xs ys) where
  pub HasNames-moved : HasNames xs → HasNames ys
  HasNames-moved h = record {
    components = All-permutation (λ t. IsComponent t.name) xs ys moved h.components;
    apart = λ name. (let same = sum_by-IsPermutation (λ t. cond (same_text t.name name) 1 0) xs ys moved in let few = h.apart name in omega arith);
  }

  pub IsWithinLimits-moved : IsWithinLimits xs → IsWithinLimits ys
  IsWithinLimits-moved h =
      let same = length_permutation xs ys moved in
      record { some = (let some = h.some in omega arith); few = (let few = h.few in omega arith); quotas = All-permutation (λ t. t.quota ≤ 2 ^ 50) xs ys moved h.quotas; limits = All-permutation (λ t. AreSupported t.limits) xs ys moved h.limits }

-- a tenant's limits are supported, also if there is no such tenant
pub limits_supported : (ts : List Tenant) → All (λ t. AreSupported t.limits) ts → (t : ℕ) → AreSupported (limits_in ts t)
limits_supported [] all t = record { repos = omega arith; manifests = omega arith; sessions = omega arith }
limits_supported (x ∷ ts) all zero = all 0 x (omega arith)
limits_supported (x ∷ ts) all (suc t) = limits_supported ts (λ k d lt. all (suc k) d (omega arith)) t

-- ---- whose a repository is

-- a repository's tenant is looked up in the rows
pub tenant_of-rows : (rows : List TenantSettings) (repo name : Text) → name ≡ tenant_name repo → tenant_of (tenants_shown rows) repo ≡ position (λ t. same_text (string_bytes t.name) name) rows
tenant_of-rows rows repo name is = position-map (λ t. same_text t.name (tenant_name repo)) tenant_shown rows ∙ ap (λ n. position (λ t. same_text (string_bytes t.name) n) rows) (sym is)

pub is_repo_of_tenant-found : (ts : List Tenant) (repo : Text) (t : ℕ) → tenant_of ts repo ≡ Some t → is_repo_of_tenant ts t repo ≡ true
is_repo_of_tenant-found ts repo t found = ap (λ o. option_eq nat_eq o (Some t)) found ∙ eq-eqb t t refl

-- a tenant with a repository exists
pub own_within : (ts : List Tenant) (t : ℕ) (repo : Text) → is_repo_of_tenant ts t repo ≡ true → t < length ts
own_within ts t repo own = (position-Some (λ x. same_text x.name (tenant_name repo)) ts t no_tenant (is_some_of (tenant_of ts repo) own)).0
  where
    is_some_of : (o : Option ℕ) → option_eq nat_eq o (Some t) ≡ true → o ≡ Some t
    is_some_of None e = cc
    is_some_of (Some x) e = ap Some (eqb-true x t e)

-- a repository that no tenant has
pub nobodys : (ts : List Tenant) (repo : Text) → tenant_of ts repo ≡ None → (t : ℕ) → is_repo_of_tenant ts t repo ≡ false
nobodys ts repo none t = ap (λ o. option_eq nat_eq o (Some t)) none

-- ---- the checks

-- a property of all images is a property of each element's image
pub All-unmap : {A B : Type 0} (P : B → Type 0) (f : A → B) (xs : List A) → All P (map f xs) → All (λ x. P (f x)) xs
All-unmap P f [] all k d lt = absurd (omega arith)
All-unmap P f (x ∷ xs) all zero d lt = all 0 (f x) (omega arith)
All-unmap P f (x ∷ xs) all (suc k) d lt = All-unmap P f xs (λ j e below. all (suc j) e (omega arith)) k d (omega arith)

-- the order of limits, and of what follows a tenant's name
abbrev pub limits_cmp : TenantLimits → TenantLimits → Ordering
limits_cmp x y = ordering_then (nat_cmp x.repos y.repos) (ordering_then (nat_cmp x.manifests y.manifests) (nat_cmp x.sessions y.sessions))

abbrev pub numbers_cmp : TenantSettings → TenantSettings → Ordering
numbers_cmp x y = ordering_then (nat_cmp x.quota y.quota) (ordering_then (nat_cmp x.share y.share) (limits_cmp x.limits y.limits))

abbrev pub row_cmp : TenantSettings → TenantSettings → Ordering
row_cmp x y = ordering_then (text_cmp (string_bytes x.name) (string_bytes y.name)) (numbers_cmp x y)

-- neighbours in order of which the first name isn't below the second have one name
tied : (x y : TenantSettings) → is_lt (row_cmp y x) ≡ false → false ≡ is_lt (text_cmp (string_bytes x.name) (string_bytes y.name)) → same_text (string_bytes x.name) (string_bytes y.name) ≡ true
tied x y up not_below = texts_ties (string_bytes x.name) (string_bytes y.name) ∙ by_cases (text_cmp (string_bytes x.name) (string_bytes y.name)) refl
  where
    by_cases : (r : Ordering) → text_cmp (string_bytes x.name) (string_bytes y.name) ≡ r → is_eq r ≡ true
    by_cases Less e = absurd (true≢false (sym (not_below ∙ ap is_lt e)))
    by_cases Equal e = refl
    by_cases Greater e =
        let back : text_cmp (string_bytes y.name) (string_bytes x.name) ≡ Less = nat_list_cmp_total.antisymm (string_bytes y.name) (string_bytes x.name) ∙ ap ordering_reverse e in
        absurd (true≢false (sym (ap (λ r. is_lt (ordering_then r (numbers_cmp y x))) back) ∙ up))

abbrev pub name_of : TenantSettings → Text
name_of x = string_bytes x.name

some_row : (ts : List TenantSettings) → 0 < length ts → TenantSettings
some_row [] some = absurd (omega arith)
some_row (x ∷ ts) some = x

-- two neighbours of one name
abbrev pub HasNeighbours : List TenantSettings → Type 0
HasNeighbours ts = (k : ℕ) × (k + 1 < length ts) × ((d : TenantSettings) → false ≡ is_lt (text_cmp (name_of (get_or ts k d)) (name_of (get_or ts (k + 1) d))))

twice : (ts : List TenantSettings) → IsSortedBy (λ x y. is_lt (row_cmp x y)) ts → HasNeighbours ts → HasNames (tenants_shown ts) → ⊥
twice ts up at names =
    let k = at.0 in
    let d = some_row ts (let lt = at.1 in omega arith) in
    let name = name_of (get_or ts (k + 1) d) in
    let low : 0 ≤ k = omega arith in
    let two = two_places (λ x. same_text (name_of x) name) ts k (k + 1) d (omega arith) at.1 (tied (get_or ts k d) (get_or ts (k + 1) d) (up k d low at.1) (at.2 d)) (same_itself name) in
    let few = names.apart name in
    let shown = sum_by-map (λ t. cond (same_text t.name name) 1 0) tenant_shown ts in
    omega arith

module _ (given ts : List TenantSettings) (moved : IsPermutation given ts) where
  pub shown_moved : IsPermutation (tenants_shown given) (tenants_shown ts)
  shown_moved = IsPermutation-map tenant_shown given ts moved

  back : IsPermutation (tenants_shown ts) (tenants_shown given)
  back = IsPermutation-sym (tenants_shown given) (tenants_shown ts) shown_moved

  pub no_component : (All (λ t. IsComponent (string_bytes t.name)) ts → ⊥) → HasNames (tenants_shown given) → ⊥
  no_component none names = none (All-unmap (λ t. IsComponent t.name) tenant_shown ts (HasNames-moved (tenants_shown given) (tenants_shown ts) shown_moved names).components)

  pub comes_twice : IsSortedBy (λ x y. is_lt (row_cmp x y)) ts → HasNeighbours ts → HasNames (tenants_shown given) → ⊥
  comes_twice up at names = twice ts up at (HasNames-moved (tenants_shown given) (tenants_shown ts) shown_moved names)

  module _ (next : AllAdjacentBelow (λ x y. true ≡ is_lt (text_cmp (name_of x) (name_of y))) ts (length ts)) (components : All (λ t. IsComponent (string_bytes t.name)) ts) where
    pub rises : DoNamesRise (tenants_shown ts)
    rises = rising_by text_cmp nat_list_cmp_total (λ t. t.name) tenant_shown ts (λ k d lt.
        let lt' : k + 1 < length ts = omega arith in
        is_less (text_cmp (name_of (get_or ts k d)) (name_of (get_or ts (suc k) d))) (sym (rw add-one at (next k d lt'))))

    shown_components : All (λ t. IsComponent t.name) (tenants_shown ts)
    shown_components = All-map (λ t. IsComponent t.name) tenant_shown ts components

    pub have_names : HasNames (tenants_shown given)
    have_names = HasNames-moved (tenants_shown ts) (tenants_shown given) back (record { components = shown_components; apart = once (tenants_shown ts) rises })

    pub limited : IsWithinLimits (tenants_shown ts) → IsWithinLimits (tenants_shown given)
    limited = IsWithinLimits-moved (tenants_shown ts) (tenants_shown given) back

    pub beyond : (IsWithinLimits (tenants_shown ts) → ⊥) → IsWithinLimits (tenants_shown given) → ⊥
    beyond not_within limits = not_within (IsWithinLimits-moved (tenants_shown given) (tenants_shown ts) shown_moved limits)

    pub ordered : IsWithinLimits (tenants_shown ts) → AreTenants (tenants_shown ts)
    ordered limits = record { apart = once (tenants_shown ts) rises; components = shown_components; limits = limits }
