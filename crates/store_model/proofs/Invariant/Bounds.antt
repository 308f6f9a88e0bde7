-- Bounds on the numbers of a sound catalog.
use Rattle.std.proofs.Common.{◌≡◌, ℕ, ◌+◌, ◌*◌, ◌<◌, ◌≤◌, ◌^◌, Bool, true, false, cond, not, List, [], ◌∷◌, length, Option, Some, None, refl, sym, ap, ◌∙◌, arith}
use Prim.Native.Nat.{zero, suc}
use Rattle.std.specs.Prelude.{slice_get, nat_lt, nat_eq, ◌||◌}
use Rattle.std.specs.Option.{option_eq, option_map_or}
use Rattle.std.specs.Cmp.Lexicographic.{nat_list_cmp_total}
use Rattle.std.specs.List.{count_by, list_any}
use Rattle.std.proofs.lemmas.Bool.{true≢false, false_from_ne_true, lt-ltb}
use Rattle.std.proofs.lemmas.Bool.Decides.{nat_tests}
use Rattle.std.proofs.lemmas.List.Sums.{sum_by-cons, count_by-le-length}
use Rattle.std.proofs.lemmas.Map.Lookups.{exact_bytes}
use Rattle.std.specs.FinMap.{get}
use Rattle.spec_lib.proofs.Options.{some_value}
use Rattle.spec_lib.specs.Sets as set
use Rattle.spec_lib.proofs.Sums.{sum_split}
use Rattle.spec_lib.specs.Texts.{Text}
use Rattle.store_model.specs.Catalog.{Tenant, Resident, Catalog, tenant_of, is_repo_of_tenant, quota_of, tenant_holds, blob_share, used_bytes, link_count}
use Rattle.store_model.specs.Invariant.{WellFormed, Sound}
use Rattle.store_model.proofs.Invariant.DistinctUse.{some_member}
use Rattle.store_model.proofs.Invariant.TenantLimits.{each_at}
use Rattle.spec_lib.proofs.Lists.{list_any_count, count_by-none}
use Rattle.store_model.proofs.Commands.Accepted.{tenant_there}

-- no quota is above 2^50
pub quota_small : (C : Catalog) → WellFormed C → (t : ℕ) → quota_of C t ≤ 2 ^ 50
quota_small C lawful t = at (slice_get C.tenants t) refl
  where
    at : (o : Option Tenant) → slice_get C.tenants t ≡ o → option_map_or (λ x. x.quota) o 0 ≤ 2 ^ 50
    at None e = omega arith
    at (Some x) e = each_at (λ (y : Tenant). y.quota ≤ 2 ^ 50) C.tenants t x lawful.limits.quotas e

-- an element that passes one of two tests is counted by one of them
pub count_by-or : {A : Type 0} (p q r : A → Bool) → ((x : A) → p x ≡ true → (q x || r x) ≡ true) → (xs : List A) → count_by p xs ≤ count_by q xs + count_by r xs
count_by-or p q r either [] = omega arith
count_by-or p q r either (x ∷ xs) =
    let a : count_by p (x ∷ xs) ≡ cond (p x) 1 0 + count_by p xs = sum_by-cons (λ y. cond (p y) 1 0) x xs in
    let b : count_by q (x ∷ xs) ≡ cond (q x) 1 0 + count_by q xs = sum_by-cons (λ y. cond (q y) 1 0) x xs in
    let c : count_by r (x ∷ xs) ≡ cond (r x) 1 0 + count_by r xs = sum_by-cons (λ y. cond (r y) 1 0) x xs in
    let rest = count_by-or p q r either xs in
    let one : cond {A = ℕ} (p x) 1 0 ≤ cond (q x) 1 0 + cond (r x) 1 0 = at (p x) (q x) (r x) (either x) in
    omega arith
  where
    at : (a b c : Bool) → (a ≡ true → (b || c) ≡ true) → cond {A = ℕ} a 1 0 ≤ cond b 1 0 + cond c 1 0
    at false b c h = omega arith
    at true true c h = omega arith
    at true false true h = omega arith
    at true false false h = absurd (let f : false ≡ true = h refl in cc)

-- elements that pass a test, and those that fail it
pub count_by-split : {A : Type 0} (p : A → Bool) (xs : List A) → count_by p xs + count_by (λ x. not (p x)) xs ≡ length xs
count_by-split p [] = refl
count_by-split p (x ∷ xs) =
    let a : count_by p (x ∷ xs) ≡ cond (p x) 1 0 + count_by p xs = sum_by-cons (λ y. cond (p y) 1 0) x xs in
    let b : count_by (λ y. not (p y)) (x ∷ xs) ≡ cond (not (p x)) 1 0 + count_by (λ y. not (p y)) xs = sum_by-cons (λ y. cond (not (p y)) 1 0) x xs in
    let rest = count_by-split p xs in
    let one : cond {A = ℕ} (p x) 1 0 + cond (not (p x)) 1 0 ≡ 1 = at (p x) in
    omega arith
  where
    at : (b : Bool) → cond {A = ℕ} b 1 0 + cond (not b) 1 0 ≡ 1
    at true = refl
    at false = refl

-- whether a repository is one of the first tenants'
abbrev below : List Tenant → ℕ → Text → Bool
below tenants n r = option_map_or (λ t. nat_lt t n) (tenant_of tenants r) false

below-suc : (o : Option ℕ) (n : ℕ) → option_map_or (λ t. nat_lt t (suc n)) o false ≡ true → (option_map_or (λ t. nat_lt t n) o false || option_eq nat_eq o (Some n)) ≡ true
below-suc None n h = cc
below-suc (Some t) n h = grind (arith, nat_tests)

none_below : (o : Option ℕ) → option_map_or (λ t. nat_lt t 0) o false ≡ false
none_below None = refl
none_below (Some t) = grind (arith, nat_tests)

count_below : (tenants : List Tenant) (xs : List Text) → ((t : ℕ) → count_by (is_repo_of_tenant tenants t) xs ≤ 65536) → (n : ℕ) → count_by (below tenants n) xs ≤ n * 65536
count_below tenants xs few zero = let none = count_by-none (below tenants 0) (λ r. none_below (tenant_of tenants r)) xs in omega arith
count_below tenants xs few (suc n) =
    let step = count_by-or (below tenants (suc n)) (below tenants n) (is_repo_of_tenant tenants n) (λ r h. below-suc (tenant_of tenants r) n h) xs in
    let rest = count_below tenants xs few n in
    let one = few n in
    omega arith

-- no count is above the number of all repositories, 4,096 tenants with 65,536 each
pub count_small : (C : Catalog) → WellFormed C → (d : Text) → link_count C d ≤ 268435456
count_small C lawful d =
    let T : ℕ = length C.tenants in
    let xs : List Text = set.items C.repos in
    let within : count_by (below C.tenants T) xs ≤ T * 65536 = count_below C.tenants xs lawful.repositories.few T in
    let parts : count_by (below C.tenants T) xs + count_by (λ r. not (below C.tenants T r)) xs ≡ length xs = count_by-split (below C.tenants T) xs in
    let none : count_by (λ r. not (below C.tenants T r)) xs ≡ 0 = zero_of (count_by (λ r. not (below C.tenants T r)) xs) (sym (list_any_count (λ r. not (below C.tenants T r)) xs) ∙ no_stranger) in
    let most : link_count C d ≤ length xs = count_by-le-length (λ r. set.contains C.links (r, d)) xs in
    let tenants = lawful.limits.tenants.1 in
    omega arith
  where
    zero_of : (n : ℕ) → nat_lt 0 n ≡ false → n ≡ 0
    zero_of n h = grind (arith, nat_tests)

    no_stranger : list_any (λ r. not (below C.tenants (length C.tenants) r)) (set.items C.repos) ≡ false
    no_stranger = false_from_ne_true (list_any (λ r. not (below C.tenants (length C.tenants) r)) (set.items C.repos)) (λ h.
        let r = some_member nat_list_cmp_total exact_bytes (λ r. not (below C.tenants (length C.tenants) r)) C.repos h in
        let t = some_value (tenant_of C.tenants r.0) (lawful.repositories.owned r.0 r.1) in
        let there : t.0 < length C.tenants = tenant_there C.tenants r.0 t.0 t.1 in
        let is : below C.tenants (length C.tenants) r.0 ≡ true = ap (λ o. option_map_or (λ t. nat_lt t (length C.tenants)) o false) t.1 ∙ lt-ltb t.0 (length C.tenants) there in
        true≢false (sym r.2 ∙ ap not is))

-- a tenant's use is small, and leaves room for a blob
pub used_small : (C : Catalog) → Sound C → (t : ℕ) → t < length C.tenants → used_bytes C t ≤ 2 ^ 50
used_small C sound t there = let within = sound.quotas t there in let quota = quota_small C sound.lawful t in omega arith

-- the length of a tenant's blob is at most its use
pub held_within : (C : Catalog) (t : ℕ) (d : Text) (b : Resident) → get C.residents d ≡ Some b → tenant_holds C t d ≡ true → length b.bytes ≤ used_bytes C t
held_within C t d b kept held =
    let sum = sum_split nat_list_cmp_total exact_bytes (blob_share C t) C.residents d b kept in
    let session_charge : blob_share C t (d, b) ≡ length b.bytes = rw held refl in
    omega arith
