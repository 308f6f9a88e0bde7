-- An index of tenants by their names, to which tenants are added.
use Rattle.std.proofs.Common.{◌≡◌, ℕ, ◌+◌, ◌<◌, ◌≤◌, Bool, true, false, cond, List, [], ◌∷◌, ◌++◌, length, take, drop, get_or, Option, Some, None, refl, sym, ap, ◌∙◌, subst, arith}
use Prim.Native.Nat.{suc}
use Rattle.std.specs.Prelude.{nat_lt, not, string_bytes}
use Rattle.std.specs.List.{count_by, position, position_or_len}
use Rattle.std.specs.Option.{option_map, option_or}
use Rattle.std.proofs.lemmas.Bool.{lt-ltb}
use Rattle.std.proofs.lemmas.Bool.Decides.{nat_tests}
use Rattle.std.proofs.lemmas.List.{length-take-le, take-append-drop, take_more}
use Rattle.std.proofs.lemmas.List.Quantifiers.{position-Some}
use Rattle.std.proofs.lemmas.List.Sums.{sum_by-append, sum_by-cons}
use Rattle.spec_lib.proofs.Rows.{sum_by-map}
use Rattle.spec_lib.specs.Texts.{Text, same_text}
use Rattle.link_table.specs.declared.tenant_index.TenantIndex.{TenantIndex}
use Rattle.link_table.specs.declared.tenants.TenantSettings.{TenantSettings}
use Rattle.link_table.specs.Tenancy.{AreApart, tenant_shown, tenants_shown}
use Rattle.link_table.specs.TenantIndex.{AddsNumber, IsIndexOf}
use Rattle.link_table.proofs.TenantLists.{one_place}

-- ---- the position in a longer list

more_by_one : (m n : ℕ) → nat_lt (1 + m) (suc n) ≡ nat_lt m n
more_by_one m n = grind (arith, nat_tests)

moved_on : (b : Bool) (n : ℕ) → cond b (Some (1 + n)) None ≡ option_map (λ k. 1 + k) (cond b (Some n) None)
moved_on true n = refl
moved_on false n = refl

position-cons : {A : Type 0} (p : A → Bool) (x : A) (xs : List A) → position p (x ∷ xs) ≡ cond (p x) (Some 0) (option_map (λ k. 1 + k) (position p xs))
position-cons p x xs =
    elim (p x) as (λ b. cond (nat_lt (cond (not b) (1 + position_or_len p xs) 0) (length (x ∷ xs))) (Some (cond (not b) (1 + position_or_len p xs) 0)) None ≡ cond b (Some 0) (option_map (λ k. 1 + k) (position p xs))) [
      | true ↦ ap (λ b. cond b (Some 0) None) (lt-ltb 0 (length (x ∷ xs)) (omega arith))
      | false ↦
          ap (λ b. cond b (Some (1 + position_or_len p xs)) None) (more_by_one (position_or_len p xs) (length xs))
          ∙ moved_on (nat_lt (position_or_len p xs) (length xs)) (position_or_len p xs)
    ]

-- an element at the end is the first one that passes if no other does
position-push : {A : Type 0} (p : A → Bool) (xs : List A) (x : A) → position p (xs ++ x ∷ []) ≡ option_or (position p xs) (cond (p x) (Some (length xs)) None)
position-push p [] x = position-cons p x []
position-push p (y ∷ ys) x =
    position-cons p y (ys ++ x ∷ []) ∙ ap (λ o. cond (p y) (Some 0) (option_map (λ k. 1 + k) o)) (position-push p ys x)
    ∙ after (p y) (position p ys) (p x) (length ys) ∙ sym (ap (λ o. option_or o (cond (p x) (Some (length (y ∷ ys))) None)) (position-cons p y ys))
  where
    after : (first : Bool) (o : Option ℕ) (last : Bool) (n : ℕ) → cond first (Some 0) (option_map (λ k. 1 + k) (option_or o (cond last (Some n) None)))
        ≡ option_or (cond first (Some 0) (option_map (λ k. 1 + k) o)) (cond last (Some (suc n)) None)
    after true o last n = refl
    after false (Some k) last n = refl
    after false None true n = ap Some (omega arith)
    after false None false n = refl

-- ---- one more tenant

abbrev is_named : Text → TenantSettings → Bool
is_named name t = same_text (string_bytes t.name) name

-- no name occurs twice among the first tenants
apart_before : (ts : List TenantSettings) (i : ℕ) (x : TenantSettings) → AreApart (tenants_shown ts) → i < length ts → x ≡ get_or ts i x → (name : Text) → count_by (is_named name) (take i ts ++ x ∷ []) ≤ 1
apart_before ts i x apart lt is name =
    let named : TenantSettings → ℕ = λ t. cond (is_named name t) 1 0 in
    let shown : count_by (λ t. same_text t.name name) (tenants_shown ts) ≡ count_by (is_named name) ts = sum_by-map (λ t. cond (same_text t.name name) 1 0) tenant_shown ts in
    let first : take (i + 1) ts ≡ take i ts ++ x ∷ [] = take_more ts i x lt ∙ ap (λ y. take i ts ++ y ∷ []) (sym is) in
    let split : count_by (is_named name) ts ≡ count_by (is_named name) (take (i + 1) ts) + count_by (is_named name) (drop (i + 1) ts) =
    ap (count_by (is_named name)) (sym (take-append-drop (i + 1) ts)) ∙ sum_by-append named (take (i + 1) ts) (drop (i + 1) ts) in
    let few = apart name in
    subst (λ xs. count_by (is_named name) xs ≤ 1) first (omega arith)

-- the index of these tenants with the number of one more is theirs
module _ (ts : List TenantSettings) (x : TenantSettings) (old new : TenantIndex) (apart : (name : Text) → count_by (is_named name) (ts ++ x ∷ []) ≤ 1) (is : IsIndexOf ts old) (added : AddsNumber old new (string_bytes x.name) (length ts)) where
  new_name : (name : Text) (k : ℕ) → is_named name x ≡ true → position (is_named name) ts ≡ Some k → ⊥
  new_name name k here there =
      let at = position-Some (is_named name) ts k x there in
      let other : 1 ≤ count_by (is_named name) ts = one_place (is_named name) ts k x at.0 at.1 in
      let named : TenantSettings → ℕ = λ t. cond (is_named name t) 1 0 in
      let both : count_by (is_named name) (ts ++ x ∷ []) ≡ count_by (is_named name) ts + (1 + 0) =
      sum_by-append named ts (x ∷ []) ∙ ap (λ n. count_by (is_named name) ts + n) (sum_by-cons named x [] ∙ ap (λ b. cond b 1 0 + 0) here) in
      let few = apart name in
      omega arith

  pub IsIndexOf-push : IsIndexOf (ts ++ x ∷ []) new
  IsIndexOf-push name =
      added name ∙ ap (λ o. cond (is_named name x) (Some (length ts)) o) (is name) ∙ by (is_named name x) (position (is_named name) ts) refl refl ∙ sym (position-push (is_named name) ts x)
    where
      by : (b : Bool) (o : Option ℕ) → is_named name x ≡ b → position (is_named name) ts ≡ o → cond b (Some (length ts)) o ≡ option_or o (cond b (Some (length ts)) None)
      by true None here there = refl
      by true (Some k) here there = absurd (new_name name k here there)
      by false None here there = refl
      by false (Some k) here there = refl

-- the index of the first tenants with the next one
pub IsIndexOf-next : (ts : List TenantSettings) (i : ℕ) (x : TenantSettings) (old new : TenantIndex) → AreApart (tenants_shown ts) → i < length ts → x ≡ get_or ts i x → IsIndexOf (take i ts) old → AddsNumber old new (string_bytes x.name) i → IsIndexOf (take (i + 1) ts) new
IsIndexOf-next ts i x old new apart lt is before added =
    let first : take (i + 1) ts ≡ take i ts ++ x ∷ [] = take_more ts i x lt ∙ ap (λ y. take i ts ++ y ∷ []) (sym is) in
    let many : length (take i ts) ≡ i = length-take-le i ts (omega arith) in
    subst (λ xs. IsIndexOf xs new) (sym first) (IsIndexOf-push (take i ts) x old new (apart_before ts i x apart lt is) before (subst (λ n. AddsNumber old new (string_bytes x.name) n) (sym many) added))
