-- A sound catalog has few checked-out sessions, and reserves few bytes for them.
use Rattle.std.proofs.Common.{◌≡◌, ◌<◌, ◌≤◌, ◌+◌, ◌*◌, ◌^◌, ◌==◌, [], ◌∷◌, ℕ, Bool, true, false, cond, List, length, Option, Some, None, refl, sym, ap, arith}
use Prim.Native.Nat.{zero, suc}
use Rattle.std.specs.Prelude.{nat_lt}
use Rattle.std.specs.List.{sum_by}
use Rattle.std.specs.FinMap.{entries, get}
use Rattle.std.proofs.lemmas.Bool.{eqb-false, eqb-true, lt-ltb, ltb-false, ltb-true}
use Rattle.std.proofs.lemmas.List.Sums.{sum_by-cons, sum_by-le-sum_by}
use Rattle.blob_digest.proofs.KeyOrders.{number_cmp_total, exact_number}
use Rattle.spec_lib.proofs.Lists.{sum_by-add}
use Rattle.spec_lib.proofs.Maps.{sum_alike, term}
use Rattle.store_model.specs.Catalog.{Catalog, SessionNumber, Session, charged_length, open_sessions, session_charges_of, used_bytes}
use Rattle.store_model.specs.Hands.{checked_out_count_of, checked_out_count, reserved_bytes}
use Rattle.store_model.specs.Invariant.{Sound}
use Rattle.store_model.specs.Sessions.{are_checked_in, reserved_of}
use Rattle.store_model.proofs.Invariant.Bounds.{used_small}
use Rattle.store_model.proofs.Invariant.SessionTenants.{session_tenant}

module _ (f : SessionNumber × Session → ℕ) where
  -- the sum over the sessions of one tenant, and over those of the tenants below a number
  abbrev by_tenant : ℕ → SessionNumber × Session → ℕ
  by_tenant t e = cond (e.0.0 == t) (f e) 0

  abbrev below : ℕ → SessionNumber × Session → ℕ
  below m e = cond (nat_lt e.0.0 m) (f e) 0

  none_below : (es : List (SessionNumber × Session)) → sum_by (below 0) es ≡ 0
  none_below [] = refl
  none_below (e ∷ es) =
      let here : below 0 e ≡ 0 = elim (nat_lt e.0.0 0) as (λ b. nat_lt e.0.0 0 ≡ b → cond b (f e) 0 ≡ 0) [
        | true ↦ λ is. absurd (omega (arith, ltb-true e.0.0 0 is))
        | false ↦ λ is. refl
      ] refl in
      let rest = none_below es in
      let all = sum_by-cons (below 0) e es in
      omega (arith, here, rest, all)

  one_more : (m : ℕ) (e : SessionNumber × Session) → below (suc m) e ≡ below m e + by_tenant m e
  one_more m e = by e.0.0 (nat_lt e.0.0 (suc m)) (nat_lt e.0.0 m) (e.0.0 == m) refl refl refl
    where
      by : (x : ℕ) (a b c : Bool) → nat_lt x (suc m) ≡ a → nat_lt x m ≡ b → (x == m) ≡ c → cond a (f e) 0 ≡ cond b (f e) 0 + cond c (f e) 0
      by x true true true is_a is_b is_c = absurd (omega (arith, ltb-true x m is_b, eqb-true x m is_c))
      by x true true false is_a is_b is_c = omega arith
      by x true false true is_a is_b is_c = omega arith
      by x true false false is_a is_b is_c = absurd (omega (arith, ltb-true x (suc m) is_a, ltb-false x m is_b, eqb-false x m is_c))
      by x false true c is_a is_b is_c = absurd (omega (arith, ltb-false x (suc m) is_a, ltb-true x m is_b))
      by x false false true is_a is_b is_c = absurd (omega (arith, ltb-false x (suc m) is_a, eqb-true x m is_c))
      by x false false false is_a is_b is_c = omega arith

  all_below : (es : List (SessionNumber × Session)) (n : ℕ) → ((t : ℕ) → t < n → sum_by (by_tenant t) es ≤ 2 ^ 50) → (m : ℕ) → m ≤ n → sum_by (below m) es ≤ m * 2 ^ 50
  all_below es n each zero le = let none = none_below es in omega (arith, none)
  all_below es n each (suc m) le =
      let before = all_below es n each m (omega (arith, le)) in
      let here = each m (omega (arith, le)) in
      let sum = sum_by-add (below m) (by_tenant m) (below (suc m)) (one_more m) es in
      omega (arith, before, here, sum)

  module _ (C : Catalog) (sound : Sound C) where
    in_tenants : sum_by f (entries C.sessions) ≡ sum_by (below (length C.tenants)) (entries C.sessions)
    in_tenants = sum_alike number_cmp_total exact_number f (below (length C.tenants)) C.sessions C.sessions (λ q. at q (get C.sessions q) refl)
      where
        at : (q : SessionNumber) (o : Option Session) → get C.sessions q ≡ o → term f q o ≡ term (below (length C.tenants)) q o
        at q None found = refl
        at q (Some s) found = ap (λ b. cond b (f (q, s)) 0) (sym (lt-ltb q.0 (length C.tenants) (session_tenant C sound.lawful q s found)))

    of_all : ((t : ℕ) → t < length C.tenants → sum_by (by_tenant t) (entries C.sessions) ≤ 2 ^ 50) → sum_by f (entries C.sessions) ≤ 2 ^ 62
    of_all each =
        let sum = all_below (entries C.sessions) (length C.tenants) each (length C.tenants) (omega arith) in
        let few = sound.lawful.limits.tenants.1 in
        let same = in_tenants in
        omega (arith, sum, few, same)

module _ (C : Catalog) (sound : Sound C) where
  pub few_in_hand : checked_out_count C ≤ 2 ^ 62
  few_in_hand =
      let all = of_all (λ _. 1) C sound (λ t there. let few : open_sessions C t ≤ 4096 = sound.lawful.few_sessions t in omega (arith, few)) in
      let less = sum_by-le-sum_by checked_out_count_of (λ _. 1) (entries C.sessions) (λ e. at_most (are_checked_in e.1.chunks)) in
      omega (arith, all, less)
    where
      at_most : (b : Bool) → cond b 0 1 ≤ 1
      at_most true = omega arith
      at_most false = omega arith

  pub little_reserved : reserved_bytes C ≤ 2 ^ 62
  little_reserved =
      let all = of_all (λ e. charged_length e.1) C sound (λ t there. let small = used_small C sound t there in let part : session_charges_of C t ≤ used_bytes C t = omega arith in omega (arith, small, part)) in
      let less = sum_by-le-sum_by (λ e. reserved_of e.1.chunks) (λ e. charged_length e.1) (entries C.sessions) (λ e. omega arith) in
      omega (arith, all, less)
