-- Two finite maps that agree on some keys: updates that keep the agreement, and sums that do not distinguish the maps.
use Rattle.std.proofs.Common.{◌≡◌, ℕ, ◌+◌, Bool, true, false, cond, List, [], ◌∷◌, map, Option, Some, None, refl, sym, ap, ◌∙◌, arith}
use Rattle.std.specs.Prelude.{◌||◌}
use Rattle.std.specs.declared.cmp.Ordering.{Ordering}
use Rattle.std.specs.Ordering.{eq_by_cmp}
use Rattle.std.specs.Cmp.{IsTotalOrder, Equal-is}
use Rattle.std.specs.List.{sum_by, count_by, list_any, find}
use Rattle.std.specs.FinMap.{FinMap, entries, keys, get, insert, remove, get-insert, get-remove, IsAntisymmetric}
use Rattle.std.specs.FinMap.Entries.{where_key}
use Rattle.std.proofs.lemmas.Bool.{true≢false}
use Rattle.std.proofs.lemmas.List.Sums.{sum_by-cons}
use Rattle.spec_lib.proofs.Rows.{sum_by-map}
use Rattle.spec_lib.proofs.Parts.{where_key-agree}

abbrev pub AgreeOn : {K X : Type 0} {R : K → K → Ordering} → (K → Bool) → FinMap R X → FinMap R X → Type 0
AgreeOn p m n = (q : _) → p q ≡ true → get m q ≡ get n q

-- ---- lists of entries

module _ {K X : Type 0} (R : K → K → Ordering) (p : K → Bool) where
  -- a sum does not depend on entries whose terms are 0
  pub sum_off : (f : K × X → ℕ) → ((e : K × X) → p e.0 ≡ false → f e ≡ 0) → (es : List (K × X)) → sum_by f (where_key R p es) ≡ sum_by f es
  sum_off f none [] = refl
  sum_off f none (e ∷ es) =
      elim (p e.0) as (λ b. p e.0 ≡ b → sum_by f (cond b (e ∷ where_key R p es) (where_key R p es)) ≡ sum_by f (e ∷ es)) [
        | true ↦ λ h. sum_by-cons f e (where_key R p es) ∙ ap (λ n. f e + n) (sum_off f none es) ∙ sym (sum_by-cons f e es)
        | false ↦ λ h. sum_off f none es ∙ (let zero_term = none e h in let all : sum_by f (e ∷ es) ≡ f e + sum_by f es = sum_by-cons f e es in omega arith)
      ] refl

  pub find_off : (g : K × X → Bool) → ((e : K × X) → p e.0 ≡ false → g e ≡ false) → (es : List (K × X)) → find g (where_key R p es) ≡ find g es
  find_off g none [] = refl
  find_off g none (e ∷ es) =
      elim (p e.0) as (λ b. p e.0 ≡ b → find g (cond b (e ∷ where_key R p es) (where_key R p es)) ≡ find g (e ∷ es)) [
        | true ↦ λ h. ap (cond (g e) (Some e)) (find_off g none es)
        | false ↦ λ h. find_off g none es ∙ sym (rw (none e h) refl)
      ] refl

  pub any_off : (g : K → Bool) → ((k : K) → p k ≡ false → g k ≡ false) → (es : List (K × X)) → list_any g (map (λ e. e.0) (where_key R p es)) ≡ list_any g (map (λ e. e.0) es)
  any_off g none [] = refl
  any_off g none (e ∷ es) =
      elim (p e.0) as (λ b. p e.0 ≡ b → list_any g (map (λ e. e.0) (cond b (e ∷ where_key R p es) (where_key R p es))) ≡ list_any g (map (λ e. e.0) (e ∷ es))) [
        | true ↦ λ h. ap (λ b. g e.0 || b) (any_off g none es)
        | false ↦ λ h. any_off g none es ∙ sym (rw (none e.0 h) refl)
      ] refl

-- ---- maps

module _ {K X : Type 0} {R : K → K → Ordering} (o : IsTotalOrder R) (same : IsAntisymmetric R) where
  pub agree_insert : (p : K → Bool) (m n : FinMap R X) (k : K) (v : X) → AgreeOn p m n → AgreeOn p (insert m k v) (insert n k v)
  agree_insert p m n k v agree q is = get-insert o m k v q ∙ ap (cond (eq_by_cmp R q k) (Some v)) (agree q is) ∙ sym (get-insert o n k v q)

  pub agree_remove : (p : K → Bool) (m n : FinMap R X) (k : K) → AgreeOn p m n → AgreeOn p (remove m k) (remove n k)
  agree_remove p m n k agree q is = get-remove o m k q ∙ ap (cond (eq_by_cmp R q k) None) (agree q is) ∙ sym (get-remove o n k q)

  elsewhere : (p : K → Bool) (k q : K) (x y : Option X) (b : Bool) → eq_by_cmp R q k ≡ b → p k ≡ false → p q ≡ true → cond b x y ≡ y
  elsewhere p k q x y true tie off on = absurd (true≢false (sym on ∙ ap p (same q k ((Equal-is (R q k)).0 tie)) ∙ off))
  elsewhere p k q x y false tie off on = refl

  pub unseen_insert : (p : K → Bool) (m : FinMap R X) (k : K) (v : X) → p k ≡ false → AgreeOn p (insert m k v) m
  unseen_insert p m k v off q is = get-insert o m k v q ∙ elsewhere p k q (Some v) (get m q) (eq_by_cmp R q k) refl off is

  pub unseen_remove : (p : K → Bool) (m : FinMap R X) (k : K) → p k ≡ false → AgreeOn p (remove m k) m
  unseen_remove p m k off q is = get-remove o m k q ∙ elsewhere p k q None (get m q) (eq_by_cmp R q k) refl off is

  pub sum_agree : (p : K → Bool) (f : K × X → ℕ) (m n : FinMap R X) → AgreeOn p m n → ((e : K × X) → p e.0 ≡ false → f e ≡ 0) → sum_by f (entries m) ≡ sum_by f (entries n)
  sum_agree p f m n agree none = sym (sum_off R p f none (entries m)) ∙ ap (sum_by f) (where_key-agree o same p m n agree) ∙ sum_off R p f none (entries n)

  pub find_agree : (p : K → Bool) (g : K × X → Bool) (m n : FinMap R X) → AgreeOn p m n → ((e : K × X) → p e.0 ≡ false → g e ≡ false) → find g (entries m) ≡ find g (entries n)
  find_agree p g m n agree none = sym (find_off R p g none (entries m)) ∙ ap (find g) (where_key-agree o same p m n agree) ∙ find_off R p g none (entries n)

  pub any_agree : (p g : K → Bool) (m n : FinMap R X) → AgreeOn p m n → ((k : K) → p k ≡ false → g k ≡ false) → list_any g (keys m) ≡ list_any g (keys n)
  any_agree p g m n agree none = sym (any_off R p g none (entries m)) ∙ ap (λ es. list_any g (map (λ e. e.0) es)) (where_key-agree o same p m n agree) ∙ any_off R p g none (entries n)

  count_sum : (g : K → Bool) (m : FinMap R X) → count_by g (keys m) ≡ sum_by (λ (e : K × X). cond (g e.0) 1 0) (entries m)
  count_sum g m = sum_by-map (λ k. cond (g k) 1 0) (λ (e : K × X). e.0) (entries m)

  pub count_agree : (p g : K → Bool) (m n : FinMap R X) → AgreeOn p m n → ((k : K) → p k ≡ false → g k ≡ false) → count_by g (keys m) ≡ count_by g (keys n)
  count_agree p g m n agree none =
      count_sum g m ∙ sum_agree p (λ (e : K × X). cond (g e.0) 1 0) m n agree (λ e off. ap (λ b. cond b 1 0) (none e.0 off)) ∙ sym (count_sum g n)
