-- Sums and counts over a finite map, after a key was inserted, changed or removed. Each follows from the sum after a new key.
use Rattle.std.proofs.Common.{◌≡◌, ℕ, ◌+◌, Bool, true, false, cond, List, Option, Some, None, refl, sym, ap, ◌∙◌, arith, not, [], ◌∷◌}
use Rattle.std.specs.declared.cmp.Ordering.{Ordering}
use Rattle.std.specs.Ordering.{eq_by_cmp, is_eq}
use Rattle.std.specs.Cmp.{IsTotalOrder, Equal-is, tied_itself, alike_right, eq_by_cmp_equiv}
use Rattle.std.specs.List.{sum_by}
use Rattle.std.specs.FinMap.{FinMap, entries, get, insert, remove, get-insert, get-remove, get-entries, entries-insert, get_tied, same_map, IsAntisymmetric, from_sorted, get-from_sorted, entries-from_sorted, entries_sorted}
use Rattle.std.specs.FinMap.Entries.{where_key, is_sorted-where_key, find-where_key}
use Rattle.std.specs.declared.cmp.Ordering.TheVariants.{Equal}
use Rattle.std.proofs.lemmas.List.Sums.{sum_by-cons}
use Rattle.spec_lib.proofs.Rows.{sum_by-put}

module _ {K X : Type 0} {R : K → K → Ordering} (o : IsTotalOrder R) (same : IsAntisymmetric R) where
  over_at : (b : Bool) (x y : Option X) → cond b x (cond b None y) ≡ cond b x y
  over_at true x y = refl
  over_at false x y = refl

  -- changing the value of a key is removing the key and inserting it again
  pub insert-remove : (m : FinMap R X) (k : K) (v : X) → insert (remove m k) k v ≡ insert m k v
  insert-remove m k v = same_map o same (insert (remove m k) k v) (insert m k v) (λ q.
      get-insert o (remove m k) k v q ∙ ap (cond (eq_by_cmp R q k) (Some v)) (get-remove o m k q) ∙ over_at (eq_by_cmp R q k) (Some v) (get m q) ∙ sym (get-insert o m k v q))

  back_at : (b : Bool) (x y : Option X) → (b ≡ true → y ≡ x) → cond b x y ≡ y
  back_at true x y at = sym (at refl)
  back_at false x y at = refl

  pub insert_back : (m : FinMap R X) (k : K) (v : X) → get m k ≡ Some v → insert m k v ≡ m
  insert_back m k v found = same_map o same (insert m k v) m (λ q.
      get-insert o m k v q ∙ back_at (eq_by_cmp R q k) (Some v) (get m q) (λ tie. sym (get_tied o m q k ((Equal-is (R q k)).0 tie)) ∙ found))

  pub get-remove_same : (m : FinMap R X) (k : K) → get (remove m k) k ≡ None
  get-remove_same m k = get-remove o m k k ∙ rw (ap is_eq (tied_itself o k)) refl

  at_other : (b : Bool) (x : Option X) → cond (not b) x None ≡ cond b None x
  at_other true x = refl
  at_other false x = refl

  -- the entries without a key, in order
  pub entries-remove : (m : FinMap R X) (k : K) → entries (remove m k) ≡ where_key R (λ x. not (eq_by_cmp R k x)) (entries m)
  entries-remove m k =
      let p : K → Bool = λ x. not (eq_by_cmp R k x) in
      let sorted = is_sorted-where_key R p (entries m) (entries_sorted m) in
      let alike : (q x : K) → R q x ≡ Equal → p x ≡ p q = λ q x tie. ap (λ r. not (is_eq r)) (sym (alike_right o q x k tie)) in
      ap entries (same_map o same (remove m k) (from_sorted (where_key R p (entries m))) (λ q.
      get-remove o m k q ∙ ap (λ b. cond b None (get m q)) ((eq_by_cmp_equiv o).symm q k) ∙ sym (at_other (eq_by_cmp R k q) (get m q))
      ∙ ap (λ x. cond (not (eq_by_cmp R k q)) x None) (get-entries m q)
      ∙ sym (get-from_sorted R (where_key R p (entries m)) q sorted ∙ find-where_key R p q (alike q) (entries m))))
      ∙ entries-from_sorted R (where_key R p (entries m)) sorted

  module _ (f : K × X → ℕ) where
    pub sum_new : (m : FinMap R X) (k : K) (v : X) → get m k ≡ None → sum_by f (entries (insert m k v)) ≡ f (k, v) + sum_by f (entries m)
    sum_new m k v none = ap (sum_by f) (entries-insert o m k v) ∙ sum_by-put R f k v (entries m) (sym (get-entries m k) ∙ none)

    pub sum_split : (m : FinMap R X) (k : K) (v : X) → get m k ≡ Some v → sum_by f (entries m) ≡ f (k, v) + sum_by f (entries (remove m k))
    sum_split m k v found =
        ap (λ n. sum_by f (entries n)) (sym (insert-remove m k v ∙ insert_back m k v found))
        ∙ sum_new (remove m k) k v (get-remove_same m k)

    pub sum_changed : (m : FinMap R X) (k : K) (v w : X) → get m k ≡ Some v → sum_by f (entries (insert m k w)) + f (k, v) ≡ sum_by f (entries m) + f (k, w)
    sum_changed m k v w found =
        let after : sum_by f (entries (insert m k w)) ≡ f (k, w) + sum_by f (entries (remove m k)) =
        ap (λ n. sum_by f (entries n)) (sym (insert-remove m k w)) ∙ sum_new (remove m k) k w (get-remove_same m k) in
        let before : sum_by f (entries m) ≡ f (k, v) + sum_by f (entries (remove m k)) = sum_split m k v found in
        omega arith

-- sums of terms that agree on the keys that pass
pub sum_by-where_key : {K X : Type 0} (R : K → K → Ordering) (p : K → Bool) (f g : K × X → ℕ) → ((e : K × X) → p e.0 ≡ true → f e ≡ g e) → (es : List (K × X)) → sum_by f (where_key R p es) ≡ sum_by g (where_key R p es)
sum_by-where_key R p f g alike [] = refl
sum_by-where_key R p f g alike (e ∷ es) =
    elim (p e.0) as (λ b. p e.0 ≡ b → sum_by f (cond b (e ∷ where_key R p es) (where_key R p es)) ≡ sum_by g (cond b (e ∷ where_key R p es) (where_key R p es))) [
      | true ↦ λ h. sum_by-cons f e (where_key R p es) ∙ (λ i. alike e h i + sum_by-where_key R p f g alike es i) ∙ sym (sum_by-cons g e (where_key R p es))
      | false ↦ λ h. sum_by-where_key R p f g alike es
    ] refl
