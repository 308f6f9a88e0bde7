-- A tree is a finite map.
use Rattle.std.proofs.Common.{◌≡◌, List, [], ◌∷◌, Option, Some, None, refl, sym, ap, ◌∙◌}
use Rattle.std.specs.Prelude.{cond}
use Rattle.std.specs.Ordering.{is_eq, eq_by_cmp}
use Rattle.std.specs.Cmp.{IsTotalOrder}
use Rattle.std.specs.declared.cmp.Ordering.{Ordering}
use Rattle.std.specs.Cmp.Lexicographic.{nat_list_cmp_total}
use Rattle.std.proofs.lemmas.Cmp.{eq_by_cmp_equiv}
use Rattle.std.proofs.lemmas.Map.Lookups.{CmpEqualImpliesEq, exact_bytes}
use Rattle.std.specs.Map.{lookup}
use Rattle.std.specs.BTreeMap.{BTreeMap, is_at, get}
use Rattle.std.specs.FinMap as finite
use Rattle.spec_lib.specs.Texts.{Text, text_cmp}
use Rattle.spec_lib.specs.Trees.{map_of, tree_map}

module _ {K X : Type 0} {R : K → K → Ordering} (total : IsTotalOrder R) where
  found : (q : K) (es : List (K × X)) → lookup (is_at (R q)) es ≡ finite.find R q es
  found q [] = refl
  found q (e ∷ es) = ap (λ r. cond (is_eq (R q e.0)) (Some e.1) r) (found q es)

  -- a lookup in a tree is a lookup in its map
  pub tree_get : (m : BTreeMap K X) (q : K) → get R m q ≡ finite.get (tree_map R m) q
  tree_get m q = found q m.entries ∙ sym (finite.get-from_entries total m.entries q)

  -- a value at a key, or none, in a tree is the same in its map
  changed : (m n : BTreeMap K X) (k : K) (w : Option X) → ((q : K) → get R n q ≡ cond (is_at (R k) q) w (get R m q)) →
      (q : K) → finite.get (tree_map R n) q ≡ cond (eq_by_cmp R q k) w (finite.get (tree_map R m) q)
  changed m n k w h q =
      sym (tree_get n q) ∙ h q ∙ ap (λ r. cond (is_at (R k) q) w r) (tree_get m q)
      ∙ ap (λ b. cond b w (finite.get (tree_map R m) q)) ((eq_by_cmp_equiv total).symm k q)

  module _ (exact : CmpEqualImpliesEq R) where
    -- an insertion in a tree is an insertion in its map
    pub tree_insert : (m n : BTreeMap K X) (k : K) (v : X) → ((q : K) → get R n q ≡ cond (is_at (R k) q) (Some v) (get R m q)) →
        tree_map R n ≡ finite.insert (tree_map R m) k v
    tree_insert m n k v h = finite.same_map total exact (tree_map R n) (finite.insert (tree_map R m) k v) (λ q.
        changed m n k (Some v) h q ∙ sym (finite.get-insert total (tree_map R m) k v q))

    -- a removal from a tree is a removal from its map
    pub tree_remove : (m n : BTreeMap K X) (k : K) → ((q : K) → get R n q ≡ cond (is_at (R k) q) None (get R m q)) →
        tree_map R n ≡ finite.remove (tree_map R m) k
    tree_remove m n k h = finite.same_map total exact (tree_map R n) (finite.remove (tree_map R m) k) (λ q.
        changed m n k None h q ∙ sym (finite.get-remove total (tree_map R m) k q))

module _ {X : Type 0} where
  -- the same, if the keys are texts
  pub get_is : (m : BTreeMap Text X) (q : Text) → get text_cmp m q ≡ finite.get (map_of m) q
  get_is m q = tree_get nat_list_cmp_total m q

  pub insert_is : (m n : BTreeMap Text X) (k : Text) (v : X)
      → ((q : Text) → get text_cmp n q ≡ cond (is_at (text_cmp k) q) (Some v) (get text_cmp m q))
      → map_of n ≡ finite.insert (map_of m) k v
  insert_is m n k v h = tree_insert nat_list_cmp_total exact_bytes m n k v h
