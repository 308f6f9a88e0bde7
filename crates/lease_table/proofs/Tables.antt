-- A tree whose keys are numbers is a finite map from numbers.
use Rattle.std.proofs.Common.{◌≡◌, ℕ, List, [], ◌∷◌, Option, Some, None, refl, sym, ap, ◌∙◌}
use Rattle.std.specs.Prelude.{cond}
use Rattle.std.specs.Ordering.{eq_by_cmp, is_eq, nat_cmp}
use Rattle.std.specs.Cmp.{nat_cmp_total}
use Rattle.std.proofs.lemmas.Cmp.{eq_by_cmp_equiv}
use Rattle.std.specs.Map.{lookup}
use Rattle.std.specs.BTreeMap as tree
use Rattle.std.specs.BTreeMap.{is_at}
use Rattle.std.specs.FinMap as fmap
use Rattle.std.specs.FinMap.{find, from_entries, get-from_entries, get-insert, get-remove, nat_cmp-IsAntisymmetric, same_map}
use Rattle.store_book.specs.Leased.{LeaseValue}
use Rattle.lease_table.specs.Tables.{lease_map_of}

found : (q : ℕ) (es : List (ℕ × LeaseValue)) → lookup (is_at (nat_cmp q)) es ≡ find nat_cmp q es
found q [] = refl
found q (e ∷ es) = ap (λ r. cond (is_eq (nat_cmp q e.0)) (Some e.1) r) (found q es)

-- a look-up in the tree is one in the map
pub get-tree : (m : tree.BTreeMap ℕ LeaseValue) (q : ℕ) → tree.get nat_cmp m q ≡ fmap.get (lease_map_of m) q
get-tree m q = found q m.entries ∙ sym (get-from_entries nat_cmp_total m.entries q)

module _ (m n : tree.BTreeMap ℕ LeaseValue) (k : ℕ) where
  updated : (w : Option LeaseValue) → tree.Updates nat_cmp m n k w → (q : ℕ) → fmap.get (lease_map_of n) q ≡ cond (eq_by_cmp nat_cmp q k) w (fmap.get (lease_map_of m) q)
  updated w updates q =
      sym (get-tree n q) ∙ updates.0 q ∙ ap (λ r. cond (is_at (nat_cmp k) q) w r) (get-tree m q)
      ∙ ap (λ b. cond b w (fmap.get (lease_map_of m) q)) ((eq_by_cmp_equiv nat_cmp_total).symm k q)

  -- an insertion in the tree is one in the map
  pub insert-tree : (v : LeaseValue) → tree.Updates nat_cmp m n k (Some v) → lease_map_of n ≡ fmap.insert (lease_map_of m) k v
  insert-tree v updates = same_map nat_cmp_total nat_cmp-IsAntisymmetric (lease_map_of n) (fmap.insert (lease_map_of m) k v) (λ q.
      updated (Some v) updates q ∙ sym (get-insert nat_cmp_total (lease_map_of m) k v q))

  -- a removal from the tree is one from the map
  pub remove-tree : tree.Updates nat_cmp m n k None → lease_map_of n ≡ fmap.remove (lease_map_of m) k
  remove-tree updates = same_map nat_cmp_total nat_cmp-IsAntisymmetric (lease_map_of n) (fmap.remove (lease_map_of m) k) (λ q.
      updated None updates q ∙ sym (get-remove nat_cmp_total (lease_map_of m) k q))

-- trees of the same entries are the same map
pub same-tree : (m n : tree.BTreeMap ℕ LeaseValue) → tree.IsUnchanged m n → lease_map_of n ≡ lease_map_of m
same-tree m n same = ap (from_entries {R = nat_cmp}) same
