-- Rows in the order of their keys as a finite map: a lookup, an insertion at its position and a removal.
use Rattle.std.proofs.Common.{◌≡◌, ◌≢◌, ℕ, ◌<◌, ◌≤◌, Bool, true, false, cond, List, [], ◌∷◌, length, map, get_or, Some, None, Err, refl, sym, ap, ◌∙◌, arith, add-one, inl, inr}
use Prim.Native.Nat.{zero, suc}
use Rattle.std.specs.Prelude.{T}
use Rattle.std.specs.declared.cmp.Ordering.{Ordering}
use Rattle.std.specs.declared.cmp.Ordering.TheVariants.{Less, Equal, Greater}
use Rattle.std.specs.Ordering.{is_lt, is_eq, nat_cmp, ordering_reverse, eq_by_cmp}
use Rattle.std.specs.Cmp.{IsTotalOrder, eq_by_cmp_equiv}
use Rattle.std.specs.List.{insert, remove, HoldsAt}
use Rattle.std.specs.List.Sorted.{IsSortedBy, IsBinarySearchResult, IsPartitionPoint}
use Rattle.std.specs.FinMap.{FinMap, find, put, entries_sorted, is_sorted, entries, from_entries, from_sorted, get-from_entries, get-from_sorted, entries-from_sorted, get-insert, same_map, IsAntisymmetric, insert as finsert}
use Rattle.std.specs.FinMap.Entries.{below_all, find-put, is_sorted-put}
use Rattle.std.proofs.lemmas.Bool.{and_parts, and_from, cases_lt}
use Rattle.std.proofs.lemmas.List.Sorted.{searchable_from_sorted}
use Rattle.std.proofs.lemmas.Bool.Decides.{nat_tests}
use Rattle.std.proofs.lemmas.List.{length-map}
use Rattle.spec_lib.specs.Rows.{IsApart}
use Rattle.spec_lib.proofs.Rows.{found_value}

T_from : (b : Bool) → b ≡ true → T b
T_from true e = tt
T_from false e = cc

from_T : (b : Bool) → T b → b ≡ true
from_T true h = refl
from_T false h = absurd h

pub is_less : (r : Ordering) → is_lt r ≡ true → r ≡ Less
is_less Less e = refl
is_less Equal e = cc
is_less Greater e = cc

pub nat_cmp-less : (x y : ℕ) → x < y → nat_cmp x y ≡ Less
nat_cmp-less x y h = grind (arith, nat_tests)

pub nat_cmp-equal : (x y : ℕ) → x ≡ y → nat_cmp x y ≡ Equal
nat_cmp-equal x y h = grind (arith, nat_tests)

pub nat_cmp-greater : (x y : ℕ) → y < x → nat_cmp x y ≡ Greater
nat_cmp-greater x y h = grind (arith, nat_tests)

-- the entries of a map rise by their keys
pub rising : {K X : Type 0} {R : K → K → Ordering} (m : FinMap R X) → is_sorted R (entries m) ≡ true
rising {R = R} m = from_T (is_sorted R (entries m)) (entries_sorted m)

module _ {K X : Type 0} (R : K → K → Ordering) where
  -- a key below all others is not found
  find_below : (q : K) (es : List (K × X)) → below_all R q es ≡ true → find R q es ≡ None
  find_below q [] h = refl
  find_below q (e ∷ es) h =
      let parts = and_parts (is_lt (R q e.0)) (below_all R q es) h in
      rw (is_less (R q e.0) parts.0) (find_below q es parts.1)

  -- the keys of rows in order differ
  pub IsApart-sorted : (es : List (K × X)) → is_sorted R es ≡ true → IsApart R es
  IsApart-sorted [] h = tt
  IsApart-sorted (e ∷ es) h =
      let parts = and_parts (below_all R e.0 es) (is_sorted R es) h in
      (find_below e.0 es parts.0, IsApart-sorted es parts.1)

  below_all-remove : (q : K) (es : List (K × X)) (i : ℕ) → below_all R q es ≡ true → below_all R q (remove es i) ≡ true
  below_all-remove q [] zero h = refl
  below_all-remove q [] (suc i) h = refl
  below_all-remove q (e ∷ es) zero h = (and_parts (is_lt (R q e.0)) (below_all R q es) h).1
  below_all-remove q (e ∷ es) (suc i) h =
      let parts = and_parts (is_lt (R q e.0)) (below_all R q es) h in
      and_from (is_lt (R q e.0)) (below_all R q (remove es i)) parts.0 (below_all-remove q es i parts.1)

  -- rows without one of them are in order
  pub is_sorted-remove : (es : List (K × X)) (i : ℕ) → is_sorted R es ≡ true → is_sorted R (remove es i) ≡ true
  is_sorted-remove [] zero h = refl
  is_sorted-remove [] (suc i) h = refl
  is_sorted-remove (e ∷ es) zero h = (and_parts (below_all R e.0 es) (is_sorted R es) h).1
  is_sorted-remove (e ∷ es) (suc i) h =
      let parts = and_parts (below_all R e.0 es) (is_sorted R es) h in
      and_from (below_all R e.0 (remove es i)) (is_sorted R (remove es i)) (below_all-remove e.0 es i parts.0) (is_sorted-remove es i parts.1)

module _ {K X : Type 0} (R : K → K → Ordering) (o : IsTotalOrder R) (same : IsAntisymmetric R) where
  -- rows in order are the entries of their map
  pub entries-sorted : (es : List (K × X)) → is_sorted R es ≡ true → entries (from_entries {R = R} es) ≡ es
  entries-sorted es h =
      let sorted : T (is_sorted R es) = T_from (is_sorted R es) h in
      ap entries (same_map o same (from_entries {R = R} es) (from_sorted es) (λ q. get-from_entries o es q ∙ sym (get-from_sorted R es q sorted)))
      ∙ entries-from_sorted R es sorted

  -- putting a row in its position is inserting it in the map
  pub from_entries-put : (k : K) (v : X) (es : List (K × X)) → from_entries {R = R} (put R k v es) ≡ finsert (from_entries es) k v
  from_entries-put k v es = same_map o same (from_entries {R = R} (put R k v es)) (finsert (from_entries es) k v) (λ q.
      get-from_entries o (put R k v es) q ∙ find-put R o q k v es
      ∙ sym (get-insert o (from_entries es) k v q ∙ ap (cond (eq_by_cmp R q k) (Some v)) (get-from_entries o es q)))

  pub is_sorted_put : (k : K) (v : X) (es : List (K × X)) → is_sorted R es ≡ true → is_sorted R (put R k v es) ≡ true
  is_sorted_put k v es h = from_T (is_sorted R (put R k v es)) (is_sorted-put R o k v es (T_from (is_sorted R es) h))

-- ---- rows of another type, each of which shows a key and a value

pub map_at : {A B : Type 0} (f : A → B) (xs : List A) (i : ℕ) (d : A) → get_or (map f xs) i (f d) ≡ f (get_or xs i d)
map_at f [] i d = refl
map_at f (x ∷ xs) zero d = refl
map_at f (x ∷ xs) (suc i) d = map_at f xs i d

module _ {K X A : Type 0} (R : K → K → Ordering) (o : IsTotalOrder R) (row : A → K × X) where
  pub rises_at : (xs : List A) (i : ℕ) (d : A) → is_sorted R (map row xs) ≡ true → suc i < length xs → R (row (get_or xs i d)).0 (row (get_or xs (suc i) d)).0 ≡ Less
  rises_at [] i d h lt = absurd (omega arith)
  rises_at (x ∷ []) i d h lt = absurd (omega arith)
  rises_at (x ∷ y ∷ xs) zero d h lt =
      let parts = and_parts (below_all R (row x).0 (map row (y ∷ xs))) (is_sorted R (map row (y ∷ xs))) h in
      is_less (R (row x).0 (row y).0) (and_parts (is_lt (R (row x).0 (row y).0)) (below_all R (row x).0 (map row xs)) parts.0).0
  rises_at (x ∷ y ∷ xs) (suc i) d h lt =
      let parts = and_parts (below_all R (row x).0 (map row (y ∷ xs))) (is_sorted R (map row (y ∷ xs))) h in
      rises_at (y ∷ xs) i d parts.1 (omega arith)

  -- rows in order, as a sort leaves them
  pub IsSortedBy-sorted : (xs : List A) → is_sorted R (map row xs) ≡ true → IsSortedBy (λ a b. is_lt (R (row a).0 (row b).0)) xs
  IsSortedBy-sorted xs h k d low below =
      let up : R (row (get_or xs k d)).0 (row (get_or xs (suc k) d)).0 ≡ Less = rises_at xs k d h (omega arith) in
      rw add-one (ap is_lt (o.antisymm (row (get_or xs (suc k) d)).0 (row (get_or xs k d)).0 ∙ ap ordering_reverse up))

  -- a search that misses ends between the keys below and the keys above
  pub gap : (xs : List A) (q : K) (i : ℕ) → is_sorted R (map row xs) ≡ true → IsBinarySearchResult (λ x. R (row x).0 q) xs (Err i) →
      IsPartitionPoint (λ x. R (row x).0 q ≡ Less) (λ x. R (row x).0 q ≡ Greater) xs i
  gap xs q i h missed = missed (searchable_from_sorted o (λ x. (row x).0) xs q (IsSortedBy-sorted xs h))

  differs : (r : Ordering) → r ≢ Equal → is_eq r ≡ false
  differs Less h = refl
  differs Equal h = absurd (h refl)
  differs Greater h = refl

  none_equal : (xs : List A) (q : K) → ((i : ℕ) (d : A) → i < length xs → R (row (get_or xs i d)).0 q ≢ Equal) → find R q (map row xs) ≡ None
  none_equal [] q h = refl
  none_equal (x ∷ xs) q h =
      rw ((eq_by_cmp_equiv o).symm q (row x).0 ∙ differs (R (row x).0 q) (h 0 x (omega arith))) (none_equal xs q (λ i d lt. h (suc i) d (omega arith)))

  -- a search that misses looked for a key that is not found
  pub missing : (xs : List A) (q : K) (i : ℕ) → is_sorted R (map row xs) ≡ true → IsBinarySearchResult (λ x. R (row x).0 q) xs (Err i) → find R q (map row xs) ≡ None
  missing xs q i h missed =
      let at = gap xs q i h missed in
      none_equal xs q (λ j d lt e. elim (cases_lt j i) [
        | inl low ↦ (let is : R (row (get_or xs j d)).0 q ≡ Less = at.0 j d (omega arith) low in cc)
        | inr high ↦ (let is : R (row (get_or xs j d)).0 q ≡ Greater = at.1 j d high lt in cc)
      ])

  -- a row inserted at the end of a search that misses is in its position
  pub put_at : (xs : List A) (i : ℕ) (a : A) → i ≤ length xs → IsPartitionPoint (λ x. R (row x).0 (row a).0 ≡ Less) (λ x. R (row x).0 (row a).0 ≡ Greater) xs i →
      map row (insert xs i a) ≡ put R (row a).0 (row a).1 (map row xs)
  put_at [] zero a le at = refl
  put_at [] (suc i) a le at = absurd (omega arith)
  put_at (x ∷ xs) zero a le at =
      let above : R (row x).0 (row a).0 ≡ Greater = at.1 0 x (omega arith) (omega arith) in
      rw (o.antisymm (row a).0 (row x).0 ∙ ap ordering_reverse above) refl
  put_at (x ∷ xs) (suc i) a le at =
      let under : R (row x).0 (row a).0 ≡ Less = at.0 0 x (omega arith) (omega arith) in
      rw (o.antisymm (row a).0 (row x).0 ∙ ap ordering_reverse under)
      (ap (λ es. row x ∷ es) (put_at xs i a (omega arith) ((λ k d low lt. at.0 (suc k) d (omega arith) (omega arith)), (λ k d low lt. at.1 (suc k) d (omega arith) (omega arith)))))

  -- a search that hits finds the value
  pub found_at : IsAntisymmetric R → (xs : List A) (q : K) (i : ℕ) (d : A) → is_sorted R (map row xs) ≡ true → i < length xs → HoldsAt (λ x. R (row x).0 q ≡ Equal) xs i →
      find R q (map row xs) ≡ Some (row (get_or xs i d)).1
  found_at same xs q i d h lt is =
      found_value R o (map row xs) i (row d) q (IsApart-sorted R (map row xs) h) (rw (length-map xs row) lt) (ap (λ e. e.0) (map_at row xs i d) ∙ same (row (get_or xs i d)).0 q (is d))
      ∙ ap (λ e. Some e.1) (map_at row xs i d)
