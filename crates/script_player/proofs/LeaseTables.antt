-- A table of leases, and its finite map.
use Rattle.std.proofs.Common.{◌≡◌, ◌≢◌, ◌⊎◌, ◌==◌, inl, inr, ℕ, Bool, true, false, cond, List, [], ◌∷◌, Option, Some, None, refl, sym, ap, ◌∙◌}
use Rattle.std.specs.BTreeMap as tree
use Rattle.std.specs.BTreeMap.{is_at}
use Rattle.std.specs.Cmp.{eq_by_cmp_equiv, Equal-is}
use Rattle.std.specs.FinMap as fmap
use Rattle.std.specs.FinMap.{find, get-from_entries, get-insert, get-remove, get_tied, same_map, IsAntisymmetric}
use Rattle.std.specs.List.Sorted.{IsStrictlySortedBy}
use Rattle.std.specs.Map.{keys_of, lookup}
use Rattle.std.specs.Option.{option_map}
use Rattle.std.specs.Ordering.{eq_by_cmp, nat_cmp}
use Rattle.std.proofs.lemmas.Bool.{eqb-true, eq-eqb}
use Rattle.std.proofs.lemmas.Map.{lookup-none}
use Rattle.std.proofs.lemmas.Map.Entries.{none_past_head}
use Rattle.std.proofs.lemmas.Map.Keys.{IsDistinct-from_sorted, sorted_tail}
use Rattle.std.proofs.lemmas.Map.Lookups.{exact_pairs, exact_unsigned, exact_bytes}
use Rattle.spec_lib.specs.Texts.{text_cmp}
use Rattle.spec_lib.proofs.Sums.{insert-remove, insert_back}
use Rattle.blob_digest.specs.declared.refusal.Refusal.{Refusal}
use Rattle.blob_digest.specs.declared.refusal.Refusal.TheVariants.{Memory, WeightSpent}
use Rattle.store_api.specs.Answers.{Shared, Refused}
use Rattle.store_api.specs.LeaseViews.{LeaseView, half_lease}
use Rattle.script_player.specs.Leases.{Leases, Name, name_cmp}
use Rattle.script_player.specs.Plays.{share_result_in}
use Rattle.script_player.specs.LeaseNames.{name_cmp_total}
use Rattle.script_player.specs.LeaseTables.{held_rows, leases_in, with_lease}

pub exact_name : IsAntisymmetric name_cmp
exact_name = exact_pairs nat_cmp text_cmp exact_unsigned exact_bytes

-- ---- finite maps of leases

without : (b : Bool) (o : Option LeaseView) → (b ≡ true → o ≡ None) → cond b None o ≡ o
without true o none = sym (none refl)
without false o none = refl

-- removing a name without a lease changes nothing
pub remove_free : (m : Leases) (k : Name) → fmap.get m k ≡ None → fmap.remove m k ≡ m
remove_free m k free = same_map name_cmp_total exact_name (fmap.remove m k) m (λ q.
    get-remove name_cmp_total m k q ∙ without (eq_by_cmp name_cmp q k) (fmap.get m q) (λ tie. sym (get_tied name_cmp_total m q k ((Equal-is (name_cmp q k)).0 tie)) ∙ free))

-- a lease that was removed is put back
pub put_back : (m : Leases) (k : Name) (x : LeaseView) → fmap.get m k ≡ Some x → fmap.insert (fmap.remove m k) k x ≡ m
put_back m k x found = insert-remove name_cmp_total exact_name m k x ∙ insert_back name_cmp_total exact_name m k x found

not_equal : (n k : ℕ) → n ≢ k → (n == k) ≡ false
not_equal n k differ = elim (n == k) as (λ b. (n == k) ≡ b → (n == k) ≡ false) [
  | true ↦ λ e. absurd (differ (eqb-true n k e))
  | false ↦ λ e. e
] refl

-- a lease is removed, shared, and put back in two halves
pub shared_ok : (L L1 L2 L3 L4 : Leases) (name second : Name) (x one other : LeaseView) → L1 ≡ L → L2 ≡ fmap.remove L1 name → L3 ≡ fmap.insert L2 name one → L4 ≡ fmap.insert L3 second other
    → fmap.get L1 name ≡ Some x → fmap.get L second ≡ None → x.weight ≢ 1 → one ≡ half_lease x → other ≡ half_lease x → (Shared, L4) ≡ share_result_in L name second
shared_ok L L1 L2 L3 L4 name second x one other e1 e2 e3 e4 found free differ is_one is_other =
    let first : fmap.get L name ≡ Some x = ap (λ (m : Leases). fmap.get m name) (sym e1) ∙ found in
    let all : L4 ≡ fmap.insert (fmap.insert L name (half_lease x)) second (half_lease x) =
    e4 ∙ (λ i. fmap.insert ((e3 ∙ (λ j. fmap.insert ((e2 ∙ ap (λ (m : Leases). fmap.remove m name) e1) j) name (is_one j)) ∙ insert-remove name_cmp_total exact_name L name (half_lease x)) i) second (is_other i)) in
    rw (first, free, not_equal x.weight 1 differ) (ap (λ (m : Leases). (Shared, m)) all)

-- a lease is removed and put back, and the room for the second one is removed
pub shared_err : (L L1 L2 L3 L4 : Leases) (name second : Name) (x back : LeaseView) (e : Refusal) → L1 ≡ L → L2 ≡ fmap.remove L1 name → L3 ≡ fmap.insert L2 name back → L4 ≡ fmap.remove L3 second
    → fmap.get L1 name ≡ Some x → fmap.get L second ≡ None → back ≡ x → (e ≡ Memory) ⊎ ((e ≡ WeightSpent) × (x.weight ≡ 1)) → ((e ≡ Memory) × (L4 ≡ L)) ⊎ ((Refused e, L4) ≡ share_result_in L name second)
shared_err L L1 L2 L3 L4 name second x back e e1 e2 e3 e4 found free is_back why =
    let first : fmap.get L name ≡ Some x = ap (λ (m : Leases). fmap.get m name) (sym e1) ∙ found in
    let same3 : L3 ≡ L = e3 ∙ (λ i. fmap.insert ((e2 ∙ ap (λ (m : Leases). fmap.remove m name) e1) i) name (is_back i)) ∙ put_back L name x first in
    let same : L4 ≡ L = e4 ∙ ap (λ (m : Leases). fmap.remove m second) same3 ∙ remove_free L second free in
    elim why [
      | inl memory ↦ inl (memory, same)
      | inr spent ↦ inr (rw (first, free, eq-eqb x.weight 1 spent.1, spent.0) (ap (λ (m : Leases). (Refused WeightSpent, m)) same))
    ]

-- ---- tables

-- the lease under a name, by the content of its row
abbrev pub held_of : {L : Type 0} → (L → LeaseView) → Option (Option L) → Option LeaseView
held_of lent None = None
held_of lent (Some room) = option_map lent room

module _ {L : Type 0} (lent : L → LeaseView) where
  find_held : (p : Name) (es : List (Name × Option L)) → IsStrictlySortedBy name_cmp (keys_of es) → find name_cmp p (held_rows lent es) ≡ held_of lent (lookup (is_at (name_cmp p)) es)
  find_held p [] sorted = refl
  find_held p ((k, None) ∷ es) sorted =
      let rest = find_held p es (sorted_tail name_cmp k (keys_of es) sorted) in
      elim (is_at (name_cmp p) k) as (λ b. is_at (name_cmp p) k ≡ b → find name_cmp p (held_rows lent es) ≡ held_of lent (cond b (Some None) (lookup (is_at (name_cmp p)) es))) [
        | true ↦ λ tie.
            let e : Name × Option L = (k, None) in
            let past = none_past_head (eq_by_cmp_equiv name_cmp_total) p e es (IsDistinct-from_sorted name_cmp (keys_of (e ∷ es)) sorted) tie in
            rest ∙ ap (held_of lent) (lookup-none (is_at (name_cmp p)) es past)
        | false ↦ λ _. rest
      ] refl
  find_held p ((k, Some l) ∷ es) sorted =
      let rest = find_held p es (sorted_tail name_cmp k (keys_of es) sorted) in
      elim (is_at (name_cmp p) k) as (λ b. cond b (Some (lent l)) (find name_cmp p (held_rows lent es)) ≡ held_of lent (cond b (Some (Some l)) (lookup (is_at (name_cmp p)) es))) [
        | true ↦ refl
        | false ↦ rest
      ]

  -- the lease under a name is that of its row
  pub get-leases_in : (m : tree.BTreeMap Name (Option L)) (p : Name) → tree.IsOrdered name_cmp m → fmap.get (leases_in lent m) p ≡ held_of lent (tree.get name_cmp m p)
  get-leases_in m p ordered = get-from_entries name_cmp_total (held_rows lent m.entries) p ∙ find_held p m.entries ordered

  -- the same, for a known row
  pub held_at : (m : tree.BTreeMap Name (Option L)) (p : Name) → tree.IsOrdered name_cmp m → (row : Option (Option L)) → row ≡ tree.get name_cmp m p → held_of lent row ≡ fmap.get (leases_in lent m) p
  held_at m p ordered row is = ap (held_of lent) is ∙ sym (get-leases_in m p ordered)

  by_test : (b : Bool) (row old : Option (Option L)) → held_of lent (cond b row old) ≡ cond b (held_of lent row) (held_of lent old)
  by_test true row old = refl
  by_test false row old = refl

  module _ (m n : tree.BTreeMap Name (Option L)) (p : Name) (before : tree.IsOrdered name_cmp m) (after : tree.IsOrdered name_cmp n) where
    put_at : (row : Option (Option L)) → tree.Updates name_cmp m n p row → (x : Name) → fmap.get (leases_in lent n) x ≡ cond (eq_by_cmp name_cmp x p) (held_of lent row) (fmap.get (leases_in lent m) x)
    put_at row puts x =
        get-leases_in n x after
        ∙ ap (held_of lent) (puts.0 x)
        ∙ by_test (is_at (name_cmp p) x) row (tree.get name_cmp m x)
        ∙ ap (λ b. cond b (held_of lent row) (held_of lent (tree.get name_cmp m x))) ((eq_by_cmp_equiv name_cmp_total).symm p x)
        ∙ ap (cond (eq_by_cmp name_cmp x p) (held_of lent row)) (sym (get-leases_in m x before))

    -- a lease is put under the name
    pub put_lease : (l : L) → tree.Updates name_cmp m n p (Some (Some l)) → leases_in lent n ≡ fmap.insert (leases_in lent m) p (lent l)
    put_lease l puts = same_map name_cmp_total exact_name _ _ (λ x. put_at (Some (Some l)) puts x ∙ sym (get-insert name_cmp_total (leases_in lent m) p (lent l) x))

    -- the name has room and no lease
    pub put_none : tree.Updates name_cmp m n p (Some None) → leases_in lent n ≡ fmap.remove (leases_in lent m) p
    put_none puts = same_map name_cmp_total exact_name _ _ (λ x. put_at (Some None) puts x ∙ sym (get-remove name_cmp_total (leases_in lent m) p x))

    -- the name's row is removed
    pub take_row : tree.Updates name_cmp m n p None → leases_in lent n ≡ fmap.remove (leases_in lent m) p
    take_row takes = same_map name_cmp_total exact_name _ _ (λ x. put_at None takes x ∙ sym (get-remove name_cmp_total (leases_in lent m) p x))

    -- room is made under a name without a lease
    pub put_room : fmap.get (leases_in lent m) p ≡ None → tree.Updates name_cmp m n p (Some None) → leases_in lent n ≡ leases_in lent m
    put_room free puts = put_none puts ∙ remove_free (leases_in lent m) p free

    -- a lease or room is put under the name
    pub put_any : (room : Option L) → tree.Updates name_cmp m n p (Some room) → leases_in lent n ≡ with_lease (leases_in lent m) p (option_map lent room)
    put_any None puts = put_none puts
    put_any (Some l) puts = put_lease l puts
