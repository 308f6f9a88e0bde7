-- Lookups after an insertion or a removal, an induction over maps, sums of two maps that agree, and maps with the same keys.
use Rattle.std.proofs.Common.{◌≡◌, ◌≢◌, ℕ, ◌+◌, true, false, List, [], ◌∷◌, length, Option, Some, None, is_some, refl, sym, ap, ◌∙◌, subst, arith, inl, inr, zero-add}
use Prim.Native.Nat.{zero, suc}
use Rattle.std.specs.Prelude.{◌⊎◌}
use Rattle.std.specs.declared.cmp.Ordering.{Ordering}
use Rattle.std.specs.Ordering.{eq_by_cmp, is_eq}
use Rattle.std.specs.Option.{option_map_or}
use Rattle.std.specs.Cmp.{IsTotalOrder, Equal-is, tied_itself}
use Rattle.std.specs.List.{sum_by}
use Rattle.std.specs.FinMap.{FinMap, find, entries, get, insert, remove, empty, len, get-insert, get-remove, get-entries, get-empty, len-entries, len-remove, empty_of_len, same_map, IsAntisymmetric}
use Rattle.std.proofs.lemmas.Bool.{true≢false}
use Rattle.spec_lib.proofs.Lists.{sum_by-ones}
use Rattle.spec_lib.proofs.Options.{some_same}
use Rattle.spec_lib.proofs.Rows.{no_tie, entries-empty}
use Rattle.spec_lib.proofs.Sums.{sum_new, sum_split, insert-remove, insert_back, get-remove_same}
use Rattle.spec_lib.proofs.Parts.{remove_absent}

-- the term of a key in a sum
abbrev pub term : {K X : Type 0} → (K × X → ℕ) → K → Option X → ℕ
term f k x = option_map_or (λ v. f (k, v)) x 0

module _ {K : Type 0} {R : K → K → Ordering} (o : IsTotalOrder R) (same : IsAntisymmetric R) where
  itself : (k : K) → eq_by_cmp R k k ≡ true
  itself k = ap is_eq (tied_itself o k)

  pub cases_key : (q k : K) → (q ≡ k) ⊎ (q ≢ k)
  cases_key q k = elim (eq_by_cmp R q k) as (λ b. eq_by_cmp R q k ≡ b → (q ≡ k) ⊎ (q ≢ k)) [
    | true ↦ λ tie. inl (same q k ((Equal-is (R q k)).0 tie))
    | false ↦ λ tie. inr (λ e. true≢false (sym (itself k) ∙ ap (λ (x : K). eq_by_cmp R x k) (sym e) ∙ tie))
  ] refl

  module _ {X : Type 0} where
    pub get-insert_at : (m : FinMap R X) (k : K) (v : X) → get (insert m k v) k ≡ Some v
    get-insert_at m k v = get-insert o m k v k ∙ rw (itself k) refl

    pub get-insert_other : (m : FinMap R X) (k : K) (v : X) (q : K) → q ≢ k → get (insert m k v) q ≡ get m q
    get-insert_other m k v q differ = get-insert o m k v q ∙ rw (no_tie R same q k differ) refl

    pub get-remove_other : (m : FinMap R X) (k q : K) → q ≢ k → get (remove m k) q ≡ get m q
    get-remove_other m k q differ = get-remove o m k q ∙ rw (no_tie R same q k differ) refl

    -- a value found after an insertion is the new one, or was found before
    pub got-insert : (m : FinMap R X) (k : K) (v : X) (q : K) (x : X) → get (insert m k v) q ≡ Some x → ((q ≡ k) × (v ≡ x)) ⊎ (get m q ≡ Some x)
    got-insert m k v q x h =
        elim (cases_key q k) [
          | inl e ↦ inl (e, some_same (sym (get-insert_at m k v) ∙ ap (get (insert m k v)) (sym e) ∙ h))
          | inr differ ↦ inr (sym (get-insert_other m k v q differ) ∙ h)
        ]

    -- a value found after a removal was found before
    pub got-remove : (m : FinMap R X) (k q : K) (x : X) → get (remove m k) q ≡ Some x → get m q ≡ Some x
    got-remove m k q x h =
        elim (cases_key q k) [
          | inl e ↦ absurd (true≢false (sym (ap is_some (sym (ap (get (remove m k)) e ∙ get-remove_same o same m k) ∙ h))))
          | inr differ ↦ sym (get-remove_other m k q differ) ∙ h
        ]

    -- a key is still found after an insertion
    pub still_there : (m : FinMap R X) (k q : K) (v : X) → is_some (get m q) ≡ true → is_some (get (insert m k v) q) ≡ true
    still_there m k q v h = elim (cases_key q k) [
      | inl e ↦ ap is_some (ap (get (insert m k v)) e ∙ get-insert_at m k v)
      | inr differ ↦ ap is_some (get-insert_other m k v q differ) ∙ h
    ]

    -- inserting a new key and removing it restores the map
    pub remove-insert_new : (m : FinMap R X) (k : K) (v : X) → get m k ≡ None → remove (insert m k v) k ≡ m
    remove-insert_new m k v none = same_map o same (remove (insert m k v) k) m (λ q. elim (cases_key q k) [
      | inl e ↦ ap (get (remove (insert m k v) k)) e ∙ get-remove_same o same (insert m k v) k ∙ sym (ap (get m) e ∙ none)
      | inr differ ↦ get-remove_other (insert m k v) k q differ ∙ get-insert_other m k v q differ
    ])

    first_of : (es : List (K × X)) (n : ℕ) → length es ≡ suc n → (e : K × X) × (rest : List (K × X)) × (es ≡ e ∷ rest)
    first_of [] n h = absurd (omega arith)
    first_of (e ∷ es) n h = (e, es, refl)

    -- an entry of a map that is not empty
    some_entry : (m : FinMap R X) (n : ℕ) → len m ≡ suc n → (k : K) × (v : X) × (get m k ≡ Some v)
    some_entry m n h =
        let p = first_of (entries m) n (sym (len-entries m) ∙ h) in
        (p.0.0, p.0.1, get-entries m p.0.0 ∙ ap (find R p.0.0) p.2 ∙ rw (itself p.0.0) refl)

    induct_on : (P : FinMap R X → Type 0) → P empty → ((m : FinMap R X) (k : K) (v : X) → get m k ≡ None → P m → P (insert m k v)) → (n : ℕ) (m : FinMap R X) → len m ≡ n → P m
    induct_on P base step zero m h = subst P (sym (empty_of_len m h)) base
    induct_on P base step (suc n) m h =
        let e = some_entry m n h in
        let less : len (remove m e.0) ≡ n = len-remove o m e.0 ∙ rw (e.2) (rw h (omega arith)) in
        subst P (insert-remove o same m e.0 e.1 ∙ insert_back o same m e.0 e.1 e.2) (step (remove m e.0) e.0 e.1 (get-remove_same o same m e.0) (induct_on P base step n (remove m e.0) less))

    -- induction: a property of the empty map that each insertion of a new key keeps holds for every map
    pub map_induct : (P : FinMap R X → Type 0) → P empty → ((m : FinMap R X) (k : K) (v : X) → get m k ≡ None → P m → P (insert m k v)) → (m : FinMap R X) → P m
    map_induct P base step m = induct_on P base step (len m) m refl

    pub sum_at : (f : K × X → ℕ) (m : FinMap R X) (k : K) → sum_by f (entries m) ≡ term f k (get m k) + sum_by f (entries (remove m k))
    sum_at f m k = elim (get m k) as (λ x. get m k ≡ x → sum_by f (entries m) ≡ term f k x + sum_by f (entries (remove m k))) [
      | None ↦ λ none. ap (λ (n : FinMap R X). sum_by f (entries n)) (sym (remove_absent o same m k none)) ∙ sym (zero-add (sum_by f (entries (remove m k))))
      | Some v ↦ λ found. sum_split o same f m k v found
    ] refl

    pub sum_zero : (f : K × X → ℕ) (m : FinMap R X) → ((q : K) → term f q (get m q) ≡ 0) → sum_by f (entries m) ≡ 0
    sum_zero f = map_induct (λ m. ((q : K) → term f q (get m q) ≡ 0) → sum_by f (entries m) ≡ 0)
        (λ _. ap (sum_by f) (entries-empty R X))
        (λ m k v none rest zeros.
        let at : f (k, v) ≡ 0 = ap (term f k) (sym (get-insert_at m k v)) ∙ zeros k in
        let left = rest (λ q. elim (cases_key q k) [
          | inl e ↦ ap (term f q) (ap (get m) e ∙ none)
          | inr differ ↦ ap (term f q) (sym (get-insert_other m k v q differ)) ∙ zeros q
        ]) in
        let sum = sum_new o same f m k v none in
        omega arith)

  -- maps whose keys have the same terms have the same sum
  pub sum_alike : {X Y : Type 0} (f : K × X → ℕ) (g : K × Y → ℕ) (m : FinMap R X) (n : FinMap R Y) → ((q : K) → term f q (get m q) ≡ term g q (get n q)) → sum_by f (entries m) ≡ sum_by g (entries n)
  sum_alike {X} {Y} f g m =
      map_induct (λ m. (n : FinMap R Y) → ((q : K) → term f q (get m q) ≡ term g q (get n q)) → sum_by f (entries m) ≡ sum_by g (entries n))
      (λ n alike. ap (sum_by f) (entries-empty R X) ∙ sym (sum_zero g n (λ q. sym (alike q) ∙ ap (term f q) (get-empty R q))))
      (λ m k v none rest n alike.
      let at : f (k, v) ≡ term g k (get n k) = ap (term f k) (sym (get-insert_at m k v)) ∙ alike k in
      let left = rest (remove n k) (λ q. elim (cases_key q k) [
        | inl e ↦ ap (term f q) (ap (get m) e ∙ none) ∙ sym (ap (term g q) (ap (get (remove n k)) e ∙ get-remove_same o same n k))
        | inr differ ↦ ap (term f q) (sym (get-insert_other m k v q differ)) ∙ alike q ∙ sym (ap (term g q) (get-remove_other n k q differ))
      ]) in
      let now = sum_new o same f m k v none in
      let old = sum_at g n k in
      omega arith)
      m

  -- maps with the same keys have the same size
  pub len-same_keys : {X Y : Type 0} (m : FinMap R X) (n : FinMap R Y) → ((k : K) → is_some (get m k) ≡ is_some (get n k)) → len m ≡ len n
  len-same_keys {X} {Y} m n each =
      let one : K × X → ℕ = λ _. 1 in
      let other : K × Y → ℕ = λ _. 1 in
      len-entries m ∙ sym (sum_by-ones (entries m)) ∙ sum_alike one other m n (λ k. at k (get m k) (get n k) (each k)) ∙ sum_by-ones (entries n) ∙ sym (len-entries n)
    where
      at : (k : K) (x : Option X) (y : Option Y) → is_some x ≡ is_some y → term (λ (e : K × X). 1) k x ≡ term (λ (e : K × Y). 1) k y
      at k None None e = refl
      at k None (Some v) e = cc
      at k (Some u) None e = cc
      at k (Some u) (Some v) e = refl
