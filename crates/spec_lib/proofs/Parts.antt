-- Maps whose entries are in several parts, of which at most one has a given key.
use Rattle.std.proofs.Common.{◌≡◌, ℕ, Bool, true, false, cond, List, [], ◌∷◌, ◌++◌, Option, Some, None, refl, sym, ap, ◌∙◌, arith, set}
use Prim.Native.Nat.{zero, suc}
use Rattle.std.specs.Prelude.{slice_get}
use Rattle.std.specs.declared.cmp.Ordering.{Ordering}
use Rattle.std.specs.declared.cmp.Ordering.TheVariants.{Equal}
use Rattle.std.specs.Ordering.{eq_by_cmp}
use Rattle.std.specs.Cmp.{IsTotalOrder, Equal-is}
use Rattle.std.specs.List.{flat_map}
use Rattle.std.specs.FinMap.{FinMap, find, get, insert, remove, entries, entries_sorted, get-entries, get-insert, get-remove, get_tied, same_map, IsAntisymmetric}
use Rattle.std.specs.FinMap.Entries.{find_tied, where_key, find-where_key, is_sorted-where_key, same_entries}
use Rattle.spec_lib.proofs.Options.{some_same, some_none}

abbrev pub or_else : {X : Type 0} → Option X → Option X → Option X
or_else None y = y
or_else (Some x) y = Some x

or_none : {X : Type 0} (x : Option X) → or_else x None ≡ x
or_none None = refl
or_none (Some x) = refl

module _ {K X : Type 0} (R : K → K → Ordering) where
  pub find-++ : (q : K) (xs ys : List (K × X)) → find R q (xs ++ ys) ≡ or_else (find R q xs) (find R q ys)
  find-++ q [] ys = refl
  find-++ q (e ∷ xs) ys = elim (eq_by_cmp R q e.0) as (λ b. cond b (Some e.1) (find R q (xs ++ ys)) ≡ or_else (cond b (Some e.1) (find R q xs)) (find R q ys)) [
    | true ↦ refl
    | false ↦ find-++ q xs ys
  ]

  module _ {S : Type 0} (f : S → List (K × X)) where
    -- a key that no part has is not found
    pub find_nowhere : (q : K) (ss : List S) → ((j : ℕ) (u : S) → slice_get ss j ≡ Some u → find R q (f u) ≡ None) → find R q (flat_map f ss) ≡ None
    find_nowhere q [] none = refl
    find_nowhere q (s ∷ ss) none = find-++ q (f s) (flat_map f ss) ∙ rw (none 0 s refl) (find_nowhere q ss (λ j u at. none (suc j) u at))

    -- a key that only the i-th part may have is found there
    pub find_in_part : (q : K) (ss : List S) (i : ℕ) (s : S) → slice_get ss i ≡ Some s → ((j : ℕ) (u : S) → slice_get ss j ≡ Some u → (j ≡ i → ⊥) → find R q (f u) ≡ None) →
        find R q (flat_map f ss) ≡ find R q (f s)
    find_in_part q [] i s at others = some_none (sym at)
    find_in_part q (u ∷ ss) zero s at others =
        find-++ q (f u) (flat_map f ss)
        ∙ ap (or_else (find R q (f u))) (find_nowhere q ss (λ j v is. others (suc j) v is (λ e. absurd (omega (arith, e)))))
        ∙ or_none (find R q (f u)) ∙ ap (λ x. find R q (f x)) (some_same at)
    find_in_part q (u ∷ ss) (suc i) s at others =
        find-++ q (f u) (flat_map f ss)
        ∙ rw (others 0 u refl (λ e. absurd (omega (arith, e)))) (find_in_part q ss i s at (λ j v is differ. others (suc j) v is (λ e. differ (omega (arith, e)))))

    module _ (o : IsTotalOrder R) (k : K) (w : Option X) where
      none_tied : (q : K) (es : List (K × X)) → eq_by_cmp R q k ≡ true → find R k es ≡ None → find R q es ≡ None
      none_tied q es tie none = sym (find_tied R o q k ((Equal-is (R q k)).0 tie) es) ∙ none

      here : (b : Bool) (x y rest : Option X) → (b ≡ true → rest ≡ None) → x ≡ cond b w y → or_else x rest ≡ cond b w (or_else y rest)
      here true x y rest none is = rw (none refl, is) (or_none w)
      here false x y rest none is = rw is refl

      later : (b : Bool) (x y rest : Option X) → (b ≡ true → x ≡ None) → rest ≡ cond b w y → or_else x rest ≡ cond b w (or_else x y)
      later true x y rest none is = rw (none refl, is) refl
      later false x y rest none is = rw is refl

      -- a key that only the i-th part may have is changed there
      pub find-set_part : (ss : List S) (i : ℕ) (s t : S) → slice_get ss i ≡ Some s → ((j : ℕ) (u : S) → slice_get ss j ≡ Some u → (j ≡ i → ⊥) → find R k (f u) ≡ None) →
          ((q : K) → find R q (f t) ≡ cond (eq_by_cmp R q k) w (find R q (f s))) → (q : K) → find R q (flat_map f (set ss i t)) ≡ cond (eq_by_cmp R q k) w (find R q (flat_map f ss))
      find-set_part [] i s t at others is q = some_none (sym at)
      find-set_part (u ∷ ss) zero s t at others is q =
          find-++ q (f t) (flat_map f ss)
          ∙ here (eq_by_cmp R q k) (find R q (f t)) (find R q (f u)) (find R q (flat_map f ss))
          (λ tie. none_tied q (flat_map f ss) tie (find_nowhere k ss (λ j v there. others (suc j) v there (λ e. absurd (omega (arith, e))))))
          (is q ∙ ap (λ x. cond (eq_by_cmp R q k) w (find R q (f x))) (sym (some_same at)))
          ∙ ap (cond (eq_by_cmp R q k) w) (sym (find-++ q (f u) (flat_map f ss)))
      find-set_part (u ∷ ss) (suc i) s t at others is q =
          find-++ q (f u) (flat_map f (set ss i t))
          ∙ later (eq_by_cmp R q k) (find R q (f u)) (find R q (flat_map f ss)) (find R q (flat_map f (set ss i t)))
          (λ tie. none_tied q (f u) tie (others 0 u refl (λ e. absurd (omega (arith, e)))))
          (find-set_part ss i s t at (λ j v there differ. others (suc j) v there (λ e. differ (omega (arith, e)))) is q)
          ∙ ap (cond (eq_by_cmp R q k) w) (sym (find-++ q (f u) (flat_map f ss)))

    -- a part may be replaced by one with the same entries
    pub flat_map-same : (ss : List S) (i : ℕ) (s t : S) → slice_get ss i ≡ Some s → f t ≡ f s → flat_map f (set ss i t) ≡ flat_map f ss
    flat_map-same [] i s t at is = refl
    flat_map-same (u ∷ ss) zero s t at is = ap (λ es. es ++ flat_map f ss) (is ∙ ap f (sym (some_same at)))
    flat_map-same (u ∷ ss) (suc i) s t at is = ap (λ es. f u ++ es) (flat_map-same ss i s t at is)

-- ---- maps by their look-ups

module _ {K X : Type 0} {R : K → K → Ordering} (o : IsTotalOrder R) (same : IsAntisymmetric R) where
  pub insert_by : (m n : FinMap R X) (k : K) (v : X) → ((q : K) → get n q ≡ cond (eq_by_cmp R q k) (Some v) (get m q)) → n ≡ insert m k v
  insert_by m n k v is = same_map o same n (insert m k v) (λ q. is q ∙ sym (get-insert o m k v q))

  pub remove_by : (m n : FinMap R X) (k : K) → ((q : K) → get n q ≡ cond (eq_by_cmp R q k) None (get m q)) → n ≡ remove m k
  remove_by m n k is = same_map o same n (remove m k) (λ q. is q ∙ sym (get-remove o m k q))

  nothing_at : (b : Bool) (x : Option X) → (b ≡ true → x ≡ None) → x ≡ cond b None x
  nothing_at true x none = none refl
  nothing_at false x none = refl

  pub remove_absent : (m : FinMap R X) (k : K) → get m k ≡ None → remove m k ≡ m
  remove_absent m k none = sym (remove_by m m k (λ q. nothing_at (eq_by_cmp R q k) (get m q) (λ tie. sym (get_tied o m q k ((Equal-is (R q k)).0 tie)) ∙ none)))

  -- options that are the same if the test holds
  pub as_passes : (b : Bool) (x y : Option X) → (b ≡ true → x ≡ y) → cond b x None ≡ cond b y None
  as_passes true x y is = is refl
  as_passes false x y is = refl

  -- entries whose keys pass a test, of maps that agree on the keys that pass
  pub where_key-agree : (p : K → Bool) (m n : FinMap R X) → ((q : K) → p q ≡ true → get m q ≡ get n q) → where_key R p (entries m) ≡ where_key R p (entries n)
  where_key-agree p m n agree =
      let alike : (q x : K) → R q x ≡ Equal → p x ≡ p q = λ q x tie. ap p (sym (same q x tie)) in
      same_entries R o same (where_key R p (entries m)) (where_key R p (entries n)) (is_sorted-where_key R p (entries m) (entries_sorted m)) (is_sorted-where_key R p (entries n) (entries_sorted n)) (λ q.
      find-where_key R p q (alike q) (entries m)
      ∙ as_passes (p q) (find R q (entries m)) (find R q (entries n)) (λ h. sym (get-entries m q) ∙ agree q h ∙ get-entries n q)
      ∙ sym (find-where_key R p q (alike q) (entries n)))

  -- a test that each key passes
  pub where_key-all : (p : K → Bool) (m : FinMap R X) → ((q : K) (v : X) → get m q ≡ Some v → p q ≡ true) → where_key R p (entries m) ≡ entries m
  where_key-all p m pass =
      let alike : (q x : K) → R q x ≡ Equal → p x ≡ p q = λ q x tie. ap p (sym (same q x tie)) in
      same_entries R o same (where_key R p (entries m)) (entries m) (is_sorted-where_key R p (entries m) (entries_sorted m)) (entries_sorted m) (λ q.
      find-where_key R p q (alike q) (entries m) ∙ by_value q (p q) refl (find R q (entries m)) (get-entries m q))
    where
      by_value : (q : K) (b : Bool) → p q ≡ b → (x : Option X) → get m q ≡ x → cond b x None ≡ x
      by_value q true h x is = refl
      by_value q false h None is = refl
      by_value q false h (Some v) is = (let yes = pass q v is in let wrong : true ≡ false = sym yes ∙ h in cc)
