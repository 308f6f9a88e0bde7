-- Inserting all entries of a map, a set or a list of numbers in order rebuilds it.
use Rattle.std.proofs.Common.{◌≡◌, ℕ, ◌+◌, Bool, true, false, cond, List, [], ◌∷◌, ◌++◌, map, length, Option, Some, None, is_some, refl, sym, ap, ◌∙◌, arith, append_assoc, length-append}
use Rattle.std.specs.Prelude.{◌||◌, fold, if◌then◌else◌, slice_set}
use Rattle.std.specs.Option.{option_or}
use Rattle.std.specs.declared.cmp.Ordering.{Ordering}
use Rattle.std.specs.Ordering.{eq_by_cmp, is_eq}
use Rattle.std.specs.Cmp.{Equal-is, IsTotalOrder, tied_itself}
use Rattle.std.specs.List.{AllByRecursion, enumerate_from, list_any}
use Rattle.std.specs.FinMap.{FinMap, IsAntisymmetric, contains_key, contains_key-keys, empty, entries, find, get, get-empty, get-entries, get-insert, insert, same_map}
use Rattle.std.proofs.Math.Seq.{set-append_seam}
use Rattle.spec_lib.specs.Rows.{IsApart}
use Rattle.spec_lib.specs.Sets as set
use Rattle.spec_lib.proofs.Options.{no_value, nothing}
use Rattle.spec_lib.proofs.Sorted.{IsApart-sorted, rising}

-- ---- maps

abbrev pub put : {K X : Type 0} {R : K → K → Ordering} → FinMap R X → K × X → FinMap R X
put m e = insert m e.0 e.1

-- the map with one more entry, if its key is new
abbrev pub keep : {K X : Type 0} {R : K → K → Ordering} → FinMap R X → K × X → FinMap R X
keep m e = if contains_key m e.0 then m else insert m e.0 e.1

option_or-none : {A : Type 0} (o : Option A) → option_or o None ≡ o
option_or-none None = refl
option_or-none (Some x) = refl

module _ {K : Type 0} {R : K → K → Ordering} (o : IsTotalOrder R) (same : IsAntisymmetric R) where
  tie_is : (q k : K) → eq_by_cmp R q k ≡ true → q ≡ k
  tie_is q k tie = same q k ((Equal-is (R q k)).0 tie)

  tied : (k : K) → eq_by_cmp R k k ≡ true
  tied k = ap is_eq (tied_itself o k)

module _ {K X : Type 0} {R : K → K → Ordering} (o : IsTotalOrder R) (same : IsAntisymmetric R) where
  get-fold_put : (es : List (K × X)) → IsApart R es → (m : FinMap R X) (q : K) → get (fold put m es) q ≡ option_or (find R q es) (get m q)
  get-fold_put [] apart m q = refl
  get-fold_put (e ∷ es) apart m q = get-fold_put es apart.1 (insert m e.0 e.1) q ∙ ap (option_or (find R q es)) (get-insert o m e.0 e.1 q) ∙ by (eq_by_cmp R q e.0) refl
    where
      by : (b : Bool) → eq_by_cmp R q e.0 ≡ b → option_or (find R q es) (cond b (Some e.1) (get m q)) ≡ option_or (cond b (Some e.1) (find R q es)) (get m q)
      by true tie = ap (λ x. option_or x (Some e.1)) (ap (λ k. find R k es) (tie_is o same q e.0 tie) ∙ apart.0)
      by false tie = refl

  pub fold-entries : (m : FinMap R X) → fold put empty (entries m) ≡ m
  fold-entries m = same_map o same (fold put empty (entries m)) m (λ q.
      get-fold_put (entries m) (IsApart-sorted R (entries m) (rising m)) empty q ∙ ap (option_or (find R q (entries m))) (get-empty R q) ∙ option_or-none (find R q (entries m)) ∙ sym (get-entries m q))

  get-fold_keep : (es : List (K × X)) (m : FinMap R X) (q : K) → get (fold keep m es) q ≡ option_or (get m q) (find R q es)
  get-fold_keep [] m q = sym (option_or-none (get m q))
  get-fold_keep (e ∷ es) m q = get-fold_keep es (keep m e) q ∙ by (contains_key m e.0) refl
    where
      there : (b : Bool) → eq_by_cmp R q e.0 ≡ b → (x : Option X) → get m q ≡ x → contains_key m e.0 ≡ true → option_or x (find R q es) ≡ option_or x (cond b (Some e.1) (find R q es))
      there false tie x is has = refl
      there true tie (Some v) is has = refl
      there true tie None is has = nothing {x = true} (absurd_none tie is has) refl
        where
          absurd_none : eq_by_cmp R q e.0 ≡ true → get m q ≡ None → contains_key m e.0 ≡ true → ◌≡◌ {A = Option Bool} (Some true) None
          absurd_none tie is has = absurd (let no : is_some (get m e.0) ≡ false = ap (λ k. is_some (get m k)) (sym (tie_is o same q e.0 tie)) ∙ ap is_some is in let e : true ≡ false = sym has ∙ no in cc)

      new : (b : Bool) → eq_by_cmp R q e.0 ≡ b → contains_key m e.0 ≡ false → option_or (cond b (Some e.1) (get m q)) (find R q es) ≡ option_or (get m q) (cond b (Some e.1) (find R q es))
      new false tie none = refl
      new true tie none = sym (ap (λ x. option_or x (Some e.1)) (ap (get m) (tie_is o same q e.0 tie) ∙ no_value (get m e.0) none))

      by : (b : Bool) → contains_key m e.0 ≡ b → option_or (get (if b then m else insert m e.0 e.1) q) (find R q es) ≡ option_or (get m q) (cond (eq_by_cmp R q e.0) (Some e.1) (find R q es))
      by true has = there (eq_by_cmp R q e.0) refl (get m q) refl has
      by false none = ap (λ x. option_or x (find R q es)) (get-insert o m e.0 e.1 q) ∙ new (eq_by_cmp R q e.0) refl none

  pub fold_keep-entries : (m : FinMap R X) → fold keep empty (entries m) ≡ m
  fold_keep-entries m = same_map o same (fold keep empty (entries m)) m (λ q.
      get-fold_keep (entries m) empty q ∙ ap (λ x. option_or x (find R q (entries m))) (get-empty R q) ∙ sym (get-entries m q))

  -- a property of every value that is found is one of every entry
  all_found : (P : K × X → Type 0) (es : List (K × X)) → IsApart R es → ((q : K) (v : X) → find R q es ≡ Some v → P (q, v)) → AllByRecursion P es
  all_found P [] apart each = tt
  all_found P (e ∷ es) apart each = (each e.0 e.1 (ap (λ b. cond b (Some e.1) (find R e.0 es)) (tied o same e.0)), all_found P es apart.1 (λ q v found. each q v (by q v found (eq_by_cmp R q e.0) refl)))
    where
      by : (q : K) (v : X) → find R q es ≡ Some v → (b : Bool) → eq_by_cmp R q e.0 ≡ b → cond b (Some e.1) (find R q es) ≡ Some v
      by q v found false tie = found
      by q v found true tie = nothing (ap (λ k. find R k es) (tie_is o same q e.0 tie) ∙ apart.0) found

  pub all_entries : (P : K × X → Type 0) (m : FinMap R X) → ((q : K) (v : X) → get m q ≡ Some v → P (q, v)) → AllByRecursion P (entries m)
  all_entries P m each = all_found P (entries m) (IsApart-sorted R (entries m) (rising m)) (λ q v found. each q v (get-entries m q ∙ found))

-- ---- sets

all_keys : {K X : Type 0} (P : K → Type 0) (es : List (K × X)) → AllByRecursion (λ e. P e.0) es → AllByRecursion P (map (λ e. e.0) es)
all_keys P [] all = tt
all_keys P (e ∷ es) all = (all.0, all_keys P es all.1)

module _ {K : Type 0} {R : K → K → Ordering} (o : IsTotalOrder R) (same : IsAntisymmetric R) where
  get-fold_insert : (ks : List K) (s : set.Set R) (q : K) → get (fold set.insert s ks) q ≡ cond (list_any (eq_by_cmp R q) ks) (Some tt) (get s q)
  get-fold_insert [] s q = refl
  get-fold_insert (k ∷ ks) s q = get-fold_insert ks (set.insert s k) q ∙ ap (cond (list_any (eq_by_cmp R q) ks) (Some tt)) (get-insert o s k tt q) ∙ by (eq_by_cmp R q k) (list_any (eq_by_cmp R q) ks)
    where
      by : (b c : Bool) → cond c (Some tt) (cond b (Some tt) (get s q)) ≡ cond (b || c) (Some tt) (get s q)
      by true true = refl
      by true false = refl
      by false true = refl
      by false false = refl

  pub fold-items : (s : set.Set R) → fold set.insert set.empty_set (set.items s) ≡ s
  fold-items s = same_map o same (fold set.insert set.empty_set (set.items s)) s (λ q.
      get-fold_insert (set.items s) set.empty_set q ∙ ap (cond (list_any (eq_by_cmp R q) (set.items s)) (Some tt)) (get-empty R q)
      ∙ ap (λ b. cond b (Some tt) None) (sym (contains_key-keys s q)) ∙ marked (get s q))
    where
      marked : (x : Option (Unit {0})) → cond (is_some x) (Some tt) None ≡ x
      marked None = refl
      marked (Some u) = refl

  pub all_items : (P : K → Type 0) (s : set.Set R) → ((q : K) → set.contains s q ≡ true → P q) → AllByRecursion P (set.items s)
  all_items P s each = all_keys P (entries s) (all_entries o same (λ e. P e.0) s (λ q u found. each q (ap is_some found)))

-- ---- numbers

-- writing every position of a list in order gives the new list
pub fold-places : {A : Type 0} (written : List A) (old new : List A) → length old ≡ length new →
    fold (λ (xs : List A) (e : ℕ × A). slice_set xs e.0 e.1) (written ++ old) (enumerate_from (length written) new) ≡ written ++ new
fold-places written [] [] alike = refl
fold-places written [] (y ∷ new) alike = absurd (omega arith)
fold-places written (x ∷ old) [] alike = absurd (omega arith)
fold-places {A} written (x ∷ old) (y ∷ new) alike =
    ap (λ xs. fold (λ (xs : List A) (e : ℕ × A). slice_set xs e.0 e.1) xs (enumerate_from (length written + 1) new)) (set-append_seam written x old y ∙ sym (append_assoc written (y ∷ []) old))
    ∙ ap (λ n. fold (λ (xs : List A) (e : ℕ × A). slice_set xs e.0 e.1) ((written ++ y ∷ []) ++ old) (enumerate_from n new)) (sym (length-append written (y ∷ [])))
    ∙ fold-places (written ++ y ∷ []) old new (omega arith)
    ∙ append_assoc written (y ∷ []) new
