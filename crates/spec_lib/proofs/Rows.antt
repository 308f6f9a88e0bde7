-- Rows of a list as a finite map: a push, a write, a removal and a sum over the map.
use Rattle.std.proofs.Common.{◌≡◌, ℕ, ◌+◌, ◌<◌, Bool, true, false, cond, not, List, [], ◌∷◌, length, map, get_or, set, Some, None, is_some, refl, sym, ap, ◌∙◌, arith}
use Rattle.std.specs.declared.cmp.Ordering.{Ordering}
use Rattle.std.specs.declared.cmp.Ordering.TheVariants.{Less, Equal, Greater}
use Rattle.std.specs.Ordering.{is_eq, eq_by_cmp}
use Rattle.std.specs.Cmp.{IsTotalOrder, eq_by_cmp_equiv, Equal-is, tied_itself}
use Rattle.std.specs.FinMap.Entries.{find_tied}
use Rattle.std.specs.List.{sum_by, remove, prefix_len, position, position_or_len, list_any}
use Rattle.std.proofs.lemmas.List.{length-map}
use Rattle.std.specs.FinMap.{FinMap, find, put, entries, from_entries, get, insert, get-entries, get-from_entries, empty, len-empty, len-entries, get-insert, entries-insert, same_map, IsAntisymmetric, get-remove, remove as fremove}
use Rattle.std.proofs.lemmas.List.Sums.{sum_by-cons}
use Rattle.std.specs.Prelude.{◌||◌, nat_lt, zero, suc}
use Rattle.std.proofs.lemmas.Bool.{lt-ltb}
use Rattle.std.proofs.lemmas.Bool.Decides.{nat_tests}
use Rattle.spec_lib.specs.Rows.{IsApart}
use Rattle.spec_lib.proofs.Options.{some_none}

nil_of_length : {A : Type 0} (es : List A) → length es ≡ 0 → es ≡ []
nil_of_length [] e = refl
nil_of_length (x ∷ es) e = absurd (omega arith)

pub entries-empty : {K : Type 0} (R : K → K → Ordering) (X : Type 0) → entries (empty {X = X} {R = R}) ≡ []
entries-empty R X = nil_of_length (entries (empty {X = X} {R = R})) (sym (len-entries (empty {X = X} {R = R})) ∙ len-empty R X)

module _ {K X : Type 0} (R : K → K → Ordering) (f : K × X → ℕ) where
  at_order : (k : K) (v : X) (e : K × X) (es : List (K × X)) (o : Ordering) → R k e.0 ≡ o → find R k (e ∷ es) ≡ None →
      (find R k es ≡ None → sum_by f (put R k v es) ≡ f (k, v) + sum_by f es) → sum_by f (put R k v (e ∷ es)) ≡ f (k, v) + sum_by f (e ∷ es)
  at_order k v e es Less is none rest = rw is (sum_by-cons f (k, v) (e ∷ es))
  at_order k v e es Equal is none rest = some_none (rw is at none)
  at_order k v e es Greater is none rest =
      rw is (sum_by-cons f e (put R k v es) ∙ ap (λ n. f e + n) (rest (rw is at none)) ∙ (let more : sum_by f (e ∷ es) ≡ f e + sum_by f es = sum_by-cons f e es in omega arith))

  -- putting a new key adds its term
  pub sum_by-put : (k : K) (v : X) (es : List (K × X)) → find R k es ≡ None → sum_by f (put R k v es) ≡ f (k, v) + sum_by f es
  sum_by-put k v [] none = sum_by-cons f (k, v) []
  sum_by-put k v (e ∷ es) none = at_order k v e es (R k e.0) refl none (sum_by-put k v es)

  -- a sum over the rows is a sum over the map
  pub sum_by-from_entries : IsTotalOrder R → (es : List (K × X)) → IsApart R es → sum_by f (entries (from_entries {R = R} es)) ≡ sum_by f es
  sum_by-from_entries o [] apart = ap (sum_by f) (entries-empty R X)
  sum_by-from_entries o (e ∷ es) apart =
      let m : FinMap R X = from_entries es in
      ap (sum_by f) (entries-insert o m e.0 e.1)
      ∙ sum_by-put e.0 e.1 (entries m) (sym (get-entries m e.0) ∙ get-from_entries o es e.0 ∙ apart.0)
      ∙ ap (λ n. f e + n) (sum_by-from_entries o es apart.1)
      ∙ sym (sum_by-cons f e es)

-- a sum over mapped rows
pub sum_by-map : {A B : Type 0} (f : B → ℕ) (g : A → B) (xs : List A) → sum_by f (map g xs) ≡ sum_by (λ x. f (g x)) xs
sum_by-map f g [] = refl
sum_by-map f g (x ∷ xs) = sum_by-cons f (g x) (map g xs) ∙ ap (λ n. f (g x) + n) (sum_by-map f g xs) ∙ sym (sum_by-cons (λ x. f (g x)) x xs)

eq_not : (o : Ordering) → (o ≡ Equal → ⊥) → is_eq o ≡ false
eq_not Less differ = refl
eq_not Equal differ = absurd (differ refl)
eq_not Greater differ = refl

-- different keys do not compare as equal
pub no_tie : {K : Type 0} (R : K → K → Ordering) → IsAntisymmetric R → (x y : K) → (x ≡ y → ⊥) → eq_by_cmp R x y ≡ false
no_tie R same x y differ = eq_not (R x y) (λ e. differ (same x y e))

module _ {K X : Type 0} (R : K → K → Ordering) (o : IsTotalOrder R) where
  -- a key that is not found is not the key of a row
  unfound : (k : K) (v : X) (e : K × X) (es : List (K × X)) → find R k (e ∷ es) ≡ None → (eq_by_cmp R k e.0 ≡ false) × (find R k es ≡ None)
  unfound k v e es none =
      elim (eq_by_cmp R k e.0) as (λ b. cond b (Some e.1) (find R k es) ≡ None → (b ≡ false) × (find R k es ≡ None)) [
        | true ↦ λ h. some_none h
        | false ↦ λ h. (refl, h)
      ] none

prefix_len-map : {A B : Type 0} (p : B → Bool) (f : A → B) (xs : List A) → prefix_len p (map f xs) ≡ prefix_len (λ x. p (f x)) xs
prefix_len-map p f [] = refl
prefix_len-map p f (x ∷ xs) = ap (λ n. cond (p (f x)) (1 + n) 0) (prefix_len-map p f xs)

-- the position of the first mapped row that passes
pub position-map : {A B : Type 0} (p : B → Bool) (f : A → B) (xs : List A) → position p (map f xs) ≡ position (λ x. p (f x)) xs
position-map p f xs = rw (prefix_len-map (λ y. not (p y)) f xs, length-map xs f) refl

is_some_there : (n : ℕ) (b : Bool) → is_some (cond b (Some n) None) ≡ b
is_some_there n true = refl
is_some_there n false = refl

less_by_one : (a n : ℕ) → nat_lt (1 + a) (suc n) ≡ nat_lt a n
less_by_one a n = grind (arith, nat_tests)

passes_within : {A : Type 0} (p : A → Bool) (xs : List A) → nat_lt (position_or_len p xs) (length xs) ≡ list_any p xs
passes_within p [] = refl
passes_within p (x ∷ xs) =
    elim (p x) as (λ b. nat_lt (cond (not b) (1 + position_or_len p xs) 0) (length (x ∷ xs)) ≡ (b || list_any p xs)) [
      | true ↦ lt-ltb 0 (length (x ∷ xs)) (omega arith)
      | false ↦ less_by_one (position_or_len p xs) (length xs) ∙ passes_within p xs
    ]

-- a test that some element passes has a first position
pub is_some-position : {A : Type 0} (p : A → Bool) (xs : List A) → is_some (position p xs) ≡ list_any p xs
is_some-position p xs = is_some_there (position_or_len p xs) (nat_lt (position_or_len p xs) (length xs)) ∙ passes_within p xs

module _ {K X : Type 0} (R : K → K → Ordering) (o : IsTotalOrder R) where
  tie_none : (k q : K) (es : List (K × X)) → eq_by_cmp R q k ≡ true → find R k es ≡ None → find R q es ≡ None
  tie_none k q es tie none = sym (find_tied R o q k ((Equal-is (R q k)).0 tie) es) ∙ none

  -- the key of a row is found
  found_at : (es : List (K × X)) (i : ℕ) (d : K × X) → i < length es → find R (get_or es i d).0 es ≡ None → ⊥
  found_at [] i d lt none = absurd (omega arith)
  found_at (e ∷ es) zero d lt none = some_none (rw (ap is_eq (tied_itself o e.0)) at none)
  found_at (e ∷ es) (suc i) d lt none = found_at es i d (omega arith) (unfound R o (get_or es i d).0 e.1 e es none).1

  -- removing a row is removing its key
  pub find-remove : (es : List (K × X)) (i : ℕ) (d : K × X) (q : K) → IsApart R es → i < length es → find R q (remove es i) ≡ cond (eq_by_cmp R q (get_or es i d).0) None (find R q es)
  find-remove [] i d q apart lt = absurd (omega arith)
  find-remove (e ∷ es) zero d q apart lt =
      elim (eq_by_cmp R q e.0) as (λ b. eq_by_cmp R q e.0 ≡ b → find R q es ≡ cond b None (cond b (Some e.1) (find R q es))) [
        | true ↦ λ tie. tie_none e.0 q es tie apart.0
        | false ↦ λ tie. refl
      ] refl
  find-remove (e ∷ es) (suc i) d q apart lt =
      let within : i < length es = omega arith in
      later e es i d q apart.0 within (find-remove es i d q apart.1 within)
    where
      later : (e : K × X) (es : List (K × X)) (i : ℕ) (d : K × X) (q : K) → find R e.0 es ≡ None → i < length es →
          find R q (remove es i) ≡ cond (eq_by_cmp R q (get_or es i d).0) None (find R q es) →
          find R q (e ∷ remove es i) ≡ cond (eq_by_cmp R q (get_or es i d).0) None (find R q (e ∷ es))
      later e es i d q none within rest =
          elim (eq_by_cmp R q e.0) as (λ b. eq_by_cmp R q e.0 ≡ b → cond b (Some e.1) (find R q (remove es i)) ≡ cond (eq_by_cmp R q (get_or es i d).0) None (cond b (Some e.1) (find R q es))) [
            | true ↦ λ first. elim (eq_by_cmp R q (get_or es i d).0) as (λ b. eq_by_cmp R q (get_or es i d).0 ≡ b → Some e.1 ≡ cond b None (Some e.1)) [
              | true ↦ λ second. absurd (found_at es i d within (tie_none q (get_or es i d).0 es ((eq_by_cmp_equiv o).symm (get_or es i d).0 q ∙ second) (tie_none e.0 q es first none)))
              | false ↦ λ second. refl
            ] refl
            | false ↦ λ first. rest
          ] refl

  -- the remaining rows are the map without the key
  pub from_entries-remove : IsAntisymmetric R → (es : List (K × X)) (i : ℕ) (d : K × X) (k : K) → IsApart R es → i < length es → (get_or es i d).0 ≡ k →
      from_entries {R = R} (remove es i) ≡ fremove (from_entries es) k
  from_entries-remove same es i d k apart lt key = same_map o same (from_entries {R = R} (remove es i)) (fremove (from_entries es) k) (λ q.
      get-from_entries o (remove es i) q ∙ find-remove es i d q apart lt ∙ ap (λ x. cond (eq_by_cmp R q x) None (find R q es)) key
      ∙ sym (get-remove o (from_entries es) k q ∙ ap (cond (eq_by_cmp R q k) None) (get-from_entries o es q)))

  -- the value of a row is found by its key
  pub found_value : (es : List (K × X)) (i : ℕ) (d : K × X) (k : K) → IsApart R es → i < length es → (get_or es i d).0 ≡ k → find R k es ≡ Some (get_or es i d).1
  found_value [] i d k apart lt key = absurd (omega arith)
  found_value (e ∷ es) zero d k apart lt key = rw (← key) (rw (ap is_eq (tied_itself o e.0)) refl)
  found_value (e ∷ es) (suc i) d k apart lt key =
      let within : i < length es = omega arith in
      later e es i d k apart.0 within key (found_value es i d k apart.1 within key)
    where
      later : (e : K × X) (es : List (K × X)) (i : ℕ) (d : K × X) (k : K) → find R e.0 es ≡ None → i < length es → (get_or es i d).0 ≡ k →
          find R k es ≡ Some (get_or es i d).1 → find R k (e ∷ es) ≡ Some (get_or es i d).1
      later e es i d k none within key rest =
          elim (eq_by_cmp R k e.0) as (λ b. eq_by_cmp R k e.0 ≡ b → cond b (Some e.1) (find R k es) ≡ Some (get_or es i d).1) [
            | true ↦ λ first. absurd (found_at es i d within (rw key (tie_none e.0 k es first none)))
            | false ↦ λ first. rest
          ] refl

  -- writing a row changes the value of its key
  pub find-set : (es : List (K × X)) (i : ℕ) (d f : K × X) (q : K) → IsApart R es → i < length es → (get_or es i d).0 ≡ f.0 → find R q (set es i f) ≡ cond (eq_by_cmp R q f.0) (Some f.1) (find R q es)
  find-set [] i d f q apart lt key = absurd (omega arith)
  find-set (e ∷ es) zero d f q apart lt key = rw key (twice (eq_by_cmp R q f.0) (Some f.1) (Some e.1) (find R q es))
    where
      twice : {Y : Type 0} (b : Bool) (x y z : Y) → cond b x z ≡ cond b x (cond b y z)
      twice true x y z = refl
      twice false x y z = refl
  find-set (e ∷ es) (suc i) d f q apart lt key =
      let within : i < length es = omega arith in
      later e es i d f q apart.0 within key (find-set es i d f q apart.1 within key)
    where
      later : (e : K × X) (es : List (K × X)) (i : ℕ) (d f : K × X) (q : K) → find R e.0 es ≡ None → i < length es → (get_or es i d).0 ≡ f.0 →
          find R q (set es i f) ≡ cond (eq_by_cmp R q f.0) (Some f.1) (find R q es) →
          find R q (e ∷ set es i f) ≡ cond (eq_by_cmp R q f.0) (Some f.1) (find R q (e ∷ es))
      later e es i d f q none within key rest =
          elim (eq_by_cmp R q e.0) as (λ b. eq_by_cmp R q e.0 ≡ b → cond b (Some e.1) (find R q (set es i f)) ≡ cond (eq_by_cmp R q f.0) (Some f.1) (cond b (Some e.1) (find R q es))) [
            | true ↦ λ first. elim (eq_by_cmp R q f.0) as (λ b. eq_by_cmp R q f.0 ≡ b → Some e.1 ≡ cond b (Some f.1) (Some e.1)) [
              | true ↦ λ second. absurd (found_at es i d within (rw key (tie_none q f.0 es ((eq_by_cmp_equiv o).symm f.0 q ∙ second) (tie_none e.0 q es first none))))
              | false ↦ λ second. refl
            ] refl
            | false ↦ λ first. rest
          ] refl

  pub from_entries-set : IsAntisymmetric R → (es : List (K × X)) (i : ℕ) (d f : K × X) → IsApart R es → i < length es → (get_or es i d).0 ≡ f.0 →
      from_entries {R = R} (set es i f) ≡ insert (from_entries es) f.0 f.1
  from_entries-set same es i d f apart lt key = same_map o same (from_entries {R = R} (set es i f)) (insert (from_entries es) f.0 f.1) (λ q.
      get-from_entries o (set es i f) q ∙ find-set es i d f q apart lt key
      ∙ sym (get-insert o (from_entries es) f.0 f.1 q ∙ ap (cond (eq_by_cmp R q f.0) (Some f.1)) (get-from_entries o es q)))

  same_value : (es : List (K × X)) (k q : K) (v : X) (b : Bool) → eq_by_cmp R q k ≡ b → find R k es ≡ Some v → cond b (Some v) (find R q es) ≡ find R q es
  same_value es k q v true tie found = sym (find_tied R o k q ((Equal-is (R k q)).0 ((eq_by_cmp_equiv o).symm k q ∙ tie)) es ∙ found)
  same_value es k q v false tie found = refl

  -- giving a key the value that it has changes nothing
  pub insert_same : IsAntisymmetric R → (m : FinMap R X) (k : K) (v : X) → get m k ≡ Some v → insert m k v ≡ m
  insert_same same m k v found = same_map o same (insert m k v) m (λ q.
      get-insert o m k v q ∙ ap (cond (eq_by_cmp R q k) (Some v)) (get-entries m q)
      ∙ same_value (entries m) k q v (eq_by_cmp R q k) refl (sym (get-entries m k) ∙ found) ∙ sym (get-entries m q))
