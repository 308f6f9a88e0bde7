-- Comparisons that return true: what was compared is equal.
use Rattle.std.proofs.Common.{◌≡◌, Bool, true, false, cond, not, ◌&&◌, List, [], ◌∷◌, ◌++◌, Option, None, Some, is_some, refl, sym, ap, ◌∙◌, subst}
use Rattle.std.specs.Prelude.{bytes_eq, map, nat_eq}
use Rattle.std.specs.BTreeMap.{BTreeMap}
use Rattle.std.specs.Borrow.{Bor}
use Rattle.std.specs.Option.{option_copied, option_eq}
use Rattle.std.specs.Cmp.{Equal-is, IsTotalOrder}
use Rattle.std.specs.FinMap as fmap
use Rattle.std.specs.List.{AllByRecursion}
use Rattle.std.specs.Ordering.{eq_by_cmp}
use Rattle.std.specs.declared.cmp.Ordering.{Ordering}
use Rattle.std.proofs.lemmas.Map.Lookups.{CmpEqualImpliesEq}
use Rattle.std.specs.Cmp.Lexicographic.{pointwise}
use Rattle.std.proofs.lemmas.Bool.{and_parts, true≢false, eqb-true}
use Rattle.std.proofs.lemmas.Slice.Eq.{bytes_eq-Decides}
use Rattle.blob_digest.specs.Keys.{Link, SessionNumber}
use Rattle.spec_lib.specs.Texts.{Text}
use Rattle.spec_lib.specs.Trees.{tree_map}
use Rattle.log_state.specs.Equality.{same_chunk, same_session}
use Rattle.log_state.specs.declared.chunk.Chunk.TheVariants.{Bytes, Notes}

-- the test holds of equal values only
abbrev pub IsExact : {A : Type 0} → (A → A → Bool) → Type 0
IsExact {A} E = (x y : A) → E x y ≡ true → x ≡ y

pub exact_list : {A : Type 0} (E : A → A → Bool) → IsExact E → IsExact (pointwise E)
exact_list E exact [] [] h = refl
exact_list E exact [] (y ∷ ys) h = absurd (true≢false (sym h))
exact_list E exact (x ∷ xs) [] h = absurd (true≢false (sym h))
exact_list E exact (x ∷ xs) (y ∷ ys) h = (let parts = and_parts (E x y) (pointwise E xs ys) h in λ i. exact x y parts.0 i ∷ exact_list E exact xs ys parts.1 i)

pub exact_pair : {A B : Type 0} (E : A → A → Bool) (F : B → B → Bool) → IsExact E → IsExact F → IsExact (λ (p q : A × B). E p.0 q.0 && F p.1 q.1)
exact_pair E F e f p q h = (let parts = and_parts (E p.0 q.0) (F p.1 q.1) h in λ i. (e p.0 q.0 parts.0 i, f p.1 q.1 parts.1 i))

pub exact_text : IsExact bytes_eq
exact_text x y h = (bytes_eq-Decides x y).0 h

pub exact_nat : IsExact nat_eq
exact_nat x y h = eqb-true x y h

pub exact_link_eq : IsExact (λ (p q : Link). bytes_eq p.0 q.0 && bytes_eq p.1 q.1)
exact_link_eq = exact_pair bytes_eq bytes_eq exact_text exact_text

pub exact_session_number : IsExact (λ (p q : SessionNumber). nat_eq p.0 q.0 && nat_eq p.1 q.1)
exact_session_number = exact_pair nat_eq nat_eq exact_nat exact_nat

pub exact_nothing : IsExact (λ (x y : Unit {0}). true)
exact_nothing x y h = refl

pub exact_chunk : IsExact same_chunk
exact_chunk (Bytes a) (Bytes b) h = ap Bytes (exact_text a b h)
exact_chunk (Bytes a) (Notes b) h = absurd (true≢false (sym h))
exact_chunk (Notes a) (Bytes b) h = absurd (true≢false (sym h))
exact_chunk (Notes a) (Notes b) h = ap Notes (exact_text a b h)

pub exact_session : IsExact same_session
exact_session s t h =
    let parts = and_parts (bytes_eq s.repo t.repo) (pointwise same_chunk s.chunks t.chunks) h in
    λ i. record { repo = exact_text s.repo t.repo parts.0 i; chunks = exact_list same_chunk exact_chunk s.chunks t.chunks parts.1 i }

-- ---- keys of a map

module _ {K X : Type 0} {R : K → K → Ordering} (total : IsTotalOrder R) (exact : CmpEqualImpliesEq R) (P : K → Type 0) where
  found_among : (es : List (K × X)) → AllByRecursion P (map (λ (e : K × X). e.0) es) → (k : K) → is_some (fmap.find R k es) ≡ true → P k
  found_among [] all k h = absurd (true≢false (sym h))
  found_among (e ∷ es) all k h = by_tie (eq_by_cmp R k e.0) refl h (found_among es all.1 k)
    where
      by_tie : (b : Bool) → eq_by_cmp R k e.0 ≡ b → is_some (cond b (Some e.1) (fmap.find R k es)) ≡ true → (is_some (fmap.find R k es) ≡ true → P k) → P k
      by_tie true tie h rest = subst P (sym (exact k e.0 ((Equal-is (R k e.0)).0 tie))) all.0
      by_tie false tie h rest = rest h

  -- what holds of each key of a tree holds of each key of its map
  pub of_each_key : (m : BTreeMap K X) → AllByRecursion P (map (λ (e : K × X). e.0) m.entries) → (k : K) → fmap.contains_key (tree_map R m) k ≡ true → P k
  of_each_key m all k h = found_among m.entries all k (ap is_some (sym (fmap.get-from_entries total m.entries k)) ∙ h)

-- it holds of one element more
pub all_more : {A B : Type 0} (P : B → Type 0) (f : A → B) (xs : List A) (x : A) → AllByRecursion P (map f xs) → P (f x)
    → AllByRecursion P (map f (xs ++ x ∷ []))
all_more P f [] x all one = (one, tt)
all_more P f (y ∷ xs) x all one = (all.0, all_more P f xs x all.1 one)

-- ---- what is found of a digest

pub same_found : {X : Type 0} (E : X → X → Bool) → IsExact E → (x y : Option (Bor X)) (f g : Option X) → option_copied x ≡ f → option_copied y ≡ g
    → option_eq (λ (a b : Bor X). E a.now b.now) x y ≡ true → f ≡ g
same_found E exact None None f g p q h = sym p ∙ q
same_found E exact None (Some b) f g p q h = absurd (true≢false (sym h))
same_found E exact (Some a) None f g p q h = absurd (true≢false (sym h))
same_found E exact (Some a) (Some b) f g p q h = sym p ∙ ap Some (exact a.now b.now h) ∙ q

-- ---- two states

-- whether two trees have the same entries
abbrev pub same_trees : {K X : Type 0} → (K → K → Bool) → (X → X → Bool) → BTreeMap K X → BTreeMap K X → Bool
same_trees {K} {X} E F m n = pointwise (λ (p q : K × X). E p.0 q.0 && F p.1 q.1) m.entries n.entries

pub exact_trees : {K X : Type 0} (R : K → K → Ordering) (E : K → K → Bool) (F : X → X → Bool) → IsExact E → IsExact F → (m n : BTreeMap K X)
    → same_trees E F m n ≡ true → tree_map R m ≡ tree_map R n
exact_trees R E F e f m n h = ap (λ es. fmap.from_entries {R = R} es) (exact_list (λ p q. E p.0 q.0 && F p.1 q.1) (exact_pair E F e f) m.entries n.entries h)

-- what does not differ is the same
pub not_differs : (r b : Bool) → r ≡ not b → r ≡ false → b ≡ true
not_differs r true e f = refl
not_differs r false e f = absurd (true≢false (sym e ∙ f))
