-- A new store has one catalog: its tenants are in the one order of their names.
use Rattle.std.proofs.Common.{◌≡◌, ◌+◌, ◌∙◌, ◌∷◌, [], ℕ, List, true, false, cond, ap, arith, map, refl, subst, sym, zero-add}
use Rattle.std.specs.List.{AllByRecursion, sum_by}
use Rattle.std.specs.List.Sorted.{IsStrictlySortedBy}
use Rattle.std.specs.Cmp.{IsTotalOrder}
use Rattle.std.specs.Cmp.Lexicographic.{nat_list_cmp_total}
use Rattle.std.specs.Ordering.{ordering_reverse}
use Rattle.std.specs.declared.cmp.Ordering.{Ordering}
use Rattle.std.specs.declared.cmp.Ordering.TheVariants.{Less, Equal, Greater}
use Rattle.std.proofs.lemmas.List.Sorted.{sum_by-IsPermutation}
use Rattle.std.proofs.lemmas.List.Sums.{sum_by-cons}
use Rattle.std.proofs.lemmas.Map.Keys.{sorted_head, sorted_tail}
use Rattle.std.proofs.lemmas.Map.Lookups.{exact_bytes}
use Rattle.spec_lib.specs.Texts.{Text, text_cmp, same_text}
use Rattle.blob_digest.specs.Tenants.{Tenant}
use Rattle.spec_lib.proofs.Texts.{same_itself, same_text_is, text_is_same}
use Rattle.store_model.specs.Catalog.{Catalog, opening, ContentRules}
use Rattle.store_book.specs.Openings.{OpensCatalog}

abbrev names : List Tenant → List Text
names ts = map (λ t. t.name) ts

abbrev Rises : List Tenant → Type 0
Rises ts = IsStrictlySortedBy text_cmp (names ts)

abbrev Past : Text → List Text → Type 0
Past q ns = AllByRecursion (λ n. text_cmp q n ≡ Less) ns

not_below_itself : (q : Text) → text_cmp q q ≡ Less → ⊥
not_below_itself q is = absurd (let h = sym is ∙ IsTotalOrder.antisymm nat_list_cmp_total q q ∙ ap ordering_reverse is in cc)

not_same : (q n : Text) → text_cmp q n ≡ Less → same_text n q ≡ false
not_same q n below = elim (same_text n q) as (λ b. same_text n q ≡ b → same_text n q ≡ false) [
  | true ↦ λ e. absurd (not_below_itself q (subst (λ x. text_cmp q x ≡ Less) (text_is_same n q e) below))
  | false ↦ λ e. e
] refl

-- tenants after a name add nothing to the sum of that name
sum_past : (q : Text) (g : Tenant → ℕ) (ts : List Tenant) → Past q (names ts) → sum_by (λ t. cond (same_text t.name q) (g t) 0) ts ≡ 0
sum_past q g [] past = refl
sum_past q g (t ∷ ts) past = sum_by-cons (λ t. cond (same_text t.name q) (g t) 0) t ts ∙ rw (not_same q t.name past.0) (zero-add _ ∙ sum_past q g ts past.1)

past_more : (x y : Text) (ns : List Text) → text_cmp x y ≡ Less → Past y ns → Past x ns
past_more x y [] below past = past
past_more x y (n ∷ ns) below past = (nat_list_cmp_total.trans x y n below past.0, past_more x y ns below past.1)

module _ (x y : Tenant) (xs ys : List Tenant) (rising : Rises (x ∷ xs)) (other : Rises (y ∷ ys)) (sums : (f : Tenant → ℕ) → sum_by f (x ∷ xs) ≡ sum_by f (y ∷ ys)) where
  not_below : text_cmp x.name y.name ≡ Less → ⊥
  not_below below =
      let f : Tenant → ℕ = λ t. cond (same_text t.name x.name) 1 0 in
      let none : sum_by f (y ∷ ys) ≡ 0 = sum_past x.name (λ _. 1) (y ∷ ys) (below, past_more x.name y.name (names ys) below (sorted_head text_cmp y.name (names ys) other)) in
      let some : sum_by f (x ∷ xs) ≡ 1 + sum_by f xs = sum_by-cons f x xs ∙ ap (λ b. cond b 1 0 + sum_by f xs) (same_itself x.name) in
      absurd (omega (arith, sums f, none, some))

  -- tenants of one name have one value
  same_value : (g : Tenant → ℕ) → x.name ≡ y.name → g x ≡ g y
  same_value g name =
      let f : Tenant → ℕ = λ t. cond (same_text t.name x.name) (g t) 0 in
      let here : sum_by f (x ∷ xs) ≡ g x + sum_by f xs = sum_by-cons f x xs ∙ ap (λ b. cond b (g x) 0 + sum_by f xs) (same_itself x.name) in
      let there : sum_by f (y ∷ ys) ≡ g y + sum_by f ys = sum_by-cons f y ys ∙ ap (λ b. cond b (g y) 0 + sum_by f ys) (same_text_is y.name x.name (sym name)) in
      let rest : sum_by f xs ≡ 0 = sum_past x.name g xs (sorted_head text_cmp x.name (names xs) rising) in
      let rest' : sum_by f ys ≡ 0 = sum_past x.name g ys (subst (λ q. Past q (names ys)) (sym name) (sorted_head text_cmp y.name (names ys) other)) in
      omega (arith, sums f, here, there, rest, rest')

  same_heads : x.name ≡ y.name → x ≡ y
  same_heads name = λ i. record {
    name = name i;
    quota = same_value (λ t. t.quota) name i;
    share = same_value (λ t. t.share) name i;
    limits = record { repos = same_value (λ t. t.limits.repos) name i; manifests = same_value (λ t. t.limits.manifests) name i; sessions = same_value (λ t. t.limits.sessions) name i };
  }

  same_tails : x ≡ y → (f : Tenant → ℕ) → sum_by f xs ≡ sum_by f ys
  same_tails same f = omega (arith, sums f, sum_by-cons f x xs, sum_by-cons f y ys, ap f same)

by_order : (x y : Tenant) (xs ys : List Tenant) → Rises (x ∷ xs) → Rises (y ∷ ys) → ((f : Tenant → ℕ) → sum_by f (x ∷ xs) ≡ sum_by f (y ∷ ys)) → (((f : Tenant → ℕ) → sum_by f xs ≡ sum_by f ys) → xs ≡ ys)
    → (o : Ordering) → text_cmp x.name y.name ≡ o → ◌≡◌ {A = List Tenant} (x ∷ xs) (y ∷ ys)
by_order x y xs ys rising other sums next Less is = absurd (not_below x y xs ys rising other sums is)
by_order x y xs ys rising other sums next Greater is = absurd (not_below y x ys xs other rising (λ f. sym (sums f)) (nat_list_cmp_total.antisymm y.name x.name ∙ ap ordering_reverse is))
by_order x y xs ys rising other sums next Equal is =
    let heads = same_heads x y xs ys rising other sums (exact_bytes x.name y.name is) in
    let tails = next (same_tails x y xs ys rising other sums heads) in
    λ i. heads i ∷ tails i

sorted_same : (xs ys : List Tenant) → Rises xs → Rises ys → ((f : Tenant → ℕ) → sum_by f xs ≡ sum_by f ys) → xs ≡ ys
sorted_same [] [] rising other sums = refl
sorted_same [] (y ∷ ys) rising other sums = absurd (omega (arith, sums (λ _. 1), sum_by-cons (λ _. 1) y ys))
sorted_same (x ∷ xs) [] rising other sums = absurd (omega (arith, sums (λ _. 1), sum_by-cons (λ _. 1) x xs))
sorted_same (x ∷ xs) (y ∷ ys) rising other sums =
    by_order x y xs ys rising other sums (sorted_same xs ys (sorted_tail text_cmp x.name (names xs) rising) (sorted_tail text_cmp y.name (names ys) other)) (text_cmp x.name y.name) refl

pub one_opening : (given : List Tenant) (slots : ℕ) (contents : ContentRules) (C D : Catalog) → OpensCatalog given slots contents C → OpensCatalog given slots contents D → C ≡ D
one_opening given slots contents C D h k =
    let tenants = sorted_same C.tenants D.tenants h.rising k.rising (λ f. sum_by-IsPermutation f given C.tenants h.same ∙ sym (sum_by-IsPermutation f given D.tenants k.same)) in
    h.empty ∙ ap (λ (ts : List Tenant). opening ts slots contents) tenants ∙ sym k.empty
