-- Lists that have the same elements of each key, in the same order, have the same elements.
use Rattle.std.proofs.Common.{◌≡◌, ◌≢◌, ◌<◌, ◌==◌, ◌++◌, ◌∷◌, [], ℕ, true, false, cond, List, refl, sym, ap, ◌∙◌, subst, inl, inr}
use Rattle.std.specs.List.{filter}
use Rattle.std.specs.List.Sorted.{IsPermutation}
use Rattle.std.proofs.lemmas.Bool.{cases_eq, eq-eqb, ne_eqb}
use Rattle.std.proofs.lemmas.List.Elements.{filter-append}
use Rattle.std.proofs.lemmas.List.Sorted.{IsPermutation-cons, IsPermutation-middle, IsPermutation-refl, IsPermutation-sym, IsPermutation-trans}

module _ {X : Type 0} (key : X → ℕ) where
  -- those of a key
  abbrev with_key : ℕ → List X → List X
  with_key w xs = filter (λ x. key x == w) xs

  part_own : (x : X) (xs : List X) → with_key (key x) (x ∷ xs) ≡ x ∷ with_key (key x) xs
  part_own x xs = rw (eq-eqb (key x) (key x) refl) refl

  part_other : (w : ℕ) (x : X) (xs : List X) → key x ≢ w → with_key w (x ∷ xs) ≡ with_key w xs
  part_other w x xs other = rw (ne_eqb (key x) w other) refl

  -- the first element of a key, with the elements before it and after it
  record IsFirst (w : ℕ) (x : X) (xs ys : List X) : Type 0 where
    before : List X
    after : List X
    is : ys ≡ before ++ x ∷ after
    none : with_key w before ≡ []
    rest : with_key w after ≡ xs

  later : (w : ℕ) (x y : X) (xs ys : List X) → (key y == w) ≡ false → IsFirst w x xs ys → IsFirst w x xs (y ∷ ys)
  later w x y xs ys other f = record { before = y ∷ f.before; after = f.after; is = ap (λ zs. y ∷ zs) f.is; none = rw other f.none; rest = f.rest }

  first : (w : ℕ) (x : X) (xs ys : List X) → with_key w ys ≡ x ∷ xs → IsFirst w x xs ys
  first w x xs [] h = absurd cc
  first w x xs (y ∷ ys) h = elim (key y == w) as (λ b. (key y == w) ≡ b → cond b (y ∷ with_key w ys) (with_key w ys) ≡ x ∷ xs → IsFirst w x xs (y ∷ ys)) [
    | true ↦ λ is h. (let same : y ≡ x = cc in let rest : with_key w ys ≡ xs = cc in record { before = []; after = ys; is = ap (λ z. z ∷ ys) same; none = refl; rest = rest })
    | false ↦ λ is h. later w x y xs ys is (first w x xs ys h)
  ] refl h

  module _ (n : ℕ) (below : (x : X) → key x < n) where
    pub permuted : (xs ys : List X) → ((w : ℕ) → w < n → with_key w ys ≡ with_key w xs) → IsPermutation xs ys
    permuted [] [] same = IsPermutation-refl []
    permuted [] (y ∷ ys) same = absurd (let h : y ∷ with_key (key y) ys ≡ [] = sym (part_own y ys) ∙ same (key y) (below y) in cc)
    permuted (x ∷ xs) ys same =
        let w : ℕ = key x in
        let f : IsFirst w x (with_key w xs) ys = first w x (with_key w xs) ys (same w (below x) ∙ part_own x xs) in
        let others : (v : ℕ) → v < n → with_key v (f.before ++ f.after) ≡ with_key v xs = (λ v lt. filter-append (λ y. key y == v) f.before f.after ∙ elim (cases_eq v w) [
          | inl e ↦ subst (λ u. with_key u f.before ++ with_key u f.after ≡ with_key u xs) (sym e) (ap (λ zs. zs ++ with_key w f.after) f.none ∙ f.rest)
          | inr other ↦
              ap (λ zs. with_key v f.before ++ zs) (sym (part_other v x f.after (λ e. other (sym e)))) ∙ sym (filter-append (λ y. key y == v) f.before (x ∷ f.after))
              ∙ ap (with_key v) (sym f.is) ∙ same v lt ∙ part_other v x xs (λ e. other (sym e))
        ]) in
        let one : IsPermutation (x ∷ xs) (x ∷ (f.before ++ f.after)) = IsPermutation-cons x xs (f.before ++ f.after) (permuted xs (f.before ++ f.after) others) in
        subst (λ zs. IsPermutation (x ∷ xs) zs) (sym f.is)
        (IsPermutation-trans (x ∷ xs) (x ∷ (f.before ++ f.after)) (f.before ++ x ∷ f.after) one (IsPermutation-sym (f.before ++ x ∷ f.after) (x ∷ (f.before ++ f.after)) (IsPermutation-middle f.before x f.after)))
