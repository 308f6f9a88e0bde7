-- The first element of a list that passes a test, and the elements after it.
use Rattle.std.proofs.Common.{◌≡◌, ℕ, zero, suc, ◌<◌, Bool, true, false, cond, List, [], ◌∷◌, length, drop, filter, get_or, Some, None, is_some, refl, ap, sym, ◌∙◌, arith}
use Rattle.std.specs.Prelude.{◌||◌, position}
use Rattle.std.specs.List.{list_any}
use Rattle.std.proofs.lemmas.Bool.{false≢true}
use Rattle.std.proofs.lemmas.List.Quantifiers.{position-Some}
use Rattle.spec_lib.proofs.Rows.{is_some-position}

module _ {A : Type 0} (p : A → Bool) where
  filter_at : (xs : List A) (i : ℕ) (d : A) → i < length xs → p (get_or xs i d) ≡ true → ((k : ℕ) → k < i → p (get_or xs k d) ≡ false) → filter p xs ≡ get_or xs i d ∷ filter p (drop (suc i) xs)
  filter_at [] i d lt here before = absurd (omega arith)
  filter_at (x ∷ xs) zero d lt here before = rw here refl
  filter_at (x ∷ xs) (suc i) d lt here before =
      let first : p x ≡ false = before 0 (omega arith) in
      rw first (filter_at xs i d (omega arith) here (λ k less. before (suc k) (omega arith)))

  -- a filter keeps the first element that passes and filters those after it
  pub filter-from : (xs : List A) (i : ℕ) (d : A) → position p xs ≡ Some i → filter p xs ≡ get_or xs i d ∷ filter p (drop (suc i) xs)
  filter-from xs i d found = let at = position-Some p xs i d found in filter_at xs i d at.0 at.1 at.2

  filter_none : (xs : List A) → list_any p xs ≡ false → filter p xs ≡ []
  filter_none [] none = refl
  filter_none (x ∷ xs) none = elim (p x) as (λ b. (b || list_any p xs) ≡ false → cond b (x ∷ filter p xs) (filter p xs) ≡ []) [
    | true ↦ λ h. absurd (false≢true (sym h))
    | false ↦ λ h. filter_none xs h
  ] none

  -- a filter keeps nothing if no element passes
  pub filter-nothing : (xs : List A) → position p xs ≡ None → filter p xs ≡ []
  filter-nothing xs none = filter_none xs (sym (is_some-position p xs) ∙ ap is_some none)
