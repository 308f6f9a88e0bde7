-- A key inserted in a set and removed from it.
use Rattle.std.proofs.Common.{◌≡◌, Bool, true, false, cond, Option, Some, None, is_some, refl, sym, ap, ◌∙◌, ◌≢◌, inl, inr}
use Rattle.std.specs.declared.cmp.Ordering.{Ordering}
use Rattle.std.specs.Ordering.{eq_by_cmp}
use Rattle.std.specs.Cmp.{IsTotalOrder, Equal-is}
use Rattle.std.specs.FinMap.{get, get-insert, get-remove, get_tied, same_map, IsAntisymmetric}
use Rattle.spec_lib.specs.Sets.{Set, contains, insert, remove}
use Rattle.std.specs.Prelude.{◌⊎◌}
use Rattle.spec_lib.proofs.Options.{a_unit}
use Rattle.spec_lib.proofs.Maps.{get-insert_at, get-insert_other, get-remove_other, got-remove, cases_key}

unit_entries : (x : Option (Unit {0})) (b : Bool) → is_some x ≡ b → x ≡ cond b (Some tt) None
unit_entries None true e = cc
unit_entries None false e = refl
unit_entries (Some u) true e = refl
unit_entries (Some u) false e = cc

module _ {K : Type 0} {R : K → K → Ordering} (o : IsTotalOrder R) (same : IsAntisymmetric R) where
  at_key : (s : Set R) (k q : K) (x : Option (Unit {0})) → (b : Bool) → eq_by_cmp R q k ≡ b → (b ≡ true → get s q ≡ x) → cond b x (get s q) ≡ get s q
  at_key s k q x true tie here = sym (here refl)
  at_key s k q x false tie here = refl

  tied : (s : Set R) (k q : K) → eq_by_cmp R q k ≡ true → get s q ≡ get s k
  tied s k q tie = sym (get_tied o s q k ((Equal-is (R q k)).0 tie))

  -- inserting a member changes nothing
  pub insert_there : (s : Set R) (k : K) → contains s k ≡ true → insert s k ≡ s
  insert_there s k there = same_map o same (insert s k) s (λ q.
      get-insert o s k tt q ∙ at_key s k q (Some tt) (eq_by_cmp R q k) refl (λ tie. tied s k q tie ∙ unit_entries (get s k) true there))

  both : (b : Bool) (x : Option (Unit {0})) → (b ≡ true → x ≡ None) → cond b None (cond b (Some tt) x) ≡ x
  both true x none = sym (none refl)
  both false x none = refl

  -- removing a new key that was just inserted restores the set
  pub remove-insert : (s : Set R) (k : K) → contains s k ≡ false → remove (insert s k) k ≡ s
  remove-insert s k absent = same_map o same (remove (insert s k) k) s (λ q.
      get-remove o (insert s k) k q ∙ ap (cond (eq_by_cmp R q k) None) (get-insert o s k tt q)
      ∙ both (eq_by_cmp R q k) (get s q) (λ tie. tied s k q tie ∙ unit_entries (get s k) false absent))

  none_both : (b : Bool) (x : Option (Unit {0})) → (b ≡ true → x ≡ None) → cond b None x ≡ x
  none_both true x none = sym (none refl)
  none_both false x none = refl

  -- removing a key that is not a member changes nothing
  pub remove_absent : (s : Set R) (k : K) → contains s k ≡ false → remove s k ≡ s
  remove_absent s k absent = same_map o same (remove s k) s (λ q.
      get-remove o s k q ∙ none_both (eq_by_cmp R q k) (get s q) (λ tie. tied s k q tie ∙ unit_entries (get s k) false absent))

module _ {K : Type 0} {R : K → K → Ordering} (o : IsTotalOrder R) (same : IsAntisymmetric R) where
  pub still : (s : Set R) (k q : K) → contains s q ≡ true → contains (insert s k) q ≡ true
  still s k q h = elim (cases_key o same q k) [
    | inl e ↦ ap is_some (ap (get (insert s k)) e ∙ get-insert_at o same s k tt)
    | inr differ ↦ ap is_some (get-insert_other o same s k tt q differ) ∙ h
  ]

  pub now : (s : Set R) (k : K) → contains (insert s k) k ≡ true
  now s k = ap is_some (get-insert_at o same s k tt)

  pub member : (s : Set R) (k q : K) → contains (insert s k) q ≡ true → (q ≡ k) ⊎ (contains s q ≡ true)
  member s k q h = elim (cases_key o same q k) [
    | inl e ↦ inl e
    | inr differ ↦ inr (sym (ap is_some (get-insert_other o same s k tt q differ)) ∙ h)
  ]

  pub as_before-insert : (s : Set R) (k q : K) → q ≢ k → contains (insert s k) q ≡ contains s q
  as_before-insert s k q differ = ap is_some (get-insert_other o same s k tt q differ)

  pub as_before-remove : (s : Set R) (k q : K) → q ≢ k → contains (remove s k) q ≡ contains s q
  as_before-remove s k q differ = ap is_some (get-remove_other o same s k q differ)

  pub was_member : (s : Set R) (k q : K) → contains (remove s k) q ≡ true → contains s q ≡ true
  was_member s k q h = ap is_some (got-remove o same s k q tt (a_unit _ h))
