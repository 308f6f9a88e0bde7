-- Lists that are split at the first element of a kind.
use Rattle.std.proofs.Common.{◌≡◌, ◌∙◌, ◌+◌, ◌-◌, ◌≤◌, ◌∷◌, [], ℕ, List, Bool, true, false, Some, None, ap, arith, cond, drop, get_or, length, map, not, refl, string_bytes, String, sym, take}
use Rattle.std.specs.declared.alloc.Global.{Global}
use Rattle.std.specs.List.{after_first, before_first, position, position_or_len}
use Rattle.std.proofs.lemmas.Bool.{ltb-false}
use Rattle.std.proofs.lemmas.List.{drop_all, drop-map, length-drop, length-map, take_all, take-map}
use Rattle.std.proofs.lemmas.Option.{cond_some, none-some}
use Rattle.spec_lib.specs.Texts.{Text}

-- a test that finds nothing fails
not_found : {X : Type 0} (b : Bool) (x : X) → None ≡ cond b (Some x) None → b ≡ false
not_found true x is = absurd (none-some x is)
not_found false x is = refl

module _ (p : Text → Bool) where
  -- an argument and its text have the same index
  place_kept : (words : List (String Global)) → position_or_len p (map string_bytes words) ≡ position_or_len (λ w. p (string_bytes w)) words
  place_kept [] = refl
  place_kept (w ∷ ws) = ap (λ n. cond (not (p (string_bytes w))) (1 + n) 0) (place_kept ws)

  -- the arguments before the first one, and those after it
  pub split_found : (words : List (String Global)) (end : ℕ) → Some end ≡ position (λ w. p (string_bytes w)) words
      → (map string_bytes (take end words) ≡ before_first p (map string_bytes words)) × (map string_bytes (take (length words - (end + 1)) (drop (end + 1) words)) ≡ after_first p (map string_bytes words))
  split_found words end is =
      let place : position_or_len p (map string_bytes words) ≡ end = place_kept words ∙ (cond_some _ _ end (sym is)).1 in (
        sym (ap (λ n. take n (map string_bytes words)) place ∙ take-map string_bytes end words),
        ap (map string_bytes) (take_all (length words - (end + 1)) (drop (end + 1) words) (omega (arith, length-drop (end + 1) words))) ∙ sym (ap (λ n. drop (n + 1) (map string_bytes words)) place ∙ drop-map string_bytes (end + 1) words),
      )

  -- all arguments, if there is none
  pub split_not_found : (words : List (String Global)) → None ≡ position (λ w. p (string_bytes w)) words
      → (map string_bytes words ≡ before_first p (map string_bytes words)) × ([] ≡ after_first p (map string_bytes words))
  split_not_found words is =
      let past = ltb-false _ _ (not_found _ _ is) in
      let place = place_kept words in
      let size = length-map words string_bytes in
      let whole : length (map string_bytes words) ≤ position_or_len p (map string_bytes words) = omega (arith, past, place, size) in (
        sym (take_all (position_or_len p (map string_bytes words)) (map string_bytes words) whole),
        sym (drop_all (position_or_len p (map string_bytes words) + 1) (map string_bytes words) (omega (arith, whole))),
      )

-- the first two arguments, and the others
pub first_two : (words : List (String Global)) (first second : String Global) → 2 ≤ length words → first ≡ get_or words 0 first → second ≡ get_or words 1 second
    → map string_bytes words ≡ string_bytes first ∷ string_bytes second ∷ map string_bytes (take (length words - 2) (drop 2 words))
first_two [] first second many is_first is_second = absurd (omega (arith, many))
first_two (x ∷ []) first second many is_first is_second = absurd (omega (arith, many))
first_two (x ∷ y ∷ words) first second many is_first is_second =
    λ i. string_bytes (sym is_first i) ∷ string_bytes (sym is_second i) ∷ map string_bytes (sym (take_all (length (x ∷ y ∷ words) - 2) words (omega arith)) i)

-- the first argument, and the others
pub first_one : (words : List (String Global)) → 1 ≤ length words → (first : String Global) × (map string_bytes words ≡ string_bytes first ∷ map string_bytes (take (length words - 1) (drop 1 words)))
first_one [] many = absurd (omega (arith, many))
first_one (x ∷ words) many = (x, λ i. string_bytes x ∷ map string_bytes (sym (take_all (length (x ∷ words) - 1) words (omega arith)) i))

-- the arguments after the first one are the second one, and the others
pub after_one : (words : List (String Global)) (second : String Global) → 2 ≤ length words → second ≡ get_or words 1 second
    → map string_bytes (take (length words - 1) (drop 1 words)) ≡ string_bytes second ∷ map string_bytes (take (length words - 2) (drop 2 words))
after_one [] second many is_second = absurd (omega (arith, many))
after_one (x ∷ []) second many is_second = absurd (omega (arith, many))
after_one (x ∷ y ∷ words) second many is_second =
    ap (map string_bytes) (take_all (length (x ∷ y ∷ words) - 1) (y ∷ words) (omega arith))
    ∙ (λ i. string_bytes (sym is_second i) ∷ map string_bytes (sym (take_all (length (x ∷ y ∷ words) - 2) words (omega arith)) i))
