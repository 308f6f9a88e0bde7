-- A text of lower-case digits is the hex text of the bytes that are computed from its digits.
use Rattle.std.proofs.Common.{◌≡◌, ℕ, zero, suc, ◌+◌, ◌*◌, ◌/◌, ◌%◌, ◌<◌, ◌==◌, Bool, true, ◌&&◌, ◌||◌, not, nat_lt, inl, inr, List, [], ◌∷◌, length, slice_index, refl, sym, ap, ◌∙◌, arith, ltb-true}
use Rattle.std.proofs.lemmas.Bool.{and_parts, cases_lt, eqb-true}
use Rattle.std.proofs.lemmas.Bool.Decides.{nat_tests}
use Rattle.std.specs.List.{AllPass, list_all, starts_with}
use Rattle.hex.specs.Hex.{encode_lower, encode_with, lower_digits}
use Rattle.hex.proofs.Pairs.{drop-pair}
use Rattle.std.proofs.lemmas.List.{append_assoc, take_more_set, length-drop, take-append-drop}
use Rattle.std.specs.Prelude.{slice_set, nat_eq, drop, take, ◌++◌}
use Rattle.blob_digest.specs.Digests.{digit_of, is_spelled, is_lower_hex}
use Rattle.std.proofs.lemmas.List.Sums.{AllPass-from_list_all}
use Rattle.std.proofs.lemmas.Slice.Eq.{bytes_eq-Decides}

-- whether a digit is at the position of its value in the table
abbrev spells : ℕ → Bool
spells c = not (is_lower_hex c) || ((slice_index lower_digits (digit_of c) == c) && nat_lt (digit_of c) 16)

abbrev all_spell : ℕ → Bool
all_spell zero = true
all_spell (suc n) = spells n && all_spell n

all_spell-at : (n k : ℕ) → all_spell n ≡ true → k < n → spells k ≡ true
all_spell-at zero k h lt = absurd (omega arith)
all_spell-at (suc n) k h lt =
    let parts = and_parts (spells n) (all_spell n) h in
    elim (cases_lt k n) [
      | inl below ↦ all_spell-at n k parts.1 below
      | inr top ↦
          let e : k ≡ n = omega arith in
          rw e parts.0
    ]

lower_small : (c : ℕ) → is_lower_hex c ≡ true → c < 103
lower_small c h = grind (arith, nat_tests)

-- a digit is at its position
digit : (c : ℕ) → is_lower_hex c ≡ true → (slice_index lower_digits (digit_of c) ≡ c) × (digit_of c < 16)
digit c h =
    let both : not (is_lower_hex c) || ((slice_index lower_digits (digit_of c) == c) && nat_lt (digit_of c) 16) ≡ true = all_spell-at 103 c refl (lower_small c h) in
    let parts = and_parts (slice_index lower_digits (digit_of c) == c) (nat_lt (digit_of c) 16) (rw h at both) in
    (eqb-true (slice_index lower_digits (digit_of c)) c parts.0, ltb-true (digit_of c) 16 parts.1)

cons_two : (a b c d : ℕ) (s t : List ℕ) → a ≡ b → c ≡ d → s ≡ t → (a ∷ c ∷ s) ≡ (b ∷ d ∷ t)
cons_two a b c d s t x y z = cc

-- the meaning of the test
pub whole_of : (name text : List ℕ) (n : ℕ) → length name ≡ 7 → is_spelled name (2 * n) text ≡ true
    → (text ≡ name ++ drop 7 text) × (length (drop 7 text) ≡ 2 * n) × AllPass is_lower_hex (drop 7 text)
whole_of name text n seven h =
    let parts = and_parts ((length text == 7 + 2 * n) && starts_with nat_eq text name) (list_all is_lower_hex (drop 7 text)) h in
    let front = and_parts (length text == 7 + 2 * n) (starts_with nat_eq text name) parts.0 in
    let size = eqb-true (length text) (7 + 2 * n) front.0 in
    let prefix : take 7 text ≡ name = sym (ap (λ k. take k text) seven) ∙ sym ((bytes_eq-Decides name (take (length name) text)).0 front.1) in
    (sym (take-append-drop 7 text) ∙ ap (λ x. x ++ drop 7 text) prefix, omega (arith, length-drop 7 text), AllPass-from_list_all is_lower_hex (drop 7 text) parts.1)

-- the text of bytes followed by more bytes
pub encoded-append : (xs ys : List ℕ) → encode_lower (xs ++ ys) ≡ encode_lower xs ++ encode_lower ys
unfolding encode_with
encoded-append [] ys = refl
encoded-append (x ∷ xs) ys = ap (λ (rest : List ℕ). slice_index lower_digits (x / 16) ∷ slice_index lower_digits (x % 16) ∷ rest) (encoded-append xs ys)

-- two digits are the text of their byte
pub pair_text : (a b : ℕ) → is_lower_hex a ≡ true → is_lower_hex b ≡ true → encode_lower ((digit_of a * 16 + digit_of b) ∷ []) ≡ (a ∷ b ∷ [])
unfolding encode_with
pair_text a b ha hb =
    let da = digit a ha in
    let db = digit b hb in
    let high : (digit_of a * 16 + digit_of b) / 16 ≡ digit_of a = omega arith in
    let low : (digit_of a * 16 + digit_of b) % 16 ≡ digit_of b = omega arith in
    cons_two _ _ _ _ _ _ (ap (slice_index lower_digits) high ∙ da.0) (ap (slice_index lower_digits) low ∙ db.0) refl

-- one byte more is decoded
pub decoded_more : (s out : List ℕ) (i v : ℕ) → 2 * i + 1 < length s → i < length out → AllPass is_lower_hex s
    → v ≡ digit_of (slice_index s (2 * i)) * 16 + digit_of (slice_index s (2 * i + 1))
    → encode_lower (take i out) ++ drop (2 * i) s ≡ s
    → encode_lower (take (i + 1) (slice_set out i v)) ++ drop (2 * (i + 1)) s ≡ s
decoded_more s out i v fits room h ev inv =
    let a = slice_index s (2 * i) in
    let b = slice_index s (2 * i + 1) in
    let pair : encode_lower (v ∷ []) ≡ (a ∷ b ∷ []) = rw ev (pair_text a b (h (2 * i) 0 (omega arith)) (h (2 * i + 1) 0 fits)) in
    let front = take_more_set out i v room in
    let text : encode_lower (take i out ++ v ∷ []) ≡ encode_lower (take i out) ++ (a ∷ b ∷ []) = encoded-append (take i out) (v ∷ []) ∙ ap (λ (x : List ℕ). encode_lower (take i out) ++ x) pair in
    ap (λ (x : List ℕ). encode_lower x ++ drop (2 * (i + 1)) s) front
    ∙ ap (λ (x : List ℕ). x ++ drop (2 * (i + 1)) s) text
    ∙ append_assoc (encode_lower (take i out)) (a ∷ b ∷ []) (drop (2 * (i + 1)) s)
    ∙ ap (λ (x : List ℕ). encode_lower (take i out) ++ x) (sym (drop-pair s i fits))
    ∙ inv

pub decoded_none : (s : List ℕ) → encode_lower [] ++ s ≡ s
unfolding encode_with
decoded_none s = refl
