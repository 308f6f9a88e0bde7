-- A range's text: the test for it and its grammar agree.
use Rattle.std.proofs.Common.{◌≡◌, ◌<◌, ◌≤◌, ◌^◌, ◌+◌, ◌++◌, ◌∷◌, ◌==◌, ◌&&◌, [], ◌∙◌, ℕ, List, Bool, true, Option, Some, None, not, ap, sym, refl, arith, length, take, drop, nat_lt, nat_le, option_and_then, get_or, length-append, append_assoc}
use Rattle.std.proofs.Math.Seq.{take-append_seam, drop-append_seam}
use Rattle.std.proofs.lemmas.Bool.{and_parts, lt-ltb, ltb-true, leb-true, le-leb, eqb-true}
use Rattle.std.proofs.lemmas.Bool.Decides.{nat_tests}
use Rattle.std.proofs.lemmas.List.Sums.{AllPass-from_list_all, list_all-from_AllPass, split_at_first, passes_at_first}
use Rattle.std.specs.Char.{is_ascii_digit}
use Rattle.std.specs.List.{list_all, position, position_or_len}
use Rattle.std.specs.Str.Parse.{digits_value}
use Rattle.blob_digest.specs.Ranges.{IsNumber, IsRangeText, is_digits, number_of, ordered, range_at, range_of}
use Rattle.blob_digest.proofs.NameTexts.{prefix_seam}
use Rattle.spec_lib.proofs.Options.{cond_some}

-- the value of a chain of options
chained : {A B : Type 0} (f : A → Option B) (o : Option A) (y : B) → option_and_then f o ≡ Some y → (x : A) × (o ≡ Some x) × (f x ≡ Some y)
chained f None y h = cc
chained f (Some x) y h = (x, refl, h)

-- a number that the test finds has the grammar
pub number_found : (text : List ℕ) (n : ℕ) → number_of text ≡ Some n → IsNumber text n
number_found text n h =
    let test = cond_some (is_digits text && nat_lt (digits_value 10 text) (2 ^ 63)) (digits_value 10 text) n h in
    let parts = and_parts (is_digits text) (nat_lt (digits_value 10 text) (2 ^ 63)) test.0 in
    let digits = and_parts (nat_lt 0 (length text)) (list_all is_ascii_digit text) parts.0 in
    let below = ltb-true (digits_value 10 text) (2 ^ 63) parts.1 in
    record {
      some = ltb-true 0 (length text) digits.0;
      digits = AllPass-from_list_all is_ascii_digit text digits.1;
      value = test.1;
      small = omega (arith, test.1, below);
    }

-- the test finds each number of the grammar
pub number_is : (text : List ℕ) (n : ℕ) → IsNumber text n → number_of text ≡ Some n
number_is text n h =
    let below : digits_value 10 text < 2 ^ 63 = omega (arith, h.value, h.small) in
    rw (lt-ltb 0 (length text) h.some, list_all-from_AllPass is_ascii_digit text h.digits, lt-ltb (digits_value 10 text) (2 ^ 63) below) (ap Some h.value)

-- a range that the test finds has the grammar
pub range_found : (text : List ℕ) (start end : ℕ) → range_of text ≡ Some (start, end) → IsRangeText text start end
range_found text start end h =
    let dash = chained (range_at text) (position (λ c. c == 45) text) (start, end) h in
    let is_dash : ℕ → Bool = λ c. c == 45 in
    let place = cond_some (nat_lt (position_or_len is_dash text) (length text)) (position_or_len is_dash text) dash.0 dash.1 in
    let within = ltb-true (position_or_len is_dash text) (length text) place.0 in
    let byte = eqb-true (get_or text (position_or_len is_dash text) 0) 45 (passes_at_first is_dash text 0 within) in
    let split = split_at_first is_dash text 0 within in
    let first = chained (λ s. option_and_then (ordered s) (number_of (drop (dash.0 + 1) text))) (number_of (take dash.0 text)) (start, end) dash.2 in
    let last = chained (ordered first.0) (number_of (drop (dash.0 + 1) text)) (start, end) first.2 in
    let ends = cond_some (nat_le first.0 last.0) (first.0, last.0) (start, end) last.2 in
    let s : first.0 ≡ start = ap (λ p. p.0) ends.1 in
    let e : last.0 ≡ end = ap (λ p. p.1) ends.1 in
    let in_order : first.0 ≤ last.0 = leb-true first.0 last.0 ends.0 in
    record {
      front = take dash.0 text;
      back = drop (dash.0 + 1) text;
      whole = split ∙ (λ i. take (place.1 i) text ++ (byte i ∷ drop (place.1 i + 1) text));
      first = number_found (take dash.0 text) start (first.1 ∙ ap Some s);
      last = number_found (drop (dash.0 + 1) text) end (last.1 ∙ ap Some e);
      ordered = omega (arith, s, e, in_order);
    }

not_dash : (c : ℕ) → is_ascii_digit c ≡ true → not (c == 45) ≡ true
not_dash c h = grind (arith, nat_tests)

no_dash : (text : List ℕ) → list_all is_ascii_digit text ≡ true → list_all (λ c. not (c == 45)) text ≡ true
no_dash [] h = refl
no_dash (c ∷ text) h =
    let parts = and_parts (is_ascii_digit c) (list_all is_ascii_digit text) h in
    rw (not_dash c parts.0, no_dash text parts.1) refl

seam_at : (front back : List ℕ) → list_all (λ c. not (c == 45)) front ≡ true → position (λ c. c == 45) (front ++ (45 ∷ back)) ≡ Some (length front)
seam_at front back none =
    let place : position_or_len (λ c. c == 45) (front ++ (45 ∷ back)) ≡ length front = prefix_seam (λ c. not (c == 45)) front 45 back none refl in
    let within : nat_lt (length front) (length (front ++ (45 ∷ back))) ≡ true = lt-ltb (length front) (length (front ++ (45 ∷ back))) (omega (arith, length-append front (45 ∷ back))) in
    rw (place, within) refl

after_seam : (front back : List ℕ) → drop (length front + 1) (front ++ (45 ∷ back)) ≡ back
after_seam front back =
    ap (λ n. drop n (front ++ (45 ∷ back))) (sym (length-append front (45 ∷ [])))
    ∙ ap (drop (length (front ++ 45 ∷ []))) (sym (append_assoc front (45 ∷ []) back))
    ∙ drop-append_seam (front ++ 45 ∷ []) back

-- the test finds each range of the grammar
pub range_is : (text : List ℕ) (start end : ℕ) → IsRangeText text start end → range_of text ≡ Some (start, end)
range_is text start end h =
    let none = no_dash h.front (list_all-from_AllPass is_ascii_digit h.front h.first.digits) in
    let at : range_of (h.front ++ (45 ∷ h.back)) ≡ range_at (h.front ++ (45 ∷ h.back)) (length h.front) = ap (option_and_then (range_at (h.front ++ (45 ∷ h.back)))) (seam_at h.front h.back none) in
    let numbers : range_at (h.front ++ (45 ∷ h.back)) (length h.front) ≡ Some (start, end) =
    rw (take-append_seam h.front (45 ∷ h.back), after_seam h.front h.back, number_is h.front start h.first, number_is h.back end h.last, le-leb start end h.ordered) refl in
    ap range_of h.whole ∙ at ∙ numbers
