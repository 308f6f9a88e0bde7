-- The text of a chunk's range: two decimal numbers joined by `-` (OCI Distribution Specification 1.1, "Pushing a blob in chunks").
use Rattle.std.specs.Prelude.{◌≡◌, ℕ, ◌+◌, ◌<◌, ◌≤◌, ◌^◌, ◌==◌, ◌&&◌, ◌++◌, List, ◌∷◌, length, Bool, nat_lt, nat_le, if◌then◌else◌, Option, Some, None, Result, MatchResult, option_and_then, take, drop, position}
use Rattle.std.specs.Char.{is_ascii_digit}
use Rattle.std.specs.List.{AllPass, list_all}
use Rattle.std.specs.Str.Parse.{digits_value}

-- the text is one or more decimal digits of the value `n`, which is below 2^63
pub record IsNumber (text : List ℕ) (n : ℕ) : Type 0 where
  pub some : 0 < length text
  pub digits : AllPass is_ascii_digit text
  pub value : digits_value 10 text ≡ n
  pub small : n < 2 ^ 63

-- the text spells no number
abbrev pub IsNoNumber : List ℕ → Type 0
IsNoNumber text = (n : ℕ) → IsNumber text n → ⊥

-- the text is `<start>-<end>`, with `start` at most `end`
pub record IsRangeText (text : List ℕ) (start end : ℕ) : Type 0 where
  pub front : List ℕ
  pub back : List ℕ
  pub whole : text ≡ front ++ (45 ∷ back)
  pub first : IsNumber front start
  pub last : IsNumber back end
  pub ordered : start ≤ end

-- whether the text is one or more decimal digits
abbrev pub is_digits : List ℕ → Bool
is_digits text = nat_lt 0 (length text) && list_all is_ascii_digit text

-- the number that the text spells, if it is below 2^63
abbrev pub number_of : List ℕ → Option ℕ
number_of text = if is_digits text && nat_lt (digits_value 10 text) (2 ^ 63) then Some (digits_value 10 text) else None

-- the two ends, if they are in order
abbrev pub ordered : ℕ → ℕ → Option (ℕ × ℕ)
ordered start end = if nat_le start end then Some (start, end) else None

-- the ends of the range whose `-` is at the position `dash`
abbrev pub range_at : List ℕ → ℕ → Option (ℕ × ℕ)
range_at text dash = option_and_then (λ start. option_and_then (ordered start) (number_of (drop (dash + 1) text))) (number_of (take dash text))

-- the ends of the range that the text spells, if it spells one
abbrev pub range_of : List ℕ → Option (ℕ × ℕ)
range_of text = option_and_then (range_at text) (position (λ c. c == 45) text)

-- the result has the ends that the text spells, or is an error if the text spells no range
abbrev pub AgreesWithEnds : {A E : Type 0} → List ℕ → (A → ℕ × ℕ) → Result A E → Type 0
AgreesWithEnds text ends result = MatchResult result (λ r. range_of text ≡ Some (ends r)) (λ _. range_of text ≡ None)
