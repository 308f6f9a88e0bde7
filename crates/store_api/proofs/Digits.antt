-- Bytes spelled in hexadecimal digits.
use Rattle.std.proofs.Common.{arith, ◌≡◌, ◌∷◌, [], ℕ, List, refl}
use Rattle.std.specs.Str.{IsAscii, IsUtf8}
use Rattle.std.proofs.lemmas.Str.{IsUtf8-from_ascii}
use Rattle.std.proofs.lemmas.Str.Ascii.{IsAscii-nil, IsAscii-cons}
use Rattle.hex.proofs.HexLemmas.{IsAscii-encode_with}
use Rattle.hex.specs.Hex.{encode_lower, encode_with, lower_digits}

pub digits_none : encode_lower [] ≡ []
unfolding encode_with
digits_none = refl

ascii_digits : IsAscii lower_digits
ascii_digits = IsAscii-cons 48 (49 ∷ 50 ∷ 51 ∷ 52 ∷ 53 ∷ 54 ∷ 55 ∷ 56 ∷ 57 ∷ 97 ∷ 98 ∷ 99 ∷ 100 ∷ 101 ∷ 102 ∷ []) (omega arith) (IsAscii-cons 49 (50 ∷ 51 ∷ 52 ∷ 53 ∷ 54 ∷ 55 ∷ 56 ∷ 57 ∷ 97 ∷ 98 ∷ 99 ∷ 100 ∷ 101 ∷ 102 ∷ []) (omega arith) (IsAscii-cons 50 (51 ∷ 52 ∷ 53 ∷ 54 ∷ 55 ∷ 56 ∷ 57 ∷ 97 ∷ 98 ∷ 99 ∷ 100 ∷ 101 ∷ 102 ∷ []) (omega arith) (IsAscii-cons 51 (52 ∷ 53 ∷ 54 ∷ 55 ∷ 56 ∷ 57 ∷ 97 ∷ 98 ∷ 99 ∷ 100 ∷ 101 ∷ 102 ∷ []) (omega arith) (IsAscii-cons 52 (53 ∷ 54 ∷ 55 ∷ 56 ∷ 57 ∷ 97 ∷ 98 ∷ 99 ∷ 100 ∷ 101 ∷ 102 ∷ []) (omega arith) (IsAscii-cons 53 (54 ∷ 55 ∷ 56 ∷ 57 ∷ 97 ∷ 98 ∷ 99 ∷ 100 ∷ 101 ∷ 102 ∷ []) (omega arith) (IsAscii-cons 54 (55 ∷ 56 ∷ 57 ∷ 97 ∷ 98 ∷ 99 ∷ 100 ∷ 101 ∷ 102 ∷ []) (omega arith) (IsAscii-cons 55 (56 ∷ 57 ∷ 97 ∷ 98 ∷ 99 ∷ 100 ∷ 101 ∷ 102 ∷ []) (omega arith) (IsAscii-cons 56 (57 ∷ 97 ∷ 98 ∷ 99 ∷ 100 ∷ 101 ∷ 102 ∷ []) (omega arith) (IsAscii-cons 57 (97 ∷ 98 ∷ 99 ∷ 100 ∷ 101 ∷ 102 ∷ []) (omega arith) (IsAscii-cons 97 (98 ∷ 99 ∷ 100 ∷ 101 ∷ 102 ∷ []) (omega arith) (IsAscii-cons 98 (99 ∷ 100 ∷ 101 ∷ 102 ∷ []) (omega arith) (IsAscii-cons 99 (100 ∷ 101 ∷ 102 ∷ []) (omega arith) (IsAscii-cons 100 (101 ∷ 102 ∷ []) (omega arith) (IsAscii-cons 101 (102 ∷ []) (omega arith) (IsAscii-cons 102 [] (omega arith) IsAscii-nil)))))))))))))))

-- hexadecimal digits are a valid text
pub digits_text : (bytes : List ℕ) → IsUtf8 (encode_lower bytes)
digits_text bytes = IsUtf8-from_ascii (encode_lower bytes) (IsAscii-encode_with lower_digits bytes ascii_digits)
