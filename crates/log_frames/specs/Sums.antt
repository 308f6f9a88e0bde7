-- The sum of heads and frames.
use Rattle.std.specs.Prelude.{ℕ, ◌*◌, ◌%◌, ◌^◌, List, [], ◌∷◌, ◌++◌}
use Rattle.std.specs.Int.Bits.{bit_xor}
use Rattle.std.specs.Int.{w64, from_le_bytes, swap_bytes, to_le_bytes}

-- the initial sum of FNV-1a with 64 bits
abbrev pub basis : ℕ
basis = 14695981039346656037

-- a sum continued over a byte: FNV-1a
abbrev pub sum_step : ℕ → ℕ → ℕ
sum_step sum byte = (bit_xor sum byte * 1099511628211) % 2 ^ 64

-- a sum continued over bytes, one at a time
unfoldable pub sum_from : ℕ → List ℕ → ℕ
sum_from sum [] = sum
sum_from sum (byte ∷ bytes) = sum_from (sum_step sum byte) bytes

-- a sum continued over a word of eight bytes
abbrev pub word_step : ℕ → ℕ → ℕ
word_step sum word = swap_bytes w64 (sum_step sum word)

-- a sum continued over bytes, eight at a time, and the last ones, fewer than eight, one at a time
unfoldable pub sum_words : ℕ → List ℕ → ℕ
sum_words sum (a ∷ b ∷ c ∷ d ∷ e ∷ f ∷ g ∷ h ∷ bytes) = sum_words (word_step sum (from_le_bytes w64 (a ∷ b ∷ c ∷ d ∷ e ∷ f ∷ g ∷ h ∷ []))) bytes
sum_words sum bytes = sum_from sum bytes

-- bytes followed by a sum
unfoldable pub tagged : ℕ → List ℕ → List ℕ
tagged sum bytes = bytes ++ to_le_bytes w64 sum
