-- Sums, piece by piece.
use Rattle.std.proofs.Common.{◌≡◌, ◌≤◌, ◌<◌, ◌*◌, ℕ, zero, suc, List, [], ◌∷◌, ◌++◌, refl, arith, length, take, drop}
use Rattle.std.specs.Int.{w64, from_le_bytes}
use Rattle.log_frames.specs.Sums.{sum_from, sum_step, sum_words, word_step}

-- a sum goes on
pub sum_from-append : (sum : ℕ) (xs ys : List ℕ) → sum_from sum (xs ++ ys) ≡ sum_from (sum_from sum xs) ys
unfolding sum_from
sum_from-append sum [] ys = refl
sum_from-append sum (x ∷ xs) ys = sum_from-append (sum_step sum x) xs ys

-- eight bytes at a time, and less than eight at the end
pub words_step : (s : ℕ) (bytes : List ℕ) → 8 ≤ length bytes → sum_words s bytes ≡ sum_words (word_step s (from_le_bytes w64 (take 8 bytes))) (drop 8 bytes)
unfolding sum_words
words_step s (a ∷ b ∷ c ∷ d ∷ e ∷ f ∷ g ∷ h ∷ bytes) long = refl
words_step s bytes long = absurd (omega (arith, long))

pub words_end : (s : ℕ) (bytes : List ℕ) → length bytes < 8 → sum_words s bytes ≡ sum_from s bytes
unfolding sum_words
words_end s (a ∷ b ∷ c ∷ d ∷ e ∷ f ∷ g ∷ h ∷ bytes) short = absurd (omega (arith, short))
words_end s bytes short = refl

-- a sum goes on behind whole words
pub words_append : (k s : ℕ) (xs ys : List ℕ) → length xs ≡ 8 * k → sum_words s (xs ++ ys) ≡ sum_words (sum_words s xs) ys
unfolding sum_words sum_from
words_append zero s [] ys len = refl
words_append zero s (x ∷ xs) ys len = absurd (omega (arith, len))
words_append (suc k) s (a ∷ b ∷ c ∷ d ∷ e ∷ f ∷ g ∷ h ∷ xs) ys len = words_append k (word_step s (from_le_bytes w64 (a ∷ b ∷ c ∷ d ∷ e ∷ f ∷ g ∷ h ∷ []))) xs ys (omega (arith, len))
words_append (suc k) s xs ys len = absurd (omega (arith, len))
