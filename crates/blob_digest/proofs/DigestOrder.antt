-- The texts of digests are ordered as the values of the digests.
use Rattle.std.proofs.Common.{Ordering, ◌≡◌, ℕ, zero, suc, ◌+◌, ◌/◌, ◌%◌, ◌<◌, ◌==◌, Bool, true, ◌&&◌, nat_le, if◌then◌else◌, inl, inr, List, [], ◌∷◌, slice_index, refl, sym, ap, ◌∙◌, arith, bytes_eq}
use Rattle.std.proofs.lemmas.Bool.{and_parts, cases_lt, eqb-true}
use Rattle.std.proofs.lemmas.Bool.Decides.{nat_tests}
use Rattle.std.specs.Ordering.{nat_cmp, ordering_then, is_eq}
use Rattle.std.specs.Cmp.Lexicographic.{slice_cmp, texts_ties}
use Rattle.hex.specs.Hex.{IsBytes, encode_lower, encode_with, lower_digits}
use Rattle.blob_digest.specs.Checksums.{IsChecksum, text_of}
use Rattle.blob_digest.specs.declared.checksum.Checksum.{Checksum}
use Rattle.blob_digest.specs.declared.checksum.Checksum.TheVariants.{Sha256, Sha512}
use Rattle.blob_digest.specs.contracts.checksum.ChecksumPartialEq.TheImpl as checksum_eq
use Rattle.spec_lib.proofs.Sorted.{nat_cmp-equal, nat_cmp-greater, nat_cmp-less}

-- the digit of a value below sixteen
abbrev char_of : ℕ → ℕ
char_of k = if nat_le k 9 then k + 48 else k + 87

abbrev all_chars : ℕ → Bool
all_chars zero = true
all_chars (suc n) = (slice_index lower_digits n == char_of n) && all_chars n

all_chars-at : (n k : ℕ) → all_chars n ≡ true → k < n → slice_index lower_digits k ≡ char_of k
all_chars-at zero k h lt = absurd (omega arith)
all_chars-at (suc n) k h lt =
    let parts = and_parts (slice_index lower_digits n == char_of n) (all_chars n) h in
    elim (cases_lt k n) [
      | inl below ↦ all_chars-at n k parts.1 below
      | inr top ↦
          let e : k ≡ n = omega arith in
          rw e (eqb-true (slice_index lower_digits n) (char_of n) parts.0)
    ]

digit_is : (k : ℕ) → k < 16 → slice_index lower_digits k ≡ char_of k
digit_is k lt = all_chars-at 16 k refl lt

char_cmp : (x y : ℕ) → nat_cmp (char_of x) (char_of y) ≡ nat_cmp x y
char_cmp x y = grind (arith, nat_tests)

digit_cmp : (x y : ℕ) → x < 16 → y < 16 → nat_cmp (slice_index lower_digits x) (slice_index lower_digits y) ≡ nat_cmp x y
digit_cmp x y hx hy = rw (digit_is x hx, digit_is y hy) (char_cmp x y)

-- the digits of two bytes compare as the bytes
pair_cmp : (a b : ℕ) (o : Ordering) → ordering_then (nat_cmp (a / 16) (b / 16)) (ordering_then (nat_cmp (a % 16) (b % 16)) o) ≡ ordering_then (nat_cmp a b) o
pair_cmp a b o = elim (cases_lt (a / 16) (b / 16)) [
  | inl h ↦ rw (nat_cmp-less (a / 16) (b / 16) h, nat_cmp-less a b (omega arith)) refl
  | inr ge ↦ elim (cases_lt (b / 16) (a / 16)) [
    | inl h ↦ rw (nat_cmp-greater (a / 16) (b / 16) h, nat_cmp-greater a b (omega arith)) refl
    | inr le ↦ elim (cases_lt (a % 16) (b % 16)) [
      | inl h ↦ rw (nat_cmp-equal (a / 16) (b / 16) (omega arith), nat_cmp-less (a % 16) (b % 16) h, nat_cmp-less a b (omega arith)) refl
      | inr more_or_tied ↦ elim (cases_lt (b % 16) (a % 16)) [
        | inl h ↦ rw (nat_cmp-equal (a / 16) (b / 16) (omega arith), nat_cmp-greater (a % 16) (b % 16) h, nat_cmp-greater a b (omega arith)) refl
        | inr same ↦ rw (nat_cmp-equal (a / 16) (b / 16) (omega arith), nat_cmp-equal (a % 16) (b % 16) (omega arith), nat_cmp-equal a b (omega arith)) refl
      ]
    ]
  ]
]

-- hex texts are ordered as their bytes
pub encoded_cmp : (xs ys : List ℕ) → IsBytes xs → IsBytes ys → slice_cmp nat_cmp (encode_lower xs) (encode_lower ys) ≡ slice_cmp nat_cmp xs ys
unfolding encode_with
encoded_cmp [] [] hx hy = refl
encoded_cmp [] (y ∷ ys) hx hy = refl
encoded_cmp (x ∷ xs) [] hx hy = refl
encoded_cmp (x ∷ xs) (y ∷ ys) hx hy =
    let bx : x < 256 = hx 0 in
    let by : y < 256 = hy 0 in
    let ih = encoded_cmp xs ys (λ i. hx (suc i)) (λ i. hy (suc i)) in
    let high = digit_cmp (x / 16) (y / 16) (omega arith) (omega arith) in
    let low = digit_cmp (x % 16) (y % 16) (omega arith) (omega arith) in
    rw (high, low, ih) (pair_cmp x y (slice_cmp nat_cmp xs ys))

-- hex texts are equal if and only if their bytes are equal
same_digits : (a b : List ℕ) → IsBytes a → IsBytes b → bytes_eq (encode_lower a) (encode_lower b) ≡ bytes_eq a b
same_digits a b ha hb = texts_ties (encode_lower a) (encode_lower b) ∙ ap is_eq (encoded_cmp a b ha hb) ∙ sym (texts_ties a b)

-- texts are equal if and only if their checksums are equal
pub text_eq : (a b : Checksum) → IsChecksum a → IsChecksum b → bytes_eq (text_of a) (text_of b) ≡ checksum_eq.eq-value.it a b
text_eq (Sha256 a) (Sha256 b) ha hb = same_digits a b ha.1 hb.1
text_eq (Sha256 a) (Sha512 b) ha hb = refl
text_eq (Sha512 a) (Sha256 b) ha hb = refl
text_eq (Sha512 a) (Sha512 b) ha hb = same_digits a b ha.1 hb.1
