-- The grammar of a digest's text and its test.
use Rattle.std.proofs.Math.Seq.{drop-append_seam, take-append_seam}
use Rattle.std.proofs.lemmas.Slice.Eq.{bytes_eq-Decides}
use Rattle.std.proofs.lemmas.Bool.{or_right, and_parts, cases_lt, eq-eqb}
use Rattle.std.proofs.Common.{length-append, sym, false, nat_eq, ◌||◌, ◌+◌, ◌⊎◌, ◌≡◌, ℕ, zero, suc, ◌*◌, ◌/◌, ◌%◌, ◌<◌, ◌≤◌, Bool, true, ◌&&◌, inl, inr, List, [], ◌∷◌, ◌++◌, codes, length, slice_index, drop, refl, ap, ◌∙◌, arith}
use Rattle.std.specs.List.{starts_with, list_all}
use Rattle.std.proofs.lemmas.List.Sums.{list_all-from_AllPass, AllPass-from_list_all}
use Rattle.hex.specs.Hex.{IsBytes, encode_lower, encode_with, lower_digits}
use Rattle.hex.proofs.HexLemmas.{length-encode_with}
use Rattle.blob_digest.specs.Digests.{IsSpelled, is_spelled, IsDigestText, is_digest_text, is_lower_hex}
use Rattle.blob_digest.specs.Checksums.{IsChecksum, text_of, value_of}
use Rattle.blob_digest.specs.declared.checksum.Checksum.{Checksum}
use Rattle.blob_digest.specs.declared.checksum.Checksum.TheVariants.{Sha256, Sha512}
use Rattle.blob_digest.proofs.HexText.{whole_of}

-- a text that is spelled by a name passes the test
spelled_passes : (name text : List ℕ) (n : ℕ) → length name ≡ 7 → IsSpelled name n text → is_spelled name n text ≡ true
spelled_passes name text n seven h =
    let size : length (name ++ h.0) ≡ 7 + n = omega (arith, length-append name h.0, h.2, seven) in
    let front : starts_with nat_eq (name ++ h.0) name ≡ true = rw (take-append_seam name h.0) ((bytes_eq-Decides name name).1 refl) in
    let rest : drop 7 (name ++ h.0) ≡ h.0 = sym (ap (λ k. drop k (name ++ h.0)) seven) ∙ drop-append_seam name h.0 in
    let whole : is_spelled name n (name ++ h.0) ≡ true = rw (size, front, rest, eq-eqb (7 + n) (7 + n) refl) (list_all-from_AllPass is_lower_hex h.0 h.3) in
    rw h.1 whole

passes_spelled : (name text : List ℕ) (n : ℕ) → length name ≡ 7 → is_spelled name (2 * n) text ≡ true → IsSpelled name (2 * n) text
passes_spelled name text n seven h = let w = whole_of name text n seven h in (drop 7 text, w.0, w.1, w.2)

-- one of two tests holds
either : (a b : Bool) → (a || b) ≡ true → (a ≡ true) ⊎ (b ≡ true)
either true b h = inl refl
either false b h = inr h

-- a text of the grammar passes the test
pub grammar_passes : (text : List ℕ) → IsDigestText text → is_digest_text text ≡ true
grammar_passes text (inl h) = rw (spelled_passes (codes "sha256:") text 64 refl h) refl
grammar_passes text (inr h) = or_right (is_spelled (codes "sha256:") 64 text) (is_spelled (codes "sha512:") 128 text) (spelled_passes (codes "sha512:") text 128 refl h)

-- a text that passes the test has the grammar
pub passes_grammar : (text : List ℕ) → is_digest_text text ≡ true → IsDigestText text
passes_grammar text h = elim (either (is_spelled (codes "sha256:") 64 text) (is_spelled (codes "sha512:") 128 text) h) [
  | inl x ↦ inl (passes_spelled (codes "sha256:") text 32 refl x)
  | inr x ↦ inr (passes_spelled (codes "sha512:") text 64 refl x)
]

abbrev all_lower : ℕ → Bool
all_lower zero = true
all_lower (suc n) = is_lower_hex (slice_index lower_digits n) && all_lower n

all_lower-at : (n k : ℕ) → all_lower n ≡ true → k < n → is_lower_hex (slice_index lower_digits k) ≡ true
all_lower-at zero k h lt = absurd (omega arith)
all_lower-at (suc n) k h lt =
    let parts = and_parts (is_lower_hex (slice_index lower_digits n)) (all_lower n) h in
    elim (cases_lt k n) [
      | inl below ↦ all_lower-at n k parts.1 below
      | inr top ↦
          let e : k ≡ n = omega arith in
          rw e parts.0
    ]

-- hex text has only lower-case digits
pub encoded_lower : (xs : List ℕ) → IsBytes xs → list_all is_lower_hex (encode_lower xs) ≡ true
unfolding encode_with
encoded_lower [] h = refl
encoded_lower (x ∷ xs) h =
    let bx : x < 256 = h 0 in
    rw (all_lower-at 16 (x / 16) refl (omega arith), all_lower-at 16 (x % 16) refl (omega arith)) (encoded_lower xs (λ i. h (suc i)))

spelled : (name value : List ℕ) (n : ℕ) → length value ≡ n → IsBytes value → IsSpelled name (2 * n) (name ++ encode_lower value)
spelled name value n h bytes =
    (encode_lower value, refl, length-encode_with lower_digits value ∙ ap (λ k. 2 * k) h, AllPass-from_list_all is_lower_hex (encode_lower value) (encoded_lower value bytes))

-- the text of a digest has the grammar
pub text_of-grammar : (s : Checksum) → IsChecksum s → IsDigestText (text_of s)
text_of-grammar (Sha256 value) h = inl (spelled (codes "sha256:") value 32 h.0 h.1)
text_of-grammar (Sha512 value) h = inr (spelled (codes "sha512:") value 64 h.0 h.1)

-- no algorithm computes more than 64 bytes
pub value-fits : (s : Checksum) → IsChecksum s → length (value_of s) ≤ 64
value-fits (Sha256 value) h = omega (arith, h.0)
value-fits (Sha512 value) h = omega (arith, h.0)
