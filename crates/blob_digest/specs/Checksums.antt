-- An algorithm with its value, and the text of the two.
use Rattle.std.specs.Prelude.{◌≡◌, ℕ, List, [], ◌++◌, length, codes, drop, nat_eq, if◌then◌else◌}
use Rattle.std.proofs.Common.{ap}
use Rattle.std.specs.List.{starts_with}
use Rattle.std.specs.Result.{result_unwrap_or}
use Rattle.hex.specs.Hex.{IsBytes, decode_sized, encode_lower}
use Rattle.hex.proofs.HexLemmas.{decode_sized-encode_lower}
use Rattle.blob_digest.specs.declared.algorithm.Algorithm.{Algorithm}
use Rattle.blob_digest.specs.declared.algorithm.Algorithm.TheVariants as algorithm
use Rattle.blob_digest.specs.declared.checksum.Checksum.{Checksum}
use Rattle.blob_digest.specs.declared.checksum.Checksum.TheVariants.{Sha256, Sha512}

-- the algorithm of a checksum
abbrev pub checksum_algorithm : Checksum → Algorithm
checksum_algorithm (Sha256 value) = algorithm.Sha256
checksum_algorithm (Sha512 value) = algorithm.Sha512

-- the value of a checksum, in bytes
abbrev pub value_of : Checksum → List ℕ
value_of (Sha256 value) = value
value_of (Sha512 value) = value

-- the name of the algorithm and a colon
abbrev pub prefix_of : Checksum → List ℕ
prefix_of (Sha256 value) = codes "sha256:"
prefix_of (Sha512 value) = codes "sha512:"

-- the length of the value that the algorithm computes, in bytes
abbrev pub size_of : Checksum → ℕ
size_of (Sha256 value) = 32
size_of (Sha512 value) = 64

-- the text of a checksum: the name of the algorithm, a colon, and the value in lower-case hexadecimal
abbrev pub text_of : Checksum → List ℕ
text_of s = prefix_of s ++ encode_lower (value_of s)

-- the value is bytes, of the length that the algorithm computes
abbrev pub IsChecksum : Checksum → Type 0
IsChecksum s = (length (value_of s) ≡ size_of s) × IsBytes (value_of s)

-- the bytes that `n` pairs of hexadecimal digits encode
abbrev pub decoded_value : List ℕ → ℕ → List ℕ
decoded_value text n = result_unwrap_or (decode_sized text n) []

-- the checksum that a text encodes
abbrev pub checksum_of : List ℕ → Checksum
checksum_of text = if starts_with nat_eq text (codes "sha256:") then Sha256 (decoded_value (drop 7 text) 32) else Sha512 (decoded_value (drop 7 text) 64)

-- the text of a checksum encodes that checksum
pub checksum_of-text_of : (s : Checksum) → IsChecksum s → checksum_of (text_of s) ≡ s
checksum_of-text_of (Sha256 value) h = ap (λ r. Sha256 (result_unwrap_or r [])) (decode_sized-encode_lower value 32 h.0 h.1)
checksum_of-text_of (Sha512 value) h = ap (λ r. Sha512 (result_unwrap_or r [])) (decode_sized-encode_lower value 64 h.0 h.1)
