-- The bytes that a running hash, and the hashes of an upload, have taken in.
use Rattle.std.specs.Prelude.{◌≡◌, ◌≤◌, ◌++◌, ℕ, List, length, take, true}
use Rattle.sha2.specs.Hashers.{Holds256, Holds512}
use Rattle.spec_lib.specs.Texts.{Text}
use Rattle.blob_digest.specs.Digests.{hash_text}
use Rattle.blob_digest.specs.declared.algorithm.Algorithm.TheVariants.{Sha256, Sha512}
use Rattle.blob_digest.specs.declared.running.Running.{Running}
use Rattle.blob_digest.specs.declared.upload_hashes.UploadHashes.{UploadHashes}

-- the hash by each algorithm has taken in these bytes
unfoldable pub Hashes : Running → List ℕ → Type 0
Hashes running bytes = Holds256 running.sha256 bytes × Holds512 running.sha512 bytes

-- the new hash has taken in all bytes of the old one and then these
abbrev pub TakesIn : Running → Running → List ℕ → Type 0
TakesIn old new bytes = (before : List ℕ) → Hashes old before → Hashes new (before ++ bytes)

-- SHA-256 has taken in these bytes, and SHA-512 the first `through_sha512` of them: all of them if `is_through_both`
unfoldable pub HashesUpload : UploadHashes → List ℕ → Type 0
HashesUpload h bytes = Holds256 h.sha256 bytes × (h.through_sha512 ≤ length bytes) × Holds512 h.sha512 (take h.through_sha512 bytes)
    × (h.is_through_both ≡ true → h.through_sha512 ≡ length bytes)

-- the new hashes have taken in all bytes of the old ones and then these
abbrev pub UploadTakesIn : UploadHashes → UploadHashes → List ℕ → Type 0
UploadTakesIn old new bytes = (before : List ℕ) → HashesUpload old before → HashesUpload new (before ++ bytes)

-- whatever bytes the hashes have taken in, this is their digest by SHA-256
abbrev pub IsSha256Of : UploadHashes → Text → Type 0
IsSha256Of h digest = (bytes : List ℕ) → HashesUpload h bytes → digest ≡ hash_text Sha256 bytes

-- whatever bytes the hashes have taken in, this is their digest by SHA-512
abbrev pub IsSha512Of : UploadHashes → Text → Type 0
IsSha512Of h digest = (bytes : List ℕ) → HashesUpload h bytes → digest ≡ hash_text Sha512 bytes
