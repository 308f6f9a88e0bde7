-- Changes that a store does not write.
use Rattle.std.specs.Prelude.{◌≡◌, false}
use Rattle.blob_digest.specs.Digests.{is_digest_text}
use Rattle.log_records.specs.Changes.{BlobLinked, BlobNoted, BlobStored, BlobUnlinked, Change, ManifestDeleted, NumberSet, RepoAdded, SealNoted, SessionSealed}

-- the change is of a kind that a store does not write
abbrev pub IsForeign : Change → Type 0
IsForeign (RepoAdded repo) = Unit {0}
IsForeign (NumberSet tenant number) = Unit {0}
IsForeign (BlobStored digest bytes) = Unit {0}
IsForeign (BlobNoted tenant number digest notes) = Unit {0}
IsForeign change = ⊥

-- the change names a text that is no digest
abbrev pub HasInvalidDigest : Change → Type 0
HasInvalidDigest (SessionSealed tenant number digest last) = is_digest_text digest ≡ false
HasInvalidDigest (SealNoted tenant number digest notes) = is_digest_text digest ≡ false
HasInvalidDigest (BlobLinked repo digest) = is_digest_text digest ≡ false
HasInvalidDigest (BlobUnlinked repo digest) = is_digest_text digest ≡ false
HasInvalidDigest (ManifestDeleted repo digest) = is_digest_text digest ≡ false
HasInvalidDigest change = ⊥
