-- The replies of a connection, byte by byte.
use Rattle.std.specs.Prelude.{◌≡◌, ◌⊎◌, ℕ, List, [], ◌++◌, length, Option, Result, OnOk}
use Rattle.std.specs.Io.KnownBytes.{Appends}
use Rattle.std.specs.Int.{w32, w64, to_le_bytes}
use Rattle.blob_digest.specs.declared.refusal.Refusal.{Refusal}
use Rattle.blob_digest.specs.declared.refusal.Refusal.TheVariants.{NameInvalid, DigestInvalid, NameUnknown, UploadUnknown, SizeInvalid, RangeInvalid, BlobUnknown, ManifestInvalid, ManifestUnknown, ManifestBlobUnknown, Quota, Referenced, StoreFull, TooManyReaders, LimitReached, WeightSpent, Memory, Busy, RepoInUse}

-- a reply: a status, two numbers, the text of a digest, and a body
pub record Reply : Type 0 where
  pub status : ℕ
  pub first : ℕ
  pub second : ℕ
  pub digest : List ℕ
  pub body : List ℕ

-- the frame of a reply: a head of 32 bytes, the digest, and the body
unfoldable pub reply_bytes : Reply → List ℕ
reply_bytes r = to_le_bytes w32 r.status ++ to_le_bytes w32 (length r.digest) ++ to_le_bytes w64 r.first ++ to_le_bytes w64 r.second ++ to_le_bytes w64 (length r.body) ++ r.digest ++ r.body

-- the reply with a status and two numbers
abbrev pub numbers_reply : ℕ → ℕ → ℕ → Reply
numbers_reply status first second = record { status = status; first = first; second = second; digest = []; body = [] }

-- the reply with a status and a digest
abbrev pub digest_reply : ℕ → List ℕ → Reply
digest_reply status digest = record { status = status; first = 0; second = 0; digest = digest; body = [] }

-- the reply that reports a refusal
abbrev pub refusal_reply : Refusal → Reply
refusal_reply NameInvalid = numbers_reply 1 0 0
refusal_reply DigestInvalid = numbers_reply 2 0 0
refusal_reply NameUnknown = numbers_reply 3 0 0
refusal_reply UploadUnknown = numbers_reply 4 0 0
refusal_reply SizeInvalid = numbers_reply 5 0 0
refusal_reply (RangeInvalid received) = numbers_reply 6 received 0
refusal_reply BlobUnknown = numbers_reply 7 0 0
refusal_reply ManifestInvalid = numbers_reply 8 0 0
refusal_reply ManifestUnknown = numbers_reply 9 0 0
refusal_reply (ManifestBlobUnknown digest) = digest_reply 10 digest
refusal_reply (Quota used quota) = numbers_reply 11 used quota
refusal_reply (Referenced manifest) = digest_reply 12 manifest
refusal_reply StoreFull = numbers_reply 13 0 0
refusal_reply TooManyReaders = numbers_reply 14 0 0
refusal_reply LimitReached = numbers_reply 15 0 0
refusal_reply WeightSpent = numbers_reply 16 0 0
refusal_reply Memory = numbers_reply 17 0 0
refusal_reply Busy = numbers_reply 18 0 0
refusal_reply RepoInUse = numbers_reply 19 0 0

-- the reply that reports out of memory
abbrev pub memory_reply : Reply
memory_reply = refusal_reply Memory

-- the reply reports the refusal, or `Memory` in place of a refusal that has a digest
abbrev pub ReportsRefusal : Refusal → Reply → Type 0
ReportsRefusal (ManifestBlobUnknown digest) reply = (reply ≡ digest_reply 10 digest) ⊎ (reply ≡ memory_reply)
ReportsRefusal (Referenced manifest) reply = (reply ≡ digest_reply 12 manifest) ⊎ (reply ≡ memory_reply)
ReportsRefusal refusal reply = reply ≡ refusal_reply refusal

-- ---- the frames that a call writes; `contents` gives the bytes that a writer has received, if they are known

-- the call appends the reply's frame
abbrev pub Writes : {W : Type 0} → (W → Option (List ℕ)) → W → W → Reply → Type 0
Writes contents old new reply = Appends (contents old) (contents new) (reply_bytes reply)

-- a call that returns `Ok` appends the reply's frame
abbrev pub Sends : {A E W : Type 0} → Result A E → (W → Option (List ℕ)) → W → W → Reply → Type 0
Sends result contents old new reply = OnOk result (Writes contents old new reply)

-- a call that returns `Ok` appends the frame of the reply with these fields
abbrev pub SendsParts : {A E W : Type 0} → Result A E → (W → Option (List ℕ)) → W → W → ℕ → ℕ → ℕ → List ℕ → List ℕ → Type 0
SendsParts result contents old new status first second digest body = Sends result contents old new (record { status = status; first = first; second = second; digest = digest; body = body })

-- a call that returns `Ok` appends the frame of a reply that reports the refusal
abbrev pub SendsRefusal : {A E W : Type 0} → Result A E → (W → Option (List ℕ)) → W → W → Refusal → Type 0
SendsRefusal result contents old new refusal = OnOk result ((reply : Reply) × ReportsRefusal refusal reply × Writes contents old new reply)

-- a call that returns `Ok` appends the frame of a reply with this digest, or of `Memory`
abbrev pub SendsDigest : {A E W : Type 0} → Result A E → (W → Option (List ℕ)) → W → W → ℕ → List ℕ → Type 0
SendsDigest result contents old new status digest = OnOk result (Writes contents old new (digest_reply status digest) ⊎ Writes contents old new memory_reply)
