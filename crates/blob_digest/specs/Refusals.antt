-- The printed text of a refusal.
use Rattle.std.specs.Prelude.{ℕ, List, ◌++◌, codes}
use Rattle.std.specs.Fmt.{decimal}
use Rattle.blob_digest.specs.declared.refusal.Refusal.{Refusal}
use Rattle.blob_digest.specs.declared.refusal.Refusal.TheVariants.{NameInvalid, DigestInvalid, NameUnknown, UploadUnknown, SizeInvalid, RangeInvalid, BlobUnknown, ManifestInvalid, ManifestUnknown, ManifestBlobUnknown, Quota, Referenced, StoreFull, TooManyReaders, LimitReached, WeightSpent, Memory, Busy, RepoInUse}

-- the text of a refusal: its name and its fields, numbers in decimal and digests as their texts
abbrev pub refusal_text : Refusal → List ℕ
refusal_text NameInvalid = codes "NameInvalid"
refusal_text DigestInvalid = codes "DigestInvalid"
refusal_text NameUnknown = codes "NameUnknown"
refusal_text UploadUnknown = codes "UploadUnknown"
refusal_text SizeInvalid = codes "SizeInvalid"
refusal_text (RangeInvalid received) = codes "RangeInvalid received " ++ decimal received
refusal_text BlobUnknown = codes "BlobUnknown"
refusal_text ManifestInvalid = codes "ManifestInvalid"
refusal_text ManifestUnknown = codes "ManifestUnknown"
refusal_text (ManifestBlobUnknown digest) = codes "ManifestBlobUnknown " ++ digest
refusal_text (Quota used quota) = codes "Quota used " ++ decimal used ++ codes " quota " ++ decimal quota
refusal_text (Referenced manifest) = codes "Referenced " ++ manifest
refusal_text StoreFull = codes "StoreFull"
refusal_text TooManyReaders = codes "TooManyReaders"
refusal_text LimitReached = codes "LimitReached"
refusal_text WeightSpent = codes "WeightSpent"
refusal_text Memory = codes "Memory"
refusal_text Busy = codes "Busy"
refusal_text RepoInUse = codes "RepoInUse"
