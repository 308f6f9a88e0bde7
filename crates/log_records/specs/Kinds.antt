-- The kinds of records.
use Rattle.std.specs.Prelude.{◌≡◌, ◌⊎◌, ◌<◌, ℕ, Bool, true, false}
use Rattle.log_records.specs.declared.kind.Kind.{Kind}
use Rattle.log_records.specs.declared.kind.Kind.TheVariants.{BlobLinked, BlobNoted, BlobStored, BlobUnlinked, ChunkNoted, ChunkReceived, ManifestDeleted, ManifestPut, NumberSet, RepoAdded, RepoRemoved, SealNoted, SessionDropped, SessionOpened, SessionSealed}

-- the number of a kind
abbrev pub kind_number : Kind → ℕ
kind_number RepoAdded = 1
kind_number SessionOpened = 2
kind_number ChunkReceived = 3
kind_number SessionSealed = 4
kind_number SessionDropped = 5
kind_number BlobLinked = 6
kind_number BlobUnlinked = 7
kind_number ManifestPut = 8
kind_number ManifestDeleted = 9
kind_number NumberSet = 10
kind_number BlobStored = 11
kind_number RepoRemoved = 12
kind_number ChunkNoted = 13
kind_number SealNoted = 14
kind_number BlobNoted = 15

-- a number of no kind
abbrev pub IsUnknown : ℕ → Type 0
IsUnknown number = (number ≡ 0) ⊎ (15 < number)

-- records of the kind have a name
abbrev pub uses_name : Kind → Bool
uses_name BlobStored = false
uses_name _ = true

-- records of the kind have a digest
abbrev pub uses_digest : Kind → Bool
uses_digest SessionSealed = true
uses_digest BlobLinked = true
uses_digest BlobUnlinked = true
uses_digest ManifestDeleted = true
uses_digest BlobStored = true
uses_digest SealNoted = true
uses_digest BlobNoted = true
uses_digest _ = false

-- records of the kind have a number
abbrev pub uses_number : Kind → Bool
uses_number SessionOpened = true
uses_number ChunkReceived = true
uses_number SessionSealed = true
uses_number SessionDropped = true
uses_number NumberSet = true
uses_number ChunkNoted = true
uses_number SealNoted = true
uses_number BlobNoted = true
uses_number _ = false

-- records of the kind have a body
abbrev pub uses_body : Kind → Bool
uses_body ChunkReceived = true
uses_body SessionSealed = true
uses_body ManifestPut = true
uses_body BlobStored = true
uses_body ChunkNoted = true
uses_body SealNoted = true
uses_body BlobNoted = true
uses_body _ = false
