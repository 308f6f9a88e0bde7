-- The changes that records describe, and the parts of their records.
use Rattle.std.specs.Prelude.{◌<◌, ◌≤◌, ◌^◌, ℕ, List, [], length}
use Rattle.log_records.specs.declared.change.Change.{Change as BorrowedChange}
use Rattle.log_records.specs.declared.change.Change.TheVariants as borrowed
use Rattle.log_records.specs.declared.kind.Kind.{Kind}
use Rattle.log_records.specs.declared.kind.Kind.TheVariants as kind
use Rattle.log_records.specs.declared.parts.Parts.{Parts as BorrowedParts}

-- a change of a store; names, digests and contents are lists of bytes
pub data Change : Type 0 where
  -- a repository of this name was added
  RepoAdded : List ℕ → Change
  -- a session of this number was opened in a repository
  SessionOpened : List ℕ → ℕ → Change
  -- a tenant's session of this number received a chunk
  ChunkReceived : List ℕ → ℕ → List ℕ → Change
  -- a tenant's session of this number became, with its last bytes, a blob of this digest
  SessionSealed : List ℕ → ℕ → List ℕ → List ℕ → Change
  -- a tenant's session of this number was abandoned
  SessionDropped : List ℕ → ℕ → Change
  -- a blob of this digest was linked into a repository
  BlobLinked : List ℕ → List ℕ → Change
  -- the link of this blob in a repository was removed
  BlobUnlinked : List ℕ → List ℕ → Change
  -- a manifest was stored in a repository
  ManifestPut : List ℕ → List ℕ → Change
  -- the manifest of this digest was deleted from a repository
  ManifestDeleted : List ℕ → List ℕ → Change
  -- the next session of a tenant has this number
  NumberSet : List ℕ → ℕ → Change
  -- a blob of this digest and these bytes was stored
  BlobStored : List ℕ → List ℕ → Change
  -- the repository of this name was removed
  RepoRemoved : List ℕ → Change
  -- a tenant's session of this number received a chunk with these notes
  ChunkNoted : List ℕ → ℕ → List ℕ → Change
  -- a tenant's session of this number became, with last bytes of these notes, a blob of this digest
  SealNoted : List ℕ → ℕ → List ℕ → List ℕ → Change
  -- a blob of this digest and these notes was stored, in the file of a tenant's session of this number
  BlobNoted : List ℕ → ℕ → List ℕ → List ℕ → Change

-- a borrowed change, without its place in memory
abbrev pub change_view : BorrowedChange → Change
change_view (borrowed.RepoAdded repo) = RepoAdded repo.now
change_view (borrowed.SessionOpened repo number) = SessionOpened repo.now number
change_view (borrowed.ChunkReceived tenant number bytes) = ChunkReceived tenant.now number bytes.now
change_view (borrowed.SessionSealed tenant number digest last) = SessionSealed tenant.now number digest.now last.now
change_view (borrowed.SessionDropped tenant number) = SessionDropped tenant.now number
change_view (borrowed.BlobLinked repo digest) = BlobLinked repo.now digest.now
change_view (borrowed.BlobUnlinked repo digest) = BlobUnlinked repo.now digest.now
change_view (borrowed.ManifestPut repo bytes) = ManifestPut repo.now bytes.now
change_view (borrowed.ManifestDeleted repo digest) = ManifestDeleted repo.now digest.now
change_view (borrowed.NumberSet tenant number) = NumberSet tenant.now number
change_view (borrowed.BlobStored digest bytes) = BlobStored digest.now bytes.now
change_view (borrowed.RepoRemoved repo) = RepoRemoved repo.now
change_view (borrowed.ChunkNoted tenant number notes) = ChunkNoted tenant.now number notes.now
change_view (borrowed.SealNoted tenant number digest notes) = SealNoted tenant.now number digest.now notes.now
change_view (borrowed.BlobNoted tenant number digest notes) = BlobNoted tenant.now number digest.now notes.now

-- the parts of a record
pub record Parts : Type 0 where
  pub kind : Kind
  pub name : List ℕ
  pub digest : List ℕ
  pub number : ℕ
  pub body : List ℕ

abbrev pub parts_view : BorrowedParts → Parts
parts_view p = record { kind = p.kind; name = p.name.now; digest = p.digest.now; number = p.number; body = p.body.now }

abbrev pub parts : Kind → List ℕ → List ℕ → ℕ → List ℕ → Parts
parts kind name digest number body = record { kind = kind; name = name; digest = digest; number = number; body = body }

-- the parts of a change's record
abbrev pub parts_of : Change → Parts
parts_of (RepoAdded repo) = parts kind.RepoAdded repo [] 0 []
parts_of (SessionOpened repo number) = parts kind.SessionOpened repo [] number []
parts_of (ChunkReceived tenant number bytes) = parts kind.ChunkReceived tenant [] number bytes
parts_of (SessionSealed tenant number digest last) = parts kind.SessionSealed tenant digest number last
parts_of (SessionDropped tenant number) = parts kind.SessionDropped tenant [] number []
parts_of (BlobLinked repo digest) = parts kind.BlobLinked repo digest 0 []
parts_of (BlobUnlinked repo digest) = parts kind.BlobUnlinked repo digest 0 []
parts_of (ManifestPut repo bytes) = parts kind.ManifestPut repo [] 0 bytes
parts_of (ManifestDeleted repo digest) = parts kind.ManifestDeleted repo digest 0 []
parts_of (NumberSet tenant number) = parts kind.NumberSet tenant [] number []
parts_of (BlobStored digest bytes) = parts kind.BlobStored [] digest 0 bytes
parts_of (RepoRemoved repo) = parts kind.RepoRemoved repo [] 0 []
parts_of (ChunkNoted tenant number notes) = parts kind.ChunkNoted tenant [] number notes
parts_of (SealNoted tenant number digest notes) = parts kind.SealNoted tenant digest number notes
parts_of (BlobNoted tenant number digest notes) = parts kind.BlobNoted tenant digest number notes

-- the change of a kind with these fields; a field that the kind does not use is ignored
abbrev pub change_with : Kind → List ℕ → List ℕ → ℕ → List ℕ → Change
change_with kind.RepoAdded name digest number body = RepoAdded name
change_with kind.SessionOpened name digest number body = SessionOpened name number
change_with kind.ChunkReceived name digest number body = ChunkReceived name number body
change_with kind.SessionSealed name digest number body = SessionSealed name number digest body
change_with kind.SessionDropped name digest number body = SessionDropped name number
change_with kind.BlobLinked name digest number body = BlobLinked name digest
change_with kind.BlobUnlinked name digest number body = BlobUnlinked name digest
change_with kind.ManifestPut name digest number body = ManifestPut name body
change_with kind.ManifestDeleted name digest number body = ManifestDeleted name digest
change_with kind.NumberSet name digest number body = NumberSet name number
change_with kind.BlobStored name digest number body = BlobStored digest body
change_with kind.RepoRemoved name digest number body = RepoRemoved name
change_with kind.ChunkNoted name digest number body = ChunkNoted name number body
change_with kind.SealNoted name digest number body = SealNoted name number digest body
change_with kind.BlobNoted name digest number body = BlobNoted name number digest body

abbrev pub change_of : Parts → Change
change_of p = change_with p.kind p.name p.digest p.number p.body

-- the maximum length of a body
abbrev pub max_body : ℕ
max_body = 1099511627776

-- parts that fit into a record
pub record HaveRoom (p : Parts) : Type 0 where
  pub name : length p.name < 2 ^ 16
  pub digest : length p.digest < 2 ^ 16
  pub number : p.number < 2 ^ 64
  pub body : length p.body ≤ max_body

-- a change that fits into a record
abbrev pub IsChange : Change → Type 0
IsChange c = HaveRoom (parts_of c)
