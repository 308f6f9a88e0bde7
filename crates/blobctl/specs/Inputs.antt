-- The longest script, and how a reader gives its bytes.
use Rattle.std.specs.Prelude.{◌≡◌, ◌⊎◌, ℕ, List, ◌<◌, ◌≤◌, length, take, true, Option}
use Rattle.std.specs.Io.KnownBytes.{Consumes}
use Rattle.watched_reader.specs.Watching.{HasNotFailed, has_failed, inner_of}
use Rattle.watched_reader.specs.declared.watched.Watched.{Watched}
use Rattle.blobctl.specs.declared.fault.Fault.{Fault}
use Rattle.blobctl.specs.declared.fault.Fault.TheVariants.{Read, Memory}

-- the longest script, in bytes
abbrev pub max_script : ℕ
max_script = 268435456

-- no more than `n` bytes were taken
abbrev pub TakesAtMost : Option (List ℕ) → Option (List ℕ) → ℕ → Type 0
TakesAtMost old new n = (taken : List ℕ) × Consumes old new taken × (length taken ≤ n)

-- more bytes were taken than a script may have
abbrev pub IsTooLong : Option (List ℕ) → Option (List ℕ) → Type 0
IsTooLong old new = (taken : List ℕ) × Consumes old new taken × (max_script < length taken)

-- the reader gave at most `n` bytes
abbrev pub GaveAtMost : {R : Type 0} → (R → Option (List ℕ)) → Watched R → Watched R → ℕ → Type 0
GaveAtMost remaining old new n = TakesAtMost (remaining (inner_of old)) (remaining (inner_of new)) n

-- the reader gave the first `n` bytes of the buffer
abbrev pub GaveFront : {R : Type 0} → (R → Option (List ℕ)) → Watched R → Watched R → List ℕ → ℕ → Type 0
GaveFront remaining old new buffer n = Consumes (remaining (inner_of old)) (remaining (inner_of new)) (take n buffer)

-- memory ran out and no read failed, or a read failed
abbrev pub ExplainsOneRead : {R : Type 0} → Watched R → Watched R → Fault → Type 0
ExplainsOneRead old new e = ((e ≡ Memory) × HasNotFailed old new) ⊎ ((e ≡ Read) × (has_failed new ≡ true))

-- memory ran out and no read failed, or a read failed or the script is too long
abbrev pub ExplainsUnread : {R : Type 0} → (R → Option (List ℕ)) → Watched R → Watched R → Fault → Type 0
ExplainsUnread remaining old new e =
    ((e ≡ Memory) × HasNotFailed old new)
    ⊎ ((e ≡ Read) × ((has_failed new ≡ true) ⊎ IsTooLong (remaining (inner_of old)) (remaining (inner_of new))))
