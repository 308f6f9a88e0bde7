-- The view of contracts on a reader that remembers whether a read of it failed.
use Rattle.std.specs.Prelude.{◌≡◌, ℕ, Bool, true, List, Option, Result, MatchResult}
use Rattle.std.specs.Io.KnownBytes.{ReadConsumes}
use Rattle.watched_reader.specs.declared.watched.Watched.{Watched}

-- the reader underneath
abbrev pub inner_of : {R : Type 0} → Watched R → R
inner_of w = w.inner

-- whether a read of the reader failed
abbrev pub has_failed : {R : Type 0} → Watched R → Bool
has_failed w = w.failed

-- no read of the reader failed between the two states
abbrev pub HasNotFailed : {R : Type 0} → Watched R → Watched R → Type 0
HasNotFailed old new = has_failed new ≡ has_failed old

-- a call that fails sets `has_failed`, and one that succeeds leaves it unchanged
abbrev pub RemembersFailure : {A E R : Type 0} → Watched R → Watched R → Result A E → Type 0
RemembersFailure old new result = MatchResult result (λ _. HasNotFailed old new) (λ _. has_failed new ≡ true)

-- the bytes read are those that the reader underneath had next, if `remaining` knows them
abbrev pub ReadsFrom : {E R : Type 0} → (R → Option (List ℕ)) → Watched R → Watched R → Result ℕ E → List ℕ → Type 0
ReadsFrom remaining old new result bytes = ReadConsumes (remaining (inner_of old)) (remaining (inner_of new)) result bytes
