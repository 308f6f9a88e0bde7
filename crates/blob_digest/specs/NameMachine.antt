-- The grammar of repository names as a test: a state machine that reads a name one byte at a time.
use Rattle.std.specs.Prelude.{◌≡◌, ◌⊎◌, ℕ, ◌==◌, ◌&&◌, Result, MatchResult, List, [], ◌∷◌, length, Bool, true, false, if◌then◌else◌, nat_le}
use Rattle.blob_digest.specs.Names.{is_alnum}
use Rattle.blob_digest.specs.declared.name.State.{State}
use Rattle.blob_digest.specs.declared.name.State.TheVariants.{Start as at_start, InRun as in_run, Dot as at_dot, Underscore as at_low, Underscores as at_lows, Dash as at_dash, Dead as dead}
use Rattle.blob_digest.specs.declared.refusal.Refusal.{Refusal}
use Rattle.blob_digest.specs.declared.refusal.Refusal.TheVariants.{NameInvalid, Memory}

-- the state after a byte that must be a lower-case letter or a digit
abbrev pub alnum_or_dead : ℕ → State
alnum_or_dead c = if is_alnum c then in_run else dead

-- the state after one more byte
abbrev pub next_state : State → ℕ → State
next_state at_start c = alnum_or_dead c
next_state in_run c = if is_alnum c then in_run else if c == 46 then at_dot else if c == 95 then at_low else if c == 45 then at_dash else if c == 47 then at_start else dead
next_state at_dot c = alnum_or_dead c
next_state at_low c = if c == 95 then at_lows else alnum_or_dead c
next_state at_lows c = alnum_or_dead c
next_state at_dash c = if c == 45 then at_dash else alnum_or_dead c
next_state dead c = dead

-- whether a name may end in the state
abbrev pub is_end : State → Bool
is_end in_run = true
is_end at_start = false
is_end at_dot = false
is_end at_low = false
is_end at_lows = false
is_end at_dash = false
is_end dead = false

-- whether a name may end after the bytes, which the machine reads from state `s`
abbrev pub is_accepted_from : State → List ℕ → Bool
is_accepted_from s [] = is_end s
is_accepted_from s (c ∷ rest) = is_accepted_from (next_state s c) rest

-- whether the text is a repository's name
abbrev pub is_repo_name : List ℕ → Bool
is_repo_name text = is_accepted_from at_start text && nat_le (length text) 255

-- the refusal is `NameInvalid` of a text that fails the test, or `Memory` of one that passes
abbrev pub IsTestedRefusal : List ℕ → Refusal → Type 0
IsTestedRefusal text e = ((e ≡ NameInvalid) × (is_repo_name text ≡ false)) ⊎ ((e ≡ Memory) × (is_repo_name text ≡ true))

-- the result is a value for a text that passes the test, or a refusal by the test
abbrev pub AgreesWithTest : {A : Type 0} → List ℕ → Result A Refusal → Type 0
AgreesWithTest text result = MatchResult result (λ _. is_repo_name text ≡ true) (λ e. IsTestedRefusal text e)
