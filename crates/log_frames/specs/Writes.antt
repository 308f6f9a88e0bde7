-- The bytes of a writer after a write that may have failed.
use Rattle.std.specs.Prelude.{◌≡◌, List, ℕ, ◌++◌, MatchResult, Result}
use Rattle.std.specs.Io.KnownBytes.{Appends}
use Rattle.std.specs.declared.option.Option.{Option}

-- some first part of these bytes was appended
pub record AppendsPart (old new : Option (List ℕ)) (bytes : List ℕ) : Type 0 where
  pub part : List ℕ
  pub rest : List ℕ
  pub whole : bytes ≡ part ++ rest
  pub appended : Appends old new part

-- `Ok`: the bytes were appended; `Err`: some first part of them
abbrev pub Puts : {A E : Type 0} → Result A E → Option (List ℕ) → Option (List ℕ) → List ℕ → Type 0
Puts result old new bytes = MatchResult result (λ _. Appends old new bytes) (λ _. AppendsPart old new bytes)
