-- What a sink takes that stops at a number of bytes.
use Rattle.std.specs.Prelude.{◌≡◌, ℕ, ◌+◌, ◌<◌, List, Option, IfSome, length, take}

-- a sink: the number of bytes that are missing, and the part of the refused payload that was kept
abbrev pub PrefixView : Type 0
PrefixView = ℕ × Option (List ℕ)

-- the whole payload was missing
pub record TakesAll (old : PrefixView) (payload : List ℕ) (new : PrefixView) : Type 0 where
  pub missing : old.0 ≡ length payload + new.0
  pub part : new.1 ≡ old.1

-- only the first bytes of the payload are missing, and they are kept
pub record RefusesLonger (old : PrefixView) (payload : List ℕ) (new : PrefixView) : Type 0 where
  pub longer : old.0 < length payload
  pub missing : new.0 ≡ old.0
  pub part : IfSome new.1 (λ bytes. bytes ≡ take old.0 payload)
