-- Bytes taken from a reader piece by piece.
use Rattle.std.proofs.Common.{◌≡◌, ◌≤◌, ◌+◌, ◌++◌, ℕ, List, Option, length, arith, length-append}
use Rattle.std.proofs.KnownBytes.{Consumes-trans}
use Rattle.std.specs.Io.KnownBytes.{Consumes}
use Rattle.blobctl.specs.Inputs.{TakesAtMost}

-- one more piece was read
pub one_more : (a b c : Option (List ℕ)) (front piece all : List ℕ) → Consumes a b front → Consumes b c piece → all ≡ front ++ piece → Consumes a c all
one_more a b c front piece all first then e = rw e (Consumes-trans _ _ _ _ _ first then)

-- at most `n` more bytes were read
pub few_more : (a b c : Option (List ℕ)) (front : List ℕ) (n most : ℕ) → Consumes a b front → TakesAtMost b c n → length front + n ≤ most → TakesAtMost a c most
few_more a b c front n most first then h = (front ++ then.0, Consumes-trans _ _ _ _ _ first then.1, omega (arith, h, then.2, length-append front then.0))
