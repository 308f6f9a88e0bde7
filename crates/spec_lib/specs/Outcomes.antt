-- Steps that may fail: one after another, up to the first error.
use Rattle.std.specs.Prelude.{Bool, true, false, Result, Ok, Err}

infixl 10 ◌>>=◌
-- the second step, if the first succeeds, or else the error of the first
abbrev pub ◌>>=◌ : {A B E : Type 0} → Result A E → (A → Result B E) → Result B E
(Ok x) >>= f = f x
(Err e) >>= f = Err e

-- the error, if the test holds
abbrev pub refuse : {E : Type 0} → Bool → E → Result (Unit {0}) E
refuse true e = Err e
refuse false e = Ok tt
