-- The value of a result that is known to be accepted.
use Rattle.std.proofs.Common.{◌≡◌, true, Ok, Err, refl}
use Rattle.std.specs.Prelude.{Result, is_ok}
use Rattle.std.proofs.lemmas.Bool.{false≢true}

pub ok_of : {A E : Type 0} (r : Result A E) → is_ok r ≡ true → (x : A) × (r ≡ Ok x)
ok_of (Ok x) is = (x, refl)
ok_of (Err e) is = absurd (false≢true is)
