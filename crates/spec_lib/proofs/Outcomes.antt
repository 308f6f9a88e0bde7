-- Lemmas on steps that succeeded.
use Rattle.std.proofs.Common.{◌≡◌, Bool, true, false, Option, Some, None, Result, Ok, Err, refl, ap}
use Rattle.std.specs.Option.{ok_or}
use Rattle.spec_lib.specs.Outcomes.{◌>>=◌, refuse}

-- no result is both `Ok` and `Err`
pub ok_err : {A E B : Type 0} {x : A} {e : E} → ◌≡◌ {A = Result A E} (Ok x) (Err e) → B
ok_err h = absurd cc

pub ok_pair : {A B E : Type 0} {x y : A} {u v : B} → ◌≡◌ {A = Result (A × B) E} (Ok (x, u)) (Ok (y, v)) → (x ≡ y) × (u ≡ v)
ok_pair {A} {B} {E} {x} {y} {u} {v} h = let p : ◌≡◌ {A = A × B} (x, u) (y, v) = cc in (λ i. (p i).0, λ i. (p i).1)

-- if two steps succeed, the first of them does
pub bound_ok : {A B E : Type 0} (x : Result A E) (f : A → Result B E) (y : B) → (x >>= f) ≡ Ok y → (a : A) × (x ≡ Ok a) × (f a ≡ Ok y)
bound_ok (Ok a) f y h = (a, refl, h)
bound_ok (Err e) f y h = absurd cc

pub not_refused : {E : Type 0} (b : Bool) (e : E) (u : Unit {0}) → refuse b e ≡ Ok u → b ≡ false
not_refused true e u h = absurd cc
not_refused false e u h = refl

pub some_of_ok : {A E : Type 0} (o : Option A) (e : E) (x : A) → ok_or o e ≡ Ok x → o ≡ Some x
some_of_ok None e x h = absurd cc
some_of_ok (Some y) e x h = let p : y ≡ x = cc in ap Some p
