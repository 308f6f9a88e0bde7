-- Lemmas on optional values.
use Rattle.std.proofs.Common.{◌≡◌, Bool, true, false, cond, Option, Some, None, is_some, refl, ℕ, sym, ap, ◌∙◌}
use Rattle.std.specs.Prelude.{nat_eq}
use Rattle.std.specs.Option.{option_map, option_eq}
use Rattle.std.proofs.lemmas.Bool.{true≢false, false≢true, eqb-true}

pub some_same : {A : Type 0} {x y : A} → Some x ≡ Some y → x ≡ y
some_same e = cc

pub some_none : {A B : Type 0} {x : A} → Some x ≡ None → B
some_none e = cc

-- a value that a test lets through passed it
pub cond_some : {A : Type 0} (b : Bool) (x y : A) → cond b (Some x) None ≡ Some y → (b ≡ true) × (x ≡ y)
cond_some true x y h = (refl, cc)
cond_some false x y h = absurd (some_none (sym h))

pub not_some : {A : Type 0} (o : Option A) → ((x : A) → o ≡ Some x → ⊥) → o ≡ None
not_some None none = refl
not_some (Some x) none = absurd (none x refl)

pub some_value : {A : Type 0} (o : Option A) → is_some o ≡ true → (x : A) × (o ≡ Some x)
some_value None e = cc
some_value (Some x) e = (x, refl)

pub option_map-itself : {A : Type 0} (r : Option A) → option_map (λ x. x) r ≡ r
option_map-itself None = refl
option_map-itself (Some x) = refl

pub nothing : {A : Type 0} {o : Option A} {x : A} → o ≡ None → o ≡ Some x → {B : Type 0} → B
nothing none some = absurd cc

pub no_member : {o : Option (Unit {0})} → o ≡ None → is_some o ≡ true → {B : Type 0} → B
no_member none there = absurd (false≢true (ap is_some (sym none) ∙ there))

pub no_value : {A : Type 0} (x : Option A) → is_some x ≡ false → x ≡ None
no_value None e = refl
no_value (Some a) e = absurd (true≢false e)

pub a_unit : (x : Option (Unit {0})) → is_some x ≡ true → x ≡ Some tt
a_unit None e = absurd (false≢true e)
a_unit (Some u) e = refl

-- a number that equals an option is its value
pub option_eq_some : (o : Option ℕ) (t : ℕ) → option_eq nat_eq o (Some t) ≡ true → o ≡ Some t
option_eq_some None t e = cc
option_eq_some (Some x) t e = ap Some (eqb-true x t e)
