-- Entries of a map with their values changed by a function.
use Rattle.std.proofs.Common.{◌≡◌, Bool, true, false, cond, List, [], ◌∷◌, map, Option, Some, None, refl, ap}
use Rattle.std.specs.Prelude.{◌&&◌}
use Rattle.std.specs.Option.{option_map}
use Rattle.std.specs.declared.cmp.Ordering.{Ordering}
use Rattle.std.specs.Ordering.{eq_by_cmp, is_lt}
use Rattle.std.specs.FinMap.Entries.{is_sorted, below_all, find as find_key}

module _ {K X Y : Type 0} (R : K → K → Ordering) (g : X → Y) where
  abbrev pub over : List (K × X) → List (K × Y)
  over es = map {B = K × Y} (λ e. (e.0, g e.1)) es

  pub below-over : (x : K) (es : List (K × X)) → below_all R x (over es) ≡ below_all R x es
  below-over x [] = refl
  below-over x (e ∷ es) = ap (λ b. is_lt (R x e.0) && b) (below-over x es)

  pub sorted-over : (es : List (K × X)) → is_sorted R (over es) ≡ is_sorted R es
  sorted-over [] = refl
  sorted-over (e ∷ es) = λ i. below-over e.0 es i && sorted-over es i

  pub find-over : (q : K) (es : List (K × X)) → find_key R q (over es) ≡ option_map g (find_key R q es)
  find-over q [] = refl
  find-over q (e ∷ es) = elim (eq_by_cmp R q e.0) as (λ b. cond b (Some (g e.1)) (find_key R q (over es)) ≡ option_map g (cond b (Some e.1) (find_key R q es))) [
    | true ↦ refl
    | false ↦ find-over q es
  ]

pub map_none : {X Y : Type 0} (g : X → Y) (b : Bool) (x : Option X) → option_map g (cond b x None) ≡ cond b (option_map g x) None
map_none g true x = refl
map_none g false x = refl
