-- Rows of a list with distinct keys.
use Rattle.std.specs.Prelude.{◌≡◌, List, [], ◌∷◌, None}
use Rattle.std.specs.declared.cmp.Ordering.{Ordering}
use Rattle.std.specs.FinMap.{find}

-- the keys of the rows are distinct
abbrev pub IsApart : {K X : Type 0} → (K → K → Ordering) → List (K × X) → Type 0
IsApart R [] = Unit {0}
IsApart R (e ∷ es) = (find R e.0 es ≡ None) × IsApart R es
