-- A finite set as a finite map to nothing. (std's FinSet has no law on its items but membership, so a sum over a set is out of reach there.)
use Rattle.std.specs.Prelude.{Bool, List, map}
use Rattle.std.specs.declared.cmp.Ordering.{Ordering}
use Rattle.std.specs.FinMap as fmap
use Rattle.std.specs.Coded.{Coded}
use base.Stored.{coded_unit}

-- a set of keys in their order
abbrev pub Set : {K : Type 0} → (K → K → Ordering) → Type 0
Set R = fmap.FinMap R (Unit {0})

-- keys as entries with the unit value
abbrev pub unit_entries : {K : Type 0} → List K → List (K × Unit {0})
unit_entries {K} ks = map {B = K × Unit {0}} (λ k. (k, tt {0})) ks

module _ {K : Type 0} {R : K → K → Ordering} where
  -- the code of a set
  abbrev pub code : Coded K → Coded (Set R)
  code k = fmap.code k coded_unit

  -- whether the set has the key
  abbrev pub contains : Set R → K → Bool
  contains s k = fmap.contains_key s k

  -- the set with the key
  abbrev pub insert : Set R → K → Set R
  insert s k = fmap.insert s k tt

  -- the set without the key
  abbrev pub remove : Set R → K → Set R
  remove s k = fmap.remove s k

  -- the keys of a set, in their order
  abbrev pub items : Set R → List K
  items s = fmap.keys s

  -- the set of the keys in a list
  abbrev pub from_list : List K → Set R
  from_list ks = fmap.from_entries (unit_entries ks)

  -- the empty set
  abbrev pub empty_set : Set R
  empty_set = fmap.empty
