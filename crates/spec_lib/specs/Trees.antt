-- The finite map of a B-tree.
use Rattle.std.specs.BTreeMap.{BTreeMap}
use Rattle.std.specs.FinMap.{FinMap, from_entries}
use Rattle.std.specs.declared.cmp.Ordering.{Ordering}
use Rattle.spec_lib.specs.Texts.{Text, text_cmp}

-- the finite map of the tree's entries
abbrev pub tree_map : {K X : Type 0} (R : K → K → Ordering) → BTreeMap K X → FinMap R X
tree_map R m = from_entries m.entries

-- the same, if the keys are texts
abbrev pub map_of : {X : Type 0} → BTreeMap Text X → FinMap text_cmp X
map_of m = tree_map text_cmp m
