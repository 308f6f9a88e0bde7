-- The leases of a table. A row without a lease is room for a lease that the same call adds.
use Rattle.std.specs.Option.{option_map}
use Rattle.std.specs.Prelude.{◌≡◌, ◌⊎◌, true, List, [], ◌∷◌, MatchResult, Option, Result, Some, None, IsSome}
use Rattle.std.specs.FinMap as fmap
use Rattle.std.specs.BTreeMap as tree
use Rattle.std.specs.BTreeMap.{is_at}
use Rattle.store_api.specs.LeaseViews.{LeaseView}
use Rattle.script_player.specs.Leases.{Leases, Name, name_cmp}

-- the entries of a table that hold a lease, with the lease as contracts see it
abbrev pub held_rows : {L : Type 0} → (L → LeaseView) → List (Name × Option L) → List (Name × LeaseView)
held_rows lent [] = []
held_rows lent ((k, None) ∷ es) = held_rows lent es
held_rows lent ((k, Some l) ∷ es) = (k, lent l) ∷ held_rows lent es

-- the leases of a table
abbrev pub leases_in : {L : Type 0} → (L → LeaseView) → tree.BTreeMap Name (Option L) → Leases
leases_in lent m = fmap.from_entries (held_rows lent m.entries)

-- the lease that a table holds under a name
abbrev pub lease_in : {L : Type 0} → (L → LeaseView) → tree.BTreeMap Name (Option L) → Name → Option LeaseView
lease_in lent m name = fmap.get (leases_in lent m) name

-- a name has a row in a table, whether or not it holds a lease
abbrev pub HasRow : {L : Type 0} → tree.BTreeMap Name (Option L) → Name → Type 0
HasRow m k = IsSome (tree.get name_cmp m k)

-- no name loses its row
abbrev pub KeepsRows : {L : Type 0} → tree.BTreeMap Name (Option L) → tree.BTreeMap Name (Option L) → Type 0
KeepsRows m n = (k : Name) → HasRow m k → HasRow n k

-- a name is one of a list
abbrev pub IsAmong : Name → List Name → Type 0
IsAmong k [] = ⊥
IsAmong k (name ∷ names) = (is_at (name_cmp name) k ≡ true) ⊎ IsAmong k names

-- each row holds a lease, except the rows of these names
abbrev pub HoldsBut : {L : Type 0} → List Name → tree.BTreeMap Name (Option L) → Type 0
HoldsBut names m = (k : Name) → tree.get name_cmp m k ≡ Some None → IsAmong k names

-- each row holds a lease
abbrev pub HoldsEach : {L : Type 0} → tree.BTreeMap Name (Option L) → Type 0
HoldsEach m = HoldsBut [] m

-- the leases, with this one or none under a name
abbrev pub with_lease : Leases → Name → Option LeaseView → Leases
with_lease leases name None = fmap.remove leases name
with_lease leases name (Some lease) = fmap.insert leases name lease

-- a table changes only under a name, where it has this lease or none
abbrev pub PutsLease : {L : Type 0} → (L → LeaseView) → tree.BTreeMap Name (Option L) → tree.BTreeMap Name (Option L) → Name → Option L → Type 0
PutsLease lent old new name room = leases_in lent new ≡ with_lease (leases_in lent old) name (option_map lent room)

-- each row holds a lease, except the row that a successful call made for a name
abbrev pub HoldsButRoom : {L T E : Type 0} → Result T E → Name → tree.BTreeMap Name (Option L) → Type 0
HoldsButRoom result name m = MatchResult result (λ _. HoldsBut (name ∷ []) m) (λ _. HoldsEach m)
