-- The leases that the lanes of a script hold.
use Rattle.std.specs.Prelude.{ℕ}
use Rattle.std.specs.declared.cmp.Ordering.{Ordering}
use Rattle.std.specs.Ordering.{nat_cmp, ordering_then}
use Rattle.std.specs.Coded.{Coded, coded×, coded_ℕ}
use Rattle.std.specs.FinMap as fmap
use Rattle.store_api.specs.LeaseViews.{LeaseView, coded_lease_view}
use Rattle.spec_lib.specs.Texts.{Text, text_cmp, coded_text}

-- a lane, and its name for a lease
abbrev pub Name : Type 0
Name = ℕ × Text

-- the order of names: by lane, then by the name's bytes
abbrev pub name_cmp : Name → Name → Ordering
name_cmp a b = ordering_then (nat_cmp a.0 b.0) (text_cmp a.1 b.1)

-- the leases of all lanes, by name
abbrev pub Leases : Type 0
Leases = fmap.FinMap name_cmp LeaseView

-- no lane holds a lease
abbrev pub no_leases : Leases
no_leases = fmap.empty

-- the code by which proofs compare leases
abbrev pub coded_leases : Coded Leases
coded_leases = fmap.code (coded× coded_ℕ coded_text) coded_lease_view
