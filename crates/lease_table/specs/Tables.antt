-- Tables of leases, and their steps.
use Rattle.std.specs.Prelude.{◌≡◌, ◌≢◌, ℕ, Bool, true, false, Option, Some, None}
use Rattle.std.specs.Ordering.{nat_cmp}
use Rattle.std.specs.BTreeMap as tree
use Rattle.std.specs.Coded.{Coded, code_by, coded×, coded_ℕ}
use Rattle.std.specs.FinMap as fmap
use Rattle.std.proofs.Common.{refl}
use Rattle.spec_lib.specs.Texts.{Text, coded_text}
use Rattle.store_api.specs.LeaseViews.{Extent, LeaseView, bytes_between, stored_bytes}
use Rattle.store_book.specs.Leased.{LeaseValue}
use Rattle.wire_server.specs.LeaseEvents.{TableEvent, LeaseKept, LeaseNotKept, PieceRead, PieceNotRead, LeaseGivenBack, LeaseNotGivenBack}

-- ---- tables

-- the leases by their numbers
abbrev pub LeaseMap : Type 0
LeaseMap = fmap.FinMap nat_cmp LeaseValue

-- the finite map of a tree's entries
abbrev pub lease_map_of : tree.BTreeMap ℕ LeaseValue → LeaseMap
lease_map_of leases = fmap.from_entries leases.entries

-- the code by which a proof compares leases
abbrev pub coded_leased : Coded LeaseValue
coded_leased =
    code_by (Text × (ℕ × (ℕ × (Text × ℕ)))) (coded× coded_text (coded× coded_ℕ (coded× coded_ℕ (coded× coded_text coded_ℕ))))
    (λ l. (l.bytes, (l.hold.slot, (l.hold.generation, (l.hold.digest, l.hold.weight)))))
    (λ p. record { bytes = p.0; hold = record { slot = p.1.0; generation = p.1.1.0; digest = p.1.1.1.0; weight = p.1.1.1.1 } })
    (λ _. refl)

-- the code by which a proof compares tables
abbrev pub coded_lease_map : Coded LeaseMap
coded_lease_map = fmap.code coded_ℕ coded_leased

-- no lease has the number, or its blob has another digest
abbrev pub HasNoLeaseOf : LeaseMap → ℕ → Text → Type 0
HasNoLeaseOf leases number digest = (lease : LeaseValue) → fmap.get leases number ≡ Some lease → lease.hold.digest ≢ digest

-- the piece is that from a start to an end of the blob of this digest that is leased under the number
pub record IsReadFrom (leases : LeaseMap) (number : ℕ) (digest : Text) (start end : ℕ) (piece : Text) : Type 0 where
  pub lease : LeaseValue
  pub out : fmap.get leases number ≡ Some lease
  pub named : lease.hold.digest ≡ digest
  pub part : piece ≡ bytes_between lease.bytes start end

-- ---- steps

-- the bytes and the weight of a lease
abbrev pub lease_view_of : LeaseValue → LeaseView
lease_view_of lease = record { bytes = lease.bytes; weight = lease.hold.weight }

-- the lease is added under a number that is not 0 and that no other lease has
pub record IsAddedLease (old : LeaseMap) (lent : LeaseView) (number : ℕ) (new : LeaseMap) : Type 0 where
  pub lease : LeaseValue
  pub given : lease_view_of lease ≡ lent
  pub positive : number ≢ 0
  pub free : fmap.get old number ≡ None
  pub kept : new ≡ fmap.insert old number lease

-- the lease of the number is removed
pub record IsRemovedLease (old : LeaseMap) (number : ℕ) (new : LeaseMap) : Type 0 where
  pub lease : LeaseValue
  pub out : fmap.get old number ≡ Some lease
  pub gone : new ≡ fmap.remove old number

-- the event is a step from one table to another
abbrev pub IsTableStep : LeaseMap → TableEvent → LeaseMap → Type 0
IsTableStep old (LeaseKept lent number) new = IsAddedLease old lent number new
IsTableStep old (LeaseNotKept lent) new = new ≡ old
IsTableStep old (PieceRead number digest start end piece) new = IsReadFrom old number digest start end piece × (new ≡ old)
IsTableStep old (PieceNotRead number digest) new = HasNoLeaseOf old number digest × (new ≡ old)
IsTableStep old (LeaseGivenBack number) new = IsRemovedLease old number new
IsTableStep old (LeaseNotGivenBack number) new = (fmap.get old number ≡ None) × (new ≡ old)

-- ---- the events of calls, by their results

-- the event of a call to keep a lease
abbrev pub keep_event : LeaseView → Option ℕ → TableEvent
keep_event lent (Some number) = LeaseKept lent number
keep_event lent None = LeaseNotKept lent

-- the event of a call to read a piece
abbrev pub read_event : ℕ → Text → ℕ → ℕ → Option Extent → TableEvent
read_event number digest start end (Some x) = PieceRead number digest start end (stored_bytes x)
read_event number digest start end None = PieceNotRead number digest

-- the event of a call to give a lease back
abbrev pub give_back_event : ℕ → Bool → TableEvent
give_back_event number true = LeaseGivenBack number
give_back_event number false = LeaseNotGivenBack number

-- ---- calls

-- the call keeps the lease under the returned number, or gives it back
abbrev pub AddsLease : LeaseMap → LeaseValue → Option ℕ → LeaseMap → Type 0
AddsLease old lease number new = IsTableStep old (keep_event (lease_view_of lease) number) new

-- the call returns the extent, or there is no such lease
abbrev pub ReadsLease : LeaseMap → ℕ → Text → ℕ → ℕ → Option Extent → Type 0
ReadsLease leases number digest start end found = IsTableStep leases (read_event number digest start end found) leases

-- the call removes the lease of the number, and returns whether there was one
abbrev pub RemovesLease : LeaseMap → ℕ → Bool → LeaseMap → Type 0
RemovesLease old number found new = IsTableStep old (give_back_event number found) new
