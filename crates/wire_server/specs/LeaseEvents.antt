-- The events of a table of leases.
use Rattle.std.specs.Prelude.{◌≡◌, ℕ, true, Option, Result, MatchOption, MatchResult}
use Rattle.blob_digest.specs.Vouched.{has_digest}
use Rattle.blob_digest.specs.declared.refusal.Refusal.{Refusal}
use Rattle.blob_digest.specs.declared.refusal.Refusal.TheVariants.{Memory}
use Rattle.spec_lib.specs.Texts.{Text}
use Rattle.store_api.specs.LeaseViews.{Extent, LeaseView, stored_bytes}

-- an event of a table of leases: a lease is added or not, a piece of a lease is read or not, a lease is removed or not
pub data TableEvent : Type 0 where
  LeaseKept : LeaseView → ℕ → TableEvent
  LeaseNotKept : LeaseView → TableEvent
  PieceRead : ℕ → Text → ℕ → ℕ → Text → TableEvent
  PieceNotRead : ℕ → Text → TableEvent
  LeaseGivenBack : ℕ → TableEvent
  LeaseNotGivenBack : ℕ → TableEvent

-- the extent is that from a start to an end, both included, of a content that has the digest
pub record IsExtentOf (digest : Text) (start end : ℕ) (x : Extent) : Type 0 where
  pub content : has_digest digest x.content ≡ true
  pub from : x.start ≡ start
  pub to : x.end ≡ end

-- a table that is given a lease keeps it under the number, or gives it back
abbrev pub KeepStep : {T : Type 0} → (T → TableEvent → T → Type 0) → T → LeaseView → Option ℕ → T → Type 0
KeepStep does old lent number new = MatchOption number (does old (LeaseNotKept lent) new) (λ n. does old (LeaseKept lent n) new)

-- a table that is asked for an extent gives it, or has no such lease, or is out of memory and unchanged
abbrev pub ExtentStep : {T : Type 0} → (T → TableEvent → T → Type 0) → T → ℕ → Text → ℕ → ℕ → Result (Option Extent) Refusal → T → Type 0
ExtentStep does old number digest start end result new =
    MatchResult result (λ o. MatchOption o (does old (PieceNotRead number digest) new) (λ x. does old (PieceRead number digest start end (stored_bytes x)) new)) (λ e. (e ≡ Memory) × (new ≡ old))
