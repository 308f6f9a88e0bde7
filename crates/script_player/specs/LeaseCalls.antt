-- The results of the calls on the lanes' leases, for the leases and for the table that stores them.
use Rattle.std.specs.Prelude.{◌≡◌, ◌⊎◌, ℕ, length, MatchResult, Option, Result}
use Rattle.std.specs.BTreeMap as tree
use Rattle.std.specs.FinMap as fmap
use Rattle.spec_lib.specs.Texts.{Text}
use Rattle.blob_digest.specs.declared.refusal.Refusal.{Refusal}
use Rattle.blob_digest.specs.declared.refusal.Refusal.TheVariants.{Memory}
use Rattle.store_api.specs.Answers.{Answer, Bytes, Refused, answer_of}
use Rattle.store_api.specs.Commands.{StoreRequest, Calls, Lease}
use Rattle.store_api.specs.LeaseViews.{LeaseView, new_lease}
use Rattle.store_api.specs.declared.reply.Reply.{Reply}
use Rattle.script_player.specs.Leases.{Leases, Name}
use Rattle.script_player.specs.LeaseTables.{lease_in, leases_in}
use Rattle.script_player.specs.Plays.{VerifiesLease, give_back_result, share_result_in}

-- ---- leases

-- A new lease is added under a name, and the blob's size is returned. A refusal adds none.
abbrev pub AddsLease : {S : Type 0} → (S → StoreRequest → Answer → S → Type 0) → S → Leases → Name → Text → Text → Result ℕ Refusal → S → Leases → Type 0
AddsLease acts old leases name repo digest result new after =
    MatchResult result
    (λ n. (bytes : Text) × acts old (Calls (Lease repo digest)) (Bytes bytes) new × (n ≡ length bytes) × (after ≡ fmap.insert leases name (new_lease bytes)))
    (λ e. (after ≡ leases) × (((e ≡ Memory) × (new ≡ old)) ⊎ acts old (Calls (Lease repo digest)) (Refused e) new))

-- the result of a share is that of `share_result_in`, or memory ran out and nothing changed
abbrev pub SharesLease : Leases → Name → Name → Result Reply Refusal → Leases → Type 0
SharesLease leases name second result after =
    MatchResult result
    (λ r. (answer_of r, after) ≡ share_result_in leases name second)
    (λ e. ((e ≡ Memory) × (after ≡ leases)) ⊎ ((Refused e, after) ≡ share_result_in leases name second))

-- the lease under a name is verified
abbrev pub VerifiesNamed : {S : Type 0} → (S → StoreRequest → Answer → S → Type 0) → Leases → Name → S → Reply → S → Type 0
VerifiesNamed acts leases name old reply new = VerifiesLease acts (fmap.get leases name) old (answer_of reply) new

-- the lease under a name is given back
abbrev pub ReturnsLease : Leases → Name → Reply → Leases → Type 0
ReturnsLease leases name reply after = (answer_of reply, after) ≡ give_back_result leases name (fmap.get leases name)

-- ---- tables of leases

module _ {L : Type 0} (lent : L → LeaseView) where
  -- a new lease is added to a table
  abbrev pub AddsLeaseIn : {S : Type 0} → (S → StoreRequest → Answer → S → Type 0) → S → tree.BTreeMap Name (Option L) → Name → Text → Text → Result ℕ Refusal → S → tree.BTreeMap Name (Option L) → Type 0
  AddsLeaseIn acts old table name repo digest result new after = AddsLease acts old (leases_in lent table) name repo digest result new (leases_in lent after)

  -- a lease of a table is shared
  abbrev pub SharesLeaseIn : tree.BTreeMap Name (Option L) → Name → Name → Result Reply Refusal → tree.BTreeMap Name (Option L) → Type 0
  SharesLeaseIn table name second result after = SharesLease (leases_in lent table) name second result (leases_in lent after)

  -- the lease that a table holds under a name is verified
  abbrev pub VerifiesNamedIn : {S : Type 0} → (S → StoreRequest → Answer → S → Type 0) → tree.BTreeMap Name (Option L) → Name → S → Reply → S → Type 0
  VerifiesNamedIn acts table name old reply new = VerifiesLease acts (lease_in lent table name) old (answer_of reply) new

  -- the lease that a table holds under a name is given back
  abbrev pub ReturnsLeaseIn : tree.BTreeMap Name (Option L) → Name → Reply → tree.BTreeMap Name (Option L) → Type 0
  ReturnsLeaseIn table name reply after = ReturnsLease (leases_in lent table) name reply (leases_in lent after)
