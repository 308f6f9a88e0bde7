-- The steps of a backend's methods, by the relation of its steps.
use Rattle.std.specs.Prelude.{◌≡◌, ◌≢◌, ◌⊎◌, ℕ, length, MatchResult, Option, Result}
use Rattle.std.specs.Arc.{arc_value}
use Rattle.std.specs.Borrow.{Bor}
use Rattle.std.specs.Option.{option_copied}
use Rattle.std.specs.declared.sync.Arc.{Arc}
use Rattle.spec_lib.specs.Texts.{Text}
use Rattle.blob_digest.specs.declared.range.ByteRange.{ByteRange}
use Rattle.blob_digest.specs.declared.refusal.Refusal.{Refusal}
use Rattle.blob_digest.specs.declared.refusal.Refusal.TheVariants.{Memory, WeightSpent}
use Rattle.store_model.specs.declared.mount.Mount.{Mount as MountResult}
use Rattle.store_api.specs.Answers.{Answer, Abandoned, Body, Bytes, Deleted, Manifest, Received, Refused, Session, Stored, Verified, answer_of, result_answer, mount_answer}
use Rattle.store_api.specs.Commands.{Command, StoreRequest, Calls, Verifies, Start, Status, Append, Close, Abandon, Mount, Delete, PutManifest, GetManifest, DeleteManifest, RemoveRepo, Lease}
use Rattle.store_api.specs.LeaseViews.{Extent, LeaseView, extent, half_lease}
use Rattle.store_api.specs.declared.reply.Reply.{Reply}

module _ {S : Type 0} (acts : S → StoreRequest → Answer → S → Type 0) where
  -- ---- commands

  -- a session is opened, and its number is returned
  abbrev pub Starts : S → Text → Result ℕ Refusal → S → Type 0
  Starts old repo result new = acts old (Calls (Start repo)) (result_answer Session result) new

  -- the length of a session is returned
  abbrev pub ReportsStatus : S → Text → ℕ → Result ℕ Refusal → S → Type 0
  ReportsStatus old repo number result new = acts old (Calls (Status repo number)) (result_answer Received result) new

  -- a chunk is added to a session, and the session's length is returned
  abbrev pub Appends : S → Text → ℕ → Option ByteRange → Text → Result ℕ Refusal → S → Type 0
  Appends old repo number range bytes result new = acts old (Calls (Append repo number range bytes)) (result_answer Received result) new

  -- a session is closed with its last chunk, and the blob's size is returned
  abbrev pub Closes : S → Text → ℕ → Text → Option ByteRange → Text → Result ℕ Refusal → S → Type 0
  Closes old repo number digest range bytes result new = acts old (Calls (Close repo number digest range bytes)) (result_answer Stored result) new

  -- a session is abandoned
  abbrev pub Abandons : S → Text → ℕ → Result ℕ Refusal → S → Type 0
  Abandons old repo number result new = acts old (Calls (Abandon repo number)) (result_answer (λ _. Abandoned) result) new

  -- a blob is linked from another repository, or an upload session is opened for it
  abbrev pub Mounts : S → Text → Text → Option (Bor Text) → Result MountResult Refusal → S → Type 0
  Mounts old repo digest from result new = acts old (Calls (Mount repo digest (option_copied from))) (result_answer mount_answer result) new

  -- the link between a repository and a blob is removed
  abbrev pub DeletesLink : S → Text → Text → Result (Unit {0}) Refusal → S → Type 0
  DeletesLink old repo digest result new = acts old (Calls (Delete repo digest)) (result_answer (λ _. Deleted) result) new

  -- a manifest is stored, and its digest is returned
  abbrev pub PutsManifest : S → Text → Text → Result Text Refusal → S → Type 0
  PutsManifest old repo bytes result new = acts old (Calls (PutManifest repo bytes)) (result_answer Manifest result) new

  -- a manifest is returned
  abbrev pub GetsManifest : {Z : Type 0} → S → Text → Text → Result (Arc Text Z) Refusal → S → Type 0
  GetsManifest old repo digest result new = acts old (Calls (GetManifest repo digest)) (result_answer (λ m. Body (arc_value m)) result) new

  -- a manifest is removed from a repository
  abbrev pub DeletesManifest : S → Text → Text → Result (Unit {0}) Refusal → S → Type 0
  DeletesManifest old repo digest result new = acts old (Calls (DeleteManifest repo digest)) (result_answer (λ _. Deleted) result) new

  -- a repository is removed
  abbrev pub RemovesRepo : S → Text → Result (Unit {0}) Refusal → S → Type 0
  RemovesRepo old repo result new = acts old (Calls (RemoveRepo repo)) (result_answer (λ _. Deleted) result) new

  -- a command is done, and its reply or its refusal is returned
  abbrev pub PerformsCommand : S → Command → Result Reply Refusal → S → Type 0
  PerformsCommand old command result new = MatchResult result (λ r. acts old (Calls command) (answer_of r) new) (λ e. acts old (Calls command) (Refused e) new)

  -- ---- leases

  -- a new lease of a blob's bytes, of weight 1,024, or a refusal is returned
  abbrev pub LeasesBlob : {L : Type 0} → (L → LeaseView) → S → Text → Text → Result L Refusal → S → Type 0
  LeasesBlob lent old repo digest result new =
      MatchResult result (λ l. acts old (Calls (Lease repo digest)) (Bytes (lent l).bytes) new × ((lent l).weight ≡ 1024)) (λ e. acts old (Calls (Lease repo digest)) (Refused e) new)

  -- a lease is verified, and the answer is the size of its blob
  abbrev pub ConfirmsLease : S → LeaseView → S → Type 0
  ConfirmsLease old lease new = acts old (Verifies (length lease.bytes)) (Verified (length lease.bytes)) new

-- the extent from `start` to `end` of these bytes is returned, or `Memory`
abbrev pub GivesExtent : Text → ℕ → ℕ → Result Extent Refusal → Type 0
GivesExtent bytes start end result = MatchResult result (λ x. x ≡ extent bytes start end) (λ e. e ≡ Memory)

-- a lease is split into two of half the weight, or is returned unchanged if memory runs out or its weight is 1
abbrev pub SplitsLease : {L : Type 0} → (L → LeaseView) → L → Result (L × L) (Refusal × L) → Type 0
SplitsLease lent lease result =
    MatchResult result
    (λ p. ((lent lease).weight ≢ 1) × (lent p.0 ≡ half_lease (lent lease)) × (lent p.1 ≡ half_lease (lent lease)))
    (λ e. (lent e.1 ≡ lent lease) × ((e.0 ≡ Memory) ⊎ ((e.0 ≡ WeightSpent) × ((lent lease).weight ≡ 1))))
