-- The steps that the calls of `Store` add to the history, and their results.
use Rattle.std.specs.Prelude.{◌≡◌, ◌⊎◌, ◌+◌, ◌<◌, ◌≤◌, ℕ, List, None, Option, Result, MatchResult, length}
use Rattle.std.specs.Arc.{arc_value}
use Rattle.std.specs.Borrow.{Bor}
use Rattle.std.specs.Io.KnownBytes.{Appends as Writes}
use Rattle.std.specs.Option.{option_copied}
use Rattle.std.specs.declared.sync.Arc.{Arc}
use Rattle.blob_digest.specs.declared.range.ByteRange.{ByteRange}
use Rattle.blob_digest.specs.declared.refusal.Refusal.{Refusal}
use Rattle.blob_digest.specs.declared.refusal.Refusal.TheVariants.{LimitReached, ManifestInvalid, Memory, NameUnknown, SizeInvalid}
use Rattle.spec_lib.specs.Texts.{Text}
use Rattle.oci_manifest.specs.Manifests.{max_manifest, refs_of}
use Rattle.store_book.specs.Leased.{LeaseValue}
use Rattle.store_model.specs.Amounts.{command_amounts_of, add_amounts, sum_of}
use Rattle.store_model.specs.BookText.{book_text}
use Rattle.store_model.specs.Catalog.{Catalog}
use Rattle.store_model.specs.Histories.{CommandCall}
use Rattle.store_model.specs.Runs as runs
use Rattle.store_model.specs.declared.mount.Mount.{Mount}
use Rattle.locked_book.specs.Calls.{reply}
use Rattle.locked_book.specs.Found.{InSomeBook}
use Rattle.locked_book.specs.History as history
use Rattle.locked_book.specs.History.{DeskView, Makes, amounts_of}
use Rattle.locked_book.specs.Names.{StoreNames}
use Rattle.locked_book.specs.declared.desk.Settled.{Settled}
use Rattle.locked_book.specs.declared.totals.Totals.{Totals}

-- ---- the step of a command

-- the desk makes the step of a command with this result
abbrev pub Performs : StoreNames → runs.Command → Result runs.Answer Refusal → DeskView → DeskView → Type 0
Performs names command result old new = Makes names.opening (CommandCall command result) old new

-- the desk makes the step that opens a session in the repository
abbrev pub StartsSession : StoreNames → Text → Result ℕ Refusal → DeskView → DeskView → Type 0
StartsSession names repo result old new = Performs names (runs.Start repo) (reply runs.Number result) old new

-- the desk makes the step that reads a session's length
abbrev pub ReadsStatus : StoreNames → Text → ℕ → Result ℕ Refusal → DeskView → DeskView → Type 0
ReadsStatus names repo number result old new = Performs names (runs.Status repo number) (reply runs.Number result) old new

-- the desk makes the steps that append a chunk to a session
abbrev pub AppendsTo : StoreNames → Text → ℕ → Option ByteRange → Text → Result ℕ Refusal → DeskView → DeskView → Type 0
AppendsTo names repo number range bytes result old new = history.AppendsChunk names.opening old.trace repo number range bytes result new.trace

-- the desk makes the steps that close a session with a last chunk
abbrev pub ClosesSession : StoreNames → Text → ℕ → Text → Option ByteRange → Text → Result ℕ Refusal → DeskView → DeskView → Type 0
ClosesSession names repo number digest range bytes result old new = history.ClosesSession names.opening old.trace repo number digest range bytes result new.trace

-- the desk makes the step that abandons a session
abbrev pub AbandonsSession : StoreNames → Text → ℕ → Result ℕ Refusal → DeskView → DeskView → Type 0
AbandonsSession names repo number result old new = Performs names (runs.Abandon repo number) (reply runs.Number result) old new

-- the desk makes the step that mounts a blob from a source, if one is given
abbrev pub MountsBlob : StoreNames → Text → Text → Option (Bor Text) → Result Mount Refusal → DeskView → DeskView → Type 0
MountsBlob names repo digest from result old new = Performs names (runs.Mount repo digest (option_copied from)) (reply runs.Mounting result) old new

-- the desk makes the step that removes the link to a blob
abbrev pub DeletesBlob : {A : Type 0} → StoreNames → Text → Text → Result A Refusal → DeskView → DeskView → Type 0
DeletesBlob names repo digest result old new = Performs names (runs.Delete repo digest) (reply (λ _. runs.Done) result) old new

-- the desk makes the step that puts a manifest
abbrev pub PutsManifest : StoreNames → Text → Text → Result Text Refusal → DeskView → DeskView → Type 0
PutsManifest names repo bytes result old new = Performs names (runs.PutManifest repo bytes) (reply runs.Bytes result) old new

-- the desk makes the step that reads a manifest
abbrev pub GetsManifest : {Z : Type 0} → StoreNames → Text → Text → Result (Arc Text Z) Refusal → DeskView → DeskView → Type 0
GetsManifest names repo digest result old new = Performs names (runs.GetManifest repo digest) (reply (λ m. runs.Bytes (arc_value m)) result) old new

-- the desk makes the step that removes a manifest
abbrev pub DeletesManifest : {A : Type 0} → StoreNames → Text → Text → Result A Refusal → DeskView → DeskView → Type 0
DeletesManifest names repo digest result old new = Performs names (runs.DeleteManifest repo digest) (reply (λ _. runs.Done) result) old new

-- the desk makes the step that removes a repository
abbrev pub RemovesRepo : {A : Type 0} → StoreNames → Text → Result A Refusal → DeskView → DeskView → Type 0
RemovesRepo names repo result old new = Performs names (runs.RemoveRepo repo) (reply (λ _. runs.Done) result) old new

-- the desk makes the step that leases a blob
abbrev pub LeasesBlob : StoreNames → Text → Text → Result LeaseValue Refusal → DeskView → DeskView → Type 0
LeasesBlob names repo digest result old new = Performs names (runs.Lease repo digest) (reply (λ l. runs.Bytes l.bytes) result) old new

-- ---- a desk's amounts

-- the desk counts one more command, with these bytes received and closed
abbrev pub CountsCommand : ℕ → ℕ → DeskView → DeskView → Type 0
CountsCommand received closed old new = new.amounts ≡ add_amounts old.amounts (command_amounts_of received closed 0)

-- the desk's amounts are unchanged
abbrev pub KeepsAmounts : DeskView → DeskView → Type 0
KeepsAmounts old new = new.amounts ≡ old.amounts

-- the settled amounts are the sums of the desks' shares
abbrev pub AreSumsOfDesks : List DeskView → Settled → Type 0
AreSumsOfDesks desks settled =
    (settled.commands ≡ (sum_of (amounts_of desks)).commands)
    × (settled.received ≡ (sum_of (amounts_of desks)).received)
    × (settled.closed ≡ (sum_of (amounts_of desks)).closed)
    × (settled.abandoned ≡ (sum_of (amounts_of desks)).abandoned)

-- the received bytes are in sessions, closed or abandoned
abbrev pub AreBalancedTotals : Totals → Type 0
AreBalancedTotals totals = totals.received ≡ totals.in_sessions + totals.closed + totals.abandoned

-- two desks have seen all of one legal history
abbrev pub SeeOneHistory : Catalog → DeskView → DeskView → DeskView → DeskView → Type 0
SeeOneHistory C one one_new other other_new = history.AreInOneHistory C one.trace one_new.trace other.trace other_new.trace

-- ---- errors

-- the call fails, with an error of which `P` holds
abbrev pub FailsWith : {A : Type 0} → (Refusal → Type 0) → Result A Refusal → Type 0
FailsWith P result = MatchResult result (λ _. ⊥) (λ e. P e)

-- this number of desks cannot be made at once
abbrev pub IsNoDeskCount : ℕ → Type 0
IsNoDeskCount count = (count ≡ 0) ⊎ (1024 < count)

-- the bytes are no manifest
abbrev pub IsNoManifest : Text → Type 0
IsNoManifest bytes = refs_of bytes ≡ None

-- an error of a put of too many bytes
abbrev pub IsLengthRefusal : Refusal → Type 0
IsLengthRefusal e = (e ≡ LimitReached) ⊎ (e ≡ NameUnknown) ⊎ (e ≡ SizeInvalid)

-- an error of a put of bytes that are no manifest
abbrev pub IsFormRefusal : Refusal → Type 0
IsFormRefusal e = (e ≡ LimitReached) ⊎ (e ≡ NameUnknown) ⊎ (e ≡ ManifestInvalid) ⊎ (e ≡ Memory)

-- bytes that are short enough but no manifest fail with such an error
abbrev pub RefusesNonManifest : {A : Type 0} → Text → Result A Refusal → Type 0
RefusesNonManifest bytes result = IsNoManifest bytes → length bytes ≤ max_manifest → FailsWith IsFormRefusal result

-- ---- leases and queries

-- the lease has this digest and the full weight of a pin
abbrev pub IsFullLease : Text → LeaseValue → Type 0
IsFullLease digest lease = (lease.hold.digest ≡ digest) × (lease.hold.weight ≡ 1024)

-- the writer got the text of some book of the store
abbrev pub PrintsBook : StoreNames → Option (List ℕ) → Option (List ℕ) → Type 0
PrintsBook names old new = InSomeBook names (λ book. Writes old new (book_text book.catalog))

-- `P` holds of the catalog of some book of the store
abbrev pub InSomeCatalog : StoreNames → (Catalog → Type 0) → Type 0
InSomeCatalog names P = InSomeBook names (λ book. P book.catalog)
