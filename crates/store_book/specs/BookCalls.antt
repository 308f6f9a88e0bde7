-- The effect of each call of a book: a command changes the catalog, and the slots are unchanged or each change in a known way.
use Rattle.std.specs.Prelude.{◌≡◌, ℕ, Option, Some, Result, IfErr, IsOk}
use Rattle.std.specs.Arc.{arc_value}
use Rattle.std.specs.Borrow.{Bor}
use Rattle.std.specs.FinMap.{get}
use Rattle.std.specs.Option.{option_copied}
use Rattle.std.specs.declared.sync.Arc.{Arc}
use Rattle.blob_digest.specs.Outcomes.{Does, DoesExactly}
use Rattle.blob_digest.specs.declared.range.ByteRange.{ByteRange}
use Rattle.blob_digest.specs.declared.refusal.Refusal.{Refusal}
use Rattle.blob_digest.specs.declared.refusal.Refusal.TheVariants.{TooManyReaders}
use Rattle.spec_lib.specs.Texts.{Text}
use Rattle.pin_table.specs.Calls.{PinValue}
use Rattle.atomic_table.specs.Seated.{TableId}
use Rattle.store_book.specs.BookState.{BookState, SlotView}
use Rattle.store_book.specs.Pinned.{blob_bytes}
use Rattle.store_book.specs.SlotSteps.{EachSlot, FindsNoRoom, MayPlace, Leases}
use Rattle.store_model.specs.Commands.{start, append, close, take, put_back, finish, after_cancel, abandon, mount, delete, put_manifest, delete_manifest, remove_repo}
use Rattle.store_model.specs.Catalog.{Catalog, Resident}
use Rattle.store_model.specs.Sessions.{HandRecord, session_of_hand}
use Rattle.store_model.specs.declared.mount.Mount.{Mount}

-- ---- slots

-- the pin table and the slots are unchanged
abbrev pub KeepsSlots : BookState → BookState → Type 0
KeepsSlots old new = (new.table ≡ old.table) × (new.slots ≡ old.slots)

-- the pin table is unchanged, and each slot is related to the one before
abbrev pub ChangesSlots : (SlotView → SlotView → Type 0) → BookState → BookState → Type 0
ChangesSlots R old new = (new.table ≡ old.table) × EachSlot R old.slots new.slots

-- each slot is unchanged, or is live with this digest and was free or had it
abbrev pub PlacesOnly : Text → BookState → BookState → Type 0
PlacesOnly digest old new = EachSlot (MayPlace digest) old.slots new.slots

-- ---- uploads

-- the call performs `start`, or is out of memory
abbrev pub Starts : Result ℕ Refusal → BookState → BookState → Text → Type 0
Starts result old new repo = Does (λ n. n) result old.catalog new.catalog (start old.catalog repo)

-- the call performs `append`, or is out of memory
abbrev pub AppendsChunk : Result ℕ Refusal → BookState → BookState → Text → ℕ → Option ByteRange → Text → Type 0
AppendsChunk result old new repo number range bytes = Does (λ n. n) result old.catalog new.catalog (append old.catalog repo number range bytes)

-- the call performs `close`, or is out of memory
abbrev pub Closes : Result ℕ Refusal → BookState → BookState → Text → ℕ → Text → Option ByteRange → Text → Type 0
Closes result old new repo number digest range bytes = Does (λ n. n) result old.catalog new.catalog (close old.catalog repo number digest range bytes)

-- the call performs `take`
abbrev pub ChecksOut : Result HandRecord Refusal → BookState → BookState → Text → ℕ → Option ByteRange → ℕ → Type 0
ChecksOut result old new repo number range len = DoesExactly (λ h. h) result old.catalog new.catalog (take old.catalog repo number range len)

-- the call performs `put_back`
abbrev pub ChecksIn : Result ℕ Refusal → BookState → BookState → HandRecord → Type 0
ChecksIn result old new hand = DoesExactly (λ n. n) result old.catalog new.catalog (put_back old.catalog hand)

-- the call performs `finish`; if it fails, the session is checked in as before `take`
abbrev pub Finishes : Result ℕ Refusal → BookState → BookState → HandRecord → Text → Type 0
Finishes result old new hand digest = Does (λ n. n) result (after_cancel old.catalog hand) new.catalog (finish old.catalog hand digest)

-- the book has a checked-out session that matches this hand
abbrev pub HasCheckedOut : BookState → HandRecord → Type 0
HasCheckedOut book hand = IsOk (session_of_hand (get book.catalog.sessions hand.key) hand)

-- the call performs `abandon`
abbrev pub Abandons : Result ℕ Refusal → BookState → BookState → Text → ℕ → Type 0
Abandons result old new repo number = DoesExactly (λ n. n) result old.catalog new.catalog (abandon old.catalog repo number)

-- ---- blobs

-- the call performs `mount` from this source, if there is one, or is out of memory
abbrev pub Mounts : Result Mount Refusal → BookState → BookState → Text → Text → Option (Bor Text) → Type 0
Mounts result old new repo digest from = Does (λ m. m) result old.catalog new.catalog (mount old.catalog repo digest (option_copied from))

-- the call performs `delete`
abbrev pub Deletes : Result (Unit {0}) Refusal → BookState → BookState → Text → Text → Type 0
Deletes result old new repo digest = DoesExactly (λ u. u) result old.catalog new.catalog (delete old.catalog repo digest)

-- the call performs `lease`, and returns a pin with the blob
abbrev pub LeasesBlob : {P Z : Type 0} → Result (P × Arc (Text × Text) Z) Refusal → BookState → BookState → Text → Text → Type 0
LeasesBlob result old new repo digest = Leases (λ r. blob_bytes (arc_value r.1)) result old.catalog new.catalog new.slots repo digest

-- if the call fails with `TooManyReaders`, its one look found no room on the slot of this digest
abbrev pub FailsOnlyIfFull : {A : Type 0} → Result A Refusal → BookState → BookState → Text → Type 0
FailsOnlyIfFull result old new digest = IfErr result (λ e. e ≡ TooManyReaders → FindsNoRoom digest old.slots new.slots)

-- the pin is one of this table on a slot of this digest, and weighs 1,024
abbrev pub IsNewPin : PinValue → TableId → Text → Type 0
IsNewPin pin table digest = (pin.table ≡ table) × (pin.hold.digest ≡ digest) × (pin.hold.weight ≡ 1024)

-- ---- manifests

-- the call performs `put_manifest`, or is out of memory
abbrev pub PutsManifest : Result Text Refusal → BookState → BookState → Text → Text → Type 0
PutsManifest result old new repo bytes = Does (λ d. d) result old.catalog new.catalog (put_manifest old.catalog repo bytes)

-- the call performs `delete_manifest`
abbrev pub DeletesManifest : Result (Unit {0}) Refusal → BookState → BookState → Text → Text → Type 0
DeletesManifest result old new repo digest = DoesExactly (λ u. u) result old.catalog new.catalog (delete_manifest old.catalog repo digest)

-- ---- repositories

-- the call performs `remove_repo`
abbrev pub RemovesRepo : Result (Unit {0}) Refusal → BookState → BookState → Text → Type 0
RemovesRepo result old new repo = DoesExactly (λ u. u) result old.catalog new.catalog (remove_repo old.catalog repo)

-- the blob is stored, with this content
abbrev pub IsStoredBlob : Catalog → Text × Text → Type 0
IsStoredBlob C blob = (r : Resident) × (get C.residents blob.0 ≡ Some r) × (r.bytes ≡ blob.1)
