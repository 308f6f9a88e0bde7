-- What calls return: totals, sums, errors, leases and printed text.
use Rattle.store_model.specs.Commands.{is_named}
use Rattle.std.specs.Prelude.{◌≡◌, ℕ, List, Option, IfSome, MatchResult, Result, ◌+◌, length, sum_by, true}
use Rattle.std.specs.Io.KnownBytes.{Appends}
use Rattle.atomic_table.specs.Seated.{TableId}
use Rattle.blob_digest.specs.declared.range.ByteRange.{ByteRange}
use Rattle.blob_digest.specs.declared.refusal.Refusal.{Refusal}
use Rattle.spec_lib.specs.Texts.{Text}
use Rattle.locked_book.specs.declared.desk.Settled.{Settled}
use Rattle.locked_book.specs.declared.totals.Totals.{Totals}
use Rattle.pin_table.specs.Calls.{PinValue}
use Rattle.store_book.specs.BookState.{BookState}
use Rattle.store_model.specs.Amounts.{Amounts}
use Rattle.store_model.specs.BookText.{book_text}
use Rattle.store_model.specs.Catalog.{HandRecord, ContentRules}

-- the returned totals have these amounts
abbrev pub HasTotals : Totals → Amounts → Type 0
HasTotals totals a = (totals.commands ≡ a.commands) × (totals.received ≡ a.received) × (totals.closed ≡ a.closed) × (totals.abandoned ≡ a.abandoned)

-- the returned sums are these amounts
abbrev pub HasSums : Settled → Amounts → Type 0
HasSums sums a = (sums.commands ≡ a.commands) × (sums.received ≡ a.received) × (sums.closed ≡ a.closed) × (sums.abandoned ≡ a.abandoned)

-- the call fails, and with this error
abbrev pub FailsWith : {A : Type 0} → Result A Refusal → Refusal → Type 0
FailsWith result e = MatchResult result (λ _. ⊥) (λ x. x ≡ e)

-- an undivided pin of this table on the slot of this digest
abbrev pub IsPinOf : TableId → Text → PinValue → Type 0
IsPinOf table digest pin = (pin.table ≡ table) × (pin.hold.digest ≡ digest) × (pin.hold.weight ≡ 1024)

-- the content has this digest, in a store with these rules
abbrev pub HashesTo : ContentRules → Text → Text → Type 0
HashesTo rules bytes digest = is_named rules digest bytes ≡ true

-- the session's bytes and n more end with the range, if there is one
abbrev pub EndsWithRange : HandRecord → ℕ → Option ByteRange → Type 0
EndsWithRange hand n range = IfSome range (λ r. sum_by length hand.chunks + n ≡ r.end + 1)

-- the text of the book was appended to a writer with these contents
abbrev pub PrintsBook : {W : Type 0} → (W → Option (List ℕ)) → W → W → BookState → Type 0
PrintsBook contents old new book = Appends (contents old) (contents new) (book_text book.catalog)
