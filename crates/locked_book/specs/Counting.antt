-- The content under the lock, and the outcomes of commands on it with what they count.
use Rattle.std.specs.Prelude.{◌≡◌, ℕ, ◌+◌, ◌^◌, ◌<◌, nat_lt, ◌==◌, ◌||◌, not, Bool, List, Option, Result, Ok, Err, length, if◌then◌else◌}
use Rattle.std.proofs.Common.{refl}
use Rattle.std.specs.Coded.{Coded, code_by, coded×, coded_ℕ}
use Rattle.blob_digest.specs.declared.range.ByteRange.{ByteRange}
use Rattle.blob_digest.specs.declared.refusal.Refusal.{Refusal}
use Rattle.blob_digest.specs.declared.refusal.Refusal.TheVariants.{LimitReached}
use Rattle.blob_digest.specs.Outcomes.{OutcomeIn}
use Rattle.spec_lib.specs.Outcomes.{◌>>=◌, refuse}
use Rattle.spec_lib.specs.Texts.{Text}
use Rattle.store_model.specs.Catalog.{Catalog, HandRecord}
use Rattle.store_book.specs.BookState.{BookState, SlotView, coded_state}
use Rattle.store_book.specs.SlotSteps.{EachSlot}
use Rattle.store_model.specs.Commands.{Outcome, check_tenant, finish, put_back, take}
use Rattle.store_model.specs.Amounts.{Amounts, coded_amounts, command_amounts_of}
use Rattle.store_model.specs.Hands.{filled_length, checked_out_count, received_in_sessions, reserved_bytes}
use Rattle.locked_book.specs.Names.{StoreNames, setting_of}
use Rattle.locked_book.specs.Totals.{Counts, counts_after, fits_totals}

-- the content under the lock: the book and the counts
pub record StoreContent : Type 0 where
  pub book : BookState
  pub counts : Counts

-- counts as pairs of numbers, so that they can be compared
abbrev pub coded_counts : Coded Counts
coded_counts = code_by ((Amounts × Amounts) × ℕ) (coded× (coded× coded_amounts coded_amounts) coded_ℕ) (λ c. ((c.totals, c.settled), c.desks)) (λ p. record { totals = p.0.0; settled = p.0.1; desks = p.1 }) (λ _. refl)

-- a content as the pair of its book and its counts
abbrev pub coded_store_content : Coded StoreContent
coded_store_content = code_by (BookState × Counts) (coded× coded_state coded_counts) (λ k. (k.book, k.counts)) (λ p. record { book = p.0; counts = p.1 }) (λ _. refl)

-- the bytes received are those in sessions, closed and abandoned
abbrev pub IsBalanced : StoreContent → Type 0
IsBalanced k = k.counts.totals.received ≡ received_in_sessions k.book.catalog + k.counts.totals.closed + k.counts.totals.abandoned

-- ---- the invariant

-- This many sessions are checked out with this many bytes reserved, each of them can still be counted, the totals are balanced, and the book
-- has the table, the slots and the setting of the store.
abbrev pub IsKeptState : StoreNames → BookState → Counts → ℕ → ℕ → Type 0
IsKeptState names book counts hands reserve =
    (hands ≡ checked_out_count book.catalog)
    × (reserve ≡ reserved_bytes book.catalog)
    × (counts.totals.commands + hands < 2 ^ 64)
    × (counts.totals.received + reserve < 2 ^ 64)
    × IsBalanced (record { book = book; counts = counts })
    × (book.table ≡ names.table)
    × (length book.slots ≡ names.slots)
    × (setting_of book.catalog ≡ names.setting)

-- ---- counting

-- whether one more command with n bytes can be counted in addition to the checked-out sessions
abbrev pub has_room : StoreContent → ℕ → Bool
has_room k n = fits_totals k.counts.totals (checked_out_count k.book.catalog) (reserved_bytes k.book.catalog) n

-- the content with another catalog
abbrev pub with_catalog : StoreContent → Catalog → StoreContent
with_catalog k C = record k { book = record k.book { catalog = C } }

-- the content with other slots
abbrev pub with_slots : StoreContent → List SlotView → StoreContent
with_slots k slots = record k { book = record k.book { slots = slots } }

-- the content after an accepted command of these amounts
abbrev pub with_counted : StoreContent → Catalog → Amounts → StoreContent
with_counted k C a = record (with_catalog k C) { counts = counts_after k.counts a }

-- the outcome of a step on the catalog of which nothing is counted
abbrev pub uncounted_outcome : {A : Type 0} → (Catalog → Outcome A) → StoreContent → OutcomeIn StoreContent A
uncounted_outcome step k = do
  done ← step k.book.catalog
  Ok (done.0, with_catalog k done.1)

-- the outcome of a step on the catalog; if it is accepted, the amounts of its result are counted in the totals
abbrev pub accepted_outcome : {A : Type 0} → (A → Amounts) → (Catalog → Outcome A) → StoreContent → OutcomeIn StoreContent A
accepted_outcome amounts step k = do
  done ← step k.book.catalog
  Ok (done.0, with_counted k done.1 (amounts done.0))

-- the outcome of checking a session in with its chunk
abbrev pub put_back_outcome : HandRecord → StoreContent → OutcomeIn StoreContent ℕ
put_back_outcome hand k = accepted_outcome (λ _. command_amounts_of (filled_length hand) 0 0) (λ C. put_back C hand) k

-- the outcome of finishing a checked-out session under a digest
abbrev pub finish_outcome : HandRecord → Text → StoreContent → OutcomeIn StoreContent ℕ
finish_outcome hand digest k = accepted_outcome (λ n. command_amounts_of (filled_length hand) n 0) (λ C. finish C hand digest) k

-- the outcome of a step that reserves n bytes: it fails if one more command with them can't be counted
abbrev pub reserving_outcome : {A : Type 0} → ℕ → (Catalog → Outcome A) → StoreContent → OutcomeIn StoreContent A
reserving_outcome n step k = do
  _ ← refuse (not (has_room k n)) LimitReached
  uncounted_outcome step k

-- the outcome of taking n bytes into a session: it is checked out
abbrev pub take_outcome : Text → ℕ → Option ByteRange → ℕ → StoreContent → OutcomeIn StoreContent HandRecord
take_outcome repo number range n k = reserving_outcome n (λ C. take C repo number range n) k

-- the outcome of checking a session in unchanged: nothing is counted
abbrev pub cancel_outcome : HandRecord → StoreContent → OutcomeIn StoreContent ℕ
cancel_outcome hand k = uncounted_outcome (λ C. put_back C hand) k

-- the result of the check that all commands begin with: one more can be counted, and the tenant exists
abbrev pub common_check : StoreContent → Text → Result (Unit {0}) Refusal
common_check k repo = if has_room k 0 then check_tenant k.book.catalog repo else Err LimitReached

-- ---- desks

-- the content with n more desks
abbrev pub with_desks : StoreContent → ℕ → StoreContent
with_desks k n = record k { counts = record k.counts { desks = k.counts.desks + n } }

-- whether n is 0, or n more desks would be more than 1,024
abbrev pub cannot_hand_out : StoreContent → ℕ → Bool
cannot_hand_out k n = n == 0 || nat_lt 1024 (k.counts.desks + n)

-- the outcome of handing out n more desks
abbrev pub hand_out_outcome : ℕ → StoreContent → OutcomeIn StoreContent (Unit {0})
hand_out_outcome n k = do
  _ ← refuse (cannot_hand_out k n) LimitReached
  Ok (tt, with_desks k n)

-- ---- what a call leaves unchanged

-- the book and the totals are unchanged
abbrev pub KeepsTotals : StoreContent → StoreContent → Type 0
KeepsTotals old new = (new.book ≡ old.book) × (new.counts.totals ≡ old.counts.totals)

-- the catalog and the counts are unchanged
abbrev pub KeepsCatalog : StoreContent → StoreContent → Type 0
KeepsCatalog old new = (new.book.catalog ≡ old.book.catalog) × (new.counts ≡ old.counts)

-- each slot of the new content is related to that slot of the old one
abbrev pub EachSlotOf : (SlotView → SlotView → Type 0) → StoreContent → StoreContent → Type 0
EachSlotOf R old new = EachSlot R old.book.slots new.book.slots
