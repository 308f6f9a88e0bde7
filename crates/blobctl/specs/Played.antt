-- The effect of a script on a store, and the text that it writes.
use Rattle.std.specs.Prelude.{◌≡◌, ◌≢◌, ◌⊎◌, ℕ, ◌+◌, ◌<◌, ◌≤◌, false, List, ◌++◌, Ok, Err}
use Rattle.std.specs.Global.{Vec}
use Rattle.spec_lib.specs.Texts.{Text}
use Rattle.blob_digest.specs.Tenants.{Tenant}
use Rattle.blob_digest.specs.declared.refusal.Refusal.{Refusal}
use Rattle.blob_digest.specs.declared.refusal.Refusal.TheVariants.{Memory, TooManyReaders}
use Rattle.store_model.specs.Catalog.{Catalog, in_memory}
use Rattle.store_book.specs.Openings.{OpensCatalog, tenants_shown}
use Rattle.store_book.specs.declared.config.Config.{Config}
use Rattle.store_model.specs.BookText.{book_text}
use Rattle.store_model.specs.Runs as runs
use Rattle.store_model.specs.Commands as steps
use Rattle.store_book.specs.BookState.{BookState, SlotView}
use Rattle.store_book.specs.SlotSteps.{EachSlot, HasLastGeneration, IsCrowded}
use Rattle.store_model.specs.Sweep.{IsSweep}
use Rattle.store_model.specs.declared.swept.Swept.{Swept as SweptCounts}
use Rattle.store_api.specs.Answers.{Answer, Verified, Swept, Refused, answers_of}
use Rattle.store_api.specs.declared.reply.Reply.{Reply}
use Rattle.store_api.specs.CommandAnswers.{command_answer}
use Rattle.store_api.specs.Commands.{Command, Lease, StoreRequest, Calls, Verifies, Sweeps, SweepsInParts}
use Rattle.script_player.specs.Leases as leases
use Rattle.script_player.specs.Plays.{Plays}
use Rattle.script_player.specs.Replies.{replies_text}
use Rattle.script_player.specs.Rows.{RowView}
use Rattle.blobctl.specs.Script.{AreRowsOf}

-- the reply and the catalog of a command, if no slot has too many readers
abbrev pub command_outcome : Catalog → Command → steps.Outcome Answer
command_outcome C command = runs.map_outcome (command_answer command) (runs.outcome false C command)

-- the reply and the catalog of an outcome: a refusal changes nothing
abbrev pub outcome_result : Catalog → steps.Outcome Answer → Answer × Catalog
outcome_result C (Ok x) = x
outcome_result C (Err refusal) = (Refused refusal, C)

-- a command leads from one catalog to another with its reply
abbrev pub CatalogLeadsCommand : Catalog → Command → Answer → Catalog → Type 0
CatalogLeadsCommand C command answer C' = (answer, C') ≡ outcome_result C (command_outcome C command)

-- a sweep leads from one catalog to another, and retires no slot
abbrev pub CatalogLeadsSweep : Catalog → Answer → Catalog → Type 0
CatalogLeadsSweep C answer C' = (swept : SweptCounts) × (answer ≡ Swept swept) × IsSweep C swept C' × (swept.retired ≡ 0)

-- a request leads from one catalog to another; no reply is `Memory` or `TooManyReaders`
abbrev pub CatalogLeads : Catalog → StoreRequest → Answer → Catalog → Type 0
CatalogLeads C (Calls command) answer C' = CatalogLeadsCommand C command answer C'
CatalogLeads C (Verifies size) answer C' = (answer ≡ Verified size) × (C' ≡ C)
CatalogLeads C Sweeps answer C' = CatalogLeadsSweep C answer C'
CatalogLeads C SweepsInParts answer C' = CatalogLeadsSweep C answer C'

-- ---- the same for a book: any command may fail with `Memory`, and a lease with `TooManyReaders` if its slot is crowded

-- a lease fails because its slot had no room for one more reader
abbrev pub IsCrowdedOut : List SlotView → Command → Refusal → Type 0
IsCrowdedOut slots (Lease repo digest) refusal = (refusal ≡ TooManyReaders) × IsCrowded digest slots
IsCrowdedOut slots command refusal = ⊥

-- a command on a book, whose slots are these after it
abbrev pub BookActsCommand : Catalog → List SlotView → Command → Answer → Catalog → Type 0
BookActsCommand C slots command (Refused refusal) C' = (refusal ≢ Memory → (command_outcome C command ≡ Err refusal) ⊎ IsCrowdedOut slots command refusal) × (C' ≡ C)
BookActsCommand C slots command answer C' = command_outcome C command ≡ Ok (answer, C')

-- a sweep of a book, which retires a slot only in its last generation
abbrev pub BookActsSweep : BookState → Answer → Catalog → Type 0
BookActsSweep s answer C' = (swept : SweptCounts) × (answer ≡ Swept swept) × IsSweep s.catalog swept C' × (0 < swept.retired → HasLastGeneration s.slots)

-- a slot's generation rises by one at most, and the bound on its readers' weights by one reader's at most
abbrev pub RisesByOne : SlotView → SlotView → Type 0
RisesByOne a b = (b.generation ≤ a.generation + 1) × (b.bound ≤ a.bound + 1024)

-- the effect of a request on a book
abbrev pub BookActs : BookState → StoreRequest → Answer → BookState → Type 0
BookActs s (Calls command) answer t = BookActsCommand s.catalog t.slots command answer t.catalog × EachSlot RisesByOne s.slots t.slots
BookActs s (Verifies size) answer t = (answer ≡ Verified size) × (t.catalog ≡ s.catalog) × EachSlot RisesByOne s.slots t.slots
BookActs s Sweeps answer t = BookActsSweep s answer t.catalog × EachSlot RisesByOne s.slots t.slots
BookActs s SweepsInParts answer t = BookActsSweep s answer t.catalog × EachSlot RisesByOne s.slots t.slots

-- ---- a run

-- playing the rows on this book, from no lease on, leaves that book with these replies
abbrev pub PlaysOnBook : BookState → List RowView → BookState × Vec Reply → Type 0
PlaysOnBook book rows end = (left : leases.Leases) × Plays BookActs (book, leases.no_leases) rows (answers_of end.1.items) (end.0, left)

-- playing the rows from an opening catalog, and from no lease on, leaves this book with these replies
abbrev pub PlaysFromOpening : Config → List RowView → BookState × Vec Reply → Type 0
PlaysFromOpening config rows end =
    (first : Catalog)
    × (left : leases.Leases)
    × OpensCatalog (tenants_shown config.tenants.items) config.slots (in_memory config.max_blob) first
    × Plays CatalogLeads (first, leases.no_leases) rows (answers_of end.1.items) (end.0.catalog, left)

-- playing the script on a store with these tenants writes this text: the replies to all its rows, and then the book;
-- no lane has a lease at first, and no reply is `Memory`
pub record Played (tenants : List Tenant) (slots max_blob : ℕ) (script text : Text) : Type 0 where
  pub first : Catalog
  pub opened : OpensCatalog tenants slots (in_memory max_blob) first
  pub rows : List RowView
  pub all : AreRowsOf script rows
  pub answers : List Answer
  pub last : Catalog
  pub left : leases.Leases
  pub run : Plays CatalogLeads (first, leases.no_leases) rows answers (last, left)
  pub written : text ≡ replies_text answers ++ book_text last
