-- A store's history and a desk's part of it, as contracts see them, and how calls change them.
use Rattle.std.specs.Prelude.{◌≡◌, ◌⊎◌, ◌<◌, ◌≤◌, ℕ, List, [], ◌∷◌, ◌++◌, None, Some, Option, Result, Ok, Err, get_or, length, map}
use Rattle.blob_digest.specs.declared.range.ByteRange.{ByteRange}
use Rattle.blob_digest.specs.declared.refusal.Refusal.{Refusal}
use Rattle.blob_digest.specs.declared.refusal.Refusal.TheVariants.{Memory, SizeInvalid, ManifestInvalid}
use Rattle.spec_lib.specs.Texts.{Text}
use Rattle.oci_manifest.specs.Manifests.{refs_of, max_manifest}
use Rattle.ghost_log.specs.declared.view.Entry.{Entry}
use Rattle.ghost_log.specs.Entries.{IsPrefix, entry, events_by}
use Rattle.store_model.specs.Amounts.{Amounts, zero_amounts, add_amounts, sum_of}
use Rattle.store_model.specs.Catalog.{Catalog, HandRecord}
use Rattle.store_model.specs.Histories.{Step, CommandCall, TakeCall, PutBackCall, FinishCall, State, LeadsTo, IsLegal, IsStep, step_amounts}
use Rattle.store_model.specs.Runs.{PutManifest}
use Rattle.store_book.specs.BookState.{BookState}
use Rattle.locked_book.specs.Counting.{IsKeptState, StoreContent}
use Rattle.locked_book.specs.Names.{StoreNames}
use Rattle.locked_book.specs.Totals.{Counts}

-- the steps of a log, in order
abbrev pub steps_of : List (Entry Step) → List Step
steps_of [] = []
steps_of (e ∷ es) = e.event ∷ steps_of es

-- the state of a content: the catalog of its book, with the totals
abbrev pub state_of : StoreContent → State
state_of k = record { catalog = k.book.catalog; totals = k.counts.totals }

-- a log leads from the opening catalog to this state
abbrev pub LogLeadsTo : Catalog → List (Entry Step) → State → Type 0
LogLeadsTo C entries s = LeadsTo C (steps_of entries) s

-- With this many checked-out sessions and this many bytes reserved, the counts and the history are those of a book of the store: each session can
-- still be counted, the totals are balanced, and the history leads to the book and the totals.
abbrev pub AreRecordsOf : StoreNames → BookState → ℕ → ℕ → Counts → List (Entry Step) → Type 0
AreRecordsOf names book hands reserve counts entries =
    IsKeptState names book counts hands reserve
    × LogLeadsTo names.opening entries (state_of (record { book = book; counts = counts }))

-- some state that the log leads to allows this step
abbrev pub Allows : Catalog → List (Entry Step) → Step → Type 0
Allows C entries step = (s : State) × (s' : State) × LogLeadsTo C entries s × IsStep s step s'

-- this step, made in a state that the old log leads to, gives a state that the new log leads to
abbrev pub LeadsOn : Catalog → List (Entry Step) → Step → List (Entry Step) → Type 0
LeadsOn C old step new = (s s' : State) → LogLeadsTo C old s → IsStep s step s' → LogLeadsTo C new s'

-- a desk's part of the history: its number, the prefix of the history that it has seen, its own steps, and the prefix that it knows to be durable
pub record Trace : Type 0 where
  pub number : ℕ
  pub seen : List (Entry Step)
  pub own : List Step
  pub durable : List (Entry Step)

-- The prefix that was seen is a legal history, and its steps under this number are exactly the desk's own steps, in order.
pub record IsPart (C : Catalog) (trace : Trace) : Type 0 where
  pub legal : IsLegal C (steps_of trace.seen)
  pub own : events_by trace.number trace.seen ≡ trace.own

-- what contracts see of a desk
pub record DeskView : Type 0 where
  pub amounts : Amounts
  pub trace : Trace

-- the amounts of desks
abbrev pub amounts_of : List DeskView → List Amounts
amounts_of desks = map (λ d. d.amounts) desks

-- the sum of the amounts of desks
abbrev pub total_of : List DeskView → Amounts
total_of desks = sum_of (amounts_of desks)

-- all amounts of these desks were settled
abbrev pub SettlesAll : Counts → Counts → List DeskView → Type 0
SettlesAll old new desks = new.settled ≡ add_amounts old.settled (total_of desks)

-- the steps of each desk
abbrev pub steps_of_each : List DeskView → List (List Step)
steps_of_each desks = map (λ d. d.trace.own) desks

-- each number has in the log the steps at its place in the list
abbrev pub HasStepsOf : List (Entry Step) → List (List Step) → Type 0
HasStepsOf entries lists = (n : ℕ) → events_by n entries ≡ get_or lists n []

-- Some history leads from the opening catalog to this state, and each number has in it exactly the steps at its place in the lists.
pub record IsWholeHistory (C : Catalog) (s : State) (lists : List (List Step)) : Type 0 where
  pub order : List (Entry Step)
  pub leads : LogLeadsTo C order s
  pub each : HasStepsOf order lists

-- these desks made all steps of a history that leads to this content
abbrev pub IsMadeBy : Catalog → StoreContent → List DeskView → Type 0
IsMadeBy C k desks = IsWholeHistory C (state_of k) (steps_of_each desks)

-- the desk has no amounts and no steps, and knows nothing to be durable
abbrev pub IsFreshDesk : DeskView → Type 0
IsFreshDesk d = (d.amounts ≡ zero_amounts) × (d.trace.own ≡ []) × (d.trace.durable ≡ [])

-- each of these desks is fresh
abbrev pub AreFreshDesks : List DeskView → Type 0
AreFreshDesks [] = Unit {0}
AreFreshDesks (d ∷ ds) = IsFreshDesk d × AreFreshDesks ds

-- Exactly this step was added at the end of a legal history, which continues all that the desk had seen. The steps under the desk's number are
-- exactly its own steps, in order, with this one as the last.
pub record Adds (C : Catalog) (old : Trace) (step : Step) (new : Trace) : Type 0 where
  pub between : List (Entry Step)
  pub seen : new.seen ≡ (old.seen ++ between) ++ entry old.number step ∷ []
  pub own : new.own ≡ old.own ++ step ∷ []
  pub number : new.number ≡ old.number
  pub durable : new.durable ≡ old.durable
  pub agrees : events_by new.number new.seen ≡ new.own
  pub legal : IsLegal C (steps_of new.seen)

-- A desk made this step: its amounts grew by what the step counts, and exactly this step was added to the history.
pub record Makes (C : Catalog) (step : Step) (old new : DeskView) : Type 0 where
  pub amounts : new.amounts ≡ add_amounts old.amounts (step_amounts step)
  pub adds : Adds C old.trace step new.trace

-- the desk made the step of checking a session out
abbrev pub MakesCheckOut : StoreNames → Text → ℕ → Option ByteRange → ℕ → Result HandRecord Refusal → DeskView → DeskView → Type 0
MakesCheckOut names repo number range n result old new = Makes names.opening (TakeCall repo number range n result) old new

-- the desk made the step of a put of these bytes that failed with this error
abbrev pub MakesFailedPut : StoreNames → Text → Text → DeskView → DeskView → Refusal → Type 0
MakesFailedPut names repo bytes old new e = Makes names.opening (CommandCall (PutManifest repo bytes) (Err e)) old new

-- the desk's amounts are unchanged
abbrev pub KeepsAmounts : DeskView → DeskView → Type 0
KeepsAmounts old new = new.amounts ≡ old.amounts

-- A writer without steps added exactly this step at the end of a history, which leads to one state, and with the step to another.
pub record AddsByNobody (C : Catalog) (before : State) (step : Step) (after : State) : Type 0 where
  pub nobody : Trace
  pub fresh : nobody.own ≡ []
  pub found : LogLeadsTo C nobody.seen before
  pub wrote : Trace
  pub adds : Adds C nobody step wrote
  pub leads : LogLeadsTo C wrote.seen after

-- ---- two desks

-- one of two views of a history is a prefix of the other
abbrev pub OneBegins : List (Entry Step) → List (Entry Step) → Type 0
OneBegins one other = IsPrefix one other ⊎ IsPrefix other one

-- A desk has now seen the whole history, which continues all that it had seen, and whose steps under its number are exactly its own, in order.
pub record SeesAll (whole : List (Entry Step)) (old new : Trace) : Type 0 where
  pub began : IsPrefix old.seen whole
  pub seen : new.seen ≡ whole
  pub agrees : events_by old.number whole ≡ old.own
  pub number : new.number ≡ old.number
  pub own : new.own ≡ old.own
  pub durable : new.durable ≡ old.durable

-- two desks have seen all of one legal history
pub record AreInOneHistory (C : Catalog) (one one_new other other_new : Trace) : Type 0 where
  pub whole : List (Entry Step)
  pub legal : IsLegal C (steps_of whole)
  pub sees_one : SeesAll whole one one_new
  pub sees_other : SeesAll whole other other_new

-- two desks have seen all of one legal history, in which each made its own steps
abbrev pub SeeOneHistory : Catalog → DeskView → DeskView → DeskView → DeskView → Type 0
SeeOneHistory C one one_new other other_new = AreInOneHistory C one.trace one_new.trace other.trace other_new.trace

-- the checked-out session with its chunk
abbrev pub filled_hand : HandRecord → Text → HandRecord
filled_hand hand bytes = record hand { last = Some bytes }

-- a session was checked out, and checked in unchanged after its chunk could not be allocated
pub record CancelsCheckOut (C : Catalog) (old : Trace) (repo : Text) (number : ℕ) (range : Option ByteRange) (bytes : Text) (new : Trace) : Type 0 where
  pub hand : HandRecord
  pub mid : Trace
  pub back : Result ℕ Refusal
  pub take : Adds C old (TakeCall repo number range (length bytes) (Ok hand)) mid
  pub put_back : Adds C mid (PutBackCall hand back) new

-- An append is two steps, in which its session is checked out and checked in with the chunk; it is one step if the check-out fails.
abbrev pub AppendsChunk : Catalog → Trace → Text → ℕ → Option ByteRange → Text → Result ℕ Refusal → Trace → Type 0
AppendsChunk C old repo number range bytes result new =
    ((e : Refusal) × (result ≡ Err e) × Adds C old (TakeCall repo number range (length bytes) (Err e)) new)
    ⊎ ((hand : HandRecord) × (mid : Trace) × Adds C old (TakeCall repo number range (length bytes) (Ok hand)) mid × Adds C mid (PutBackCall (filled_hand hand bytes) result) new)
    ⊎ ((result ≡ Err Memory) × CancelsCheckOut C old repo number range bytes new)

-- A close is two steps, in which its session is checked out and finished with the last chunk; it is one step if the check-out fails.
abbrev pub ClosesSession : Catalog → Trace → Text → ℕ → Text → Option ByteRange → Text → Result ℕ Refusal → Trace → Type 0
ClosesSession C old repo number digest range bytes result new =
    ((e : Refusal) × (result ≡ Err e) × Adds C old (TakeCall repo number range (length bytes) (Err e)) new)
    ⊎ ((hand : HandRecord) × (mid : Trace) × Adds C old (TakeCall repo number range (length bytes) (Ok hand)) mid × Adds C mid (FinishCall (filled_hand hand bytes) digest result) new)
    ⊎ ((result ≡ Err Memory) × CancelsCheckOut C old repo number range bytes new)

-- the bytes are not parsed with this error: they are too long or no manifest, or memory ran out
abbrev pub IsUnread : Text → Refusal → Type 0
IsUnread bytes e = ((e ≡ SizeInvalid) × (max_manifest < length bytes)) ⊎ ((e ≡ ManifestInvalid) × (length bytes ≤ max_manifest) × (refs_of bytes ≡ None)) ⊎ (e ≡ Memory)
