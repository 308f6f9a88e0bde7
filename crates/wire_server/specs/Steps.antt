-- The steps of requests on a store and a table of leases, by the relations that these declare: `acts` and `finds` of the store, `does` of the
-- table.
use Rattle.std.specs.Prelude.{◌≡◌, ◌⊎◌, ◌==◌, ◌<◌, ◌≤◌, ℕ, Bool, length, true, false, Option, Some, None, Result, Ok, Err, MatchResult}
use Rattle.blob_digest.specs.declared.range.ByteRange.{ByteRange}
use Rattle.blob_digest.specs.declared.refusal.Refusal.{Refusal}
use Rattle.blob_digest.specs.declared.refusal.Refusal.TheVariants.{Memory}
use Rattle.wire_format.specs.Frames.{digest_of, payload_len}
use Rattle.wire_format.specs.declared.request.Head.{Head}
use Rattle.wire_format.specs.declared.request.RequestFrame.{RequestFrame as Incoming}
use Rattle.spec_lib.specs.Texts.{Text}
use Rattle.store_api.specs.Answers.{Answer, Bytes, GivenBack, NoLease, Refused, Swept as SweptAnswer, answer_of}
use Rattle.store_api.specs.Commands.{Command, StoreRequest, Calls, SweepsInParts, digest_in}
use Rattle.store_api.specs.LeaseViews.{Extent, IsLocatedAt, IsPieceRead, LeaseView as LentView, bytes_between, extent, stored_bytes}
use Rattle.store_api.specs.Steps.{StepOf}
use Rattle.store_api.specs.declared.reply.Reply.{Reply}
use Rattle.store_api.specs.declared.verb.Verb.{Verb}
use Rattle.store_api.specs.declared.verb.Verb.TheVariants as verb
use Rattle.store_model.specs.Catalog.{Catalog}
use Rattle.store_model.specs.declared.swept.Swept.{Swept as SweptCounts}
use Rattle.wire_server.specs.LeaseEvents.{TableEvent, LeaseKept, LeaseNotKept, PieceRead, PieceNotRead, LeaseGivenBack as GaveBack, LeaseNotGivenBack, IsExtentOf}
use Rattle.wire_server.specs.Outcomes.{RequestResult, Answered, NewLease, Fetched, Located, NoFile, Unreadable, outcome_of}
use Rattle.wire_server.specs.Queries.{QueryStep, query_has_fields, query_in, request_query}
use Rattle.wire_server.specs.Requests.{command_in, ends_of, fetch_number, locate_number, max_fetched, range_of, request_command, verb_has_fields, verb_of}
use Rattle.wire_server.specs.declared.outcome.RequestResult.{RequestResult as Code}

-- ---- commands that return a reply

-- the result is that of a script's row with this command, or out of memory with nothing changed
abbrev pub IsCommandResult : {S : Type 0} → (S → StoreRequest → Answer → S → Type 0) → Result (Option Command) Refusal → S → Result Reply Refusal → S → Type 0
IsCommandResult acts spelled old (Ok reply) new = StepOf acts spelled old (answer_of reply) new
IsCommandResult acts spelled old (Err refusal) new = ((refusal ≡ Memory) × (new ≡ old)) ⊎ StepOf acts spelled old (Refused refusal) new

-- the outcome is that of a script's row with this command, and no lease changes
abbrev pub CommandStep : {S T : Type 0} → (S → StoreRequest → Answer → S → Type 0) → Result (Option Command) Refusal → S × T → RequestResult → S × T → Type 0
CommandStep acts spelled old (Answered answer) new = StepOf acts spelled old.0 answer new.0 × (new.1 ≡ old.1)
CommandStep acts spelled old outcome new = ⊥

-- ---- leases

-- the store lends a blob, whose lease is kept or given back for lack of memory, or it fails
abbrev pub LeasesBlob : {S T : Type 0} → (S → StoreRequest → Answer → S → Type 0) → (T → TableEvent → T → Type 0) → Command → S × T → RequestResult → S × T → Type 0
LeasesBlob acts does command old (NewLease size number) new = (lent : LentView) × (size ≡ length lent.bytes) × acts old.0 (Calls command) (Bytes lent.bytes) new.0 × does old.1 (LeaseKept lent number) new.1
LeasesBlob acts does command old (Answered answer) new =
    ((refusal : Refusal) × (answer ≡ Refused refusal) × acts old.0 (Calls command) (Refused refusal) new.0 × (new.1 ≡ old.1))
    ⊎ ((lent : LentView) × (answer ≡ Refused Memory) × acts old.0 (Calls command) (Bytes lent.bytes) new.0 × does old.1 (LeaseNotKept lent) new.1)
LeasesBlob acts does command old outcome new = ⊥

-- the spelled command lends a blob, or its refusal is the outcome
abbrev pub LeaseStep : {S T : Type 0} → (S → StoreRequest → Answer → S → Type 0) → (T → TableEvent → T → Type 0) → Result (Option Command) Refusal → S × T → RequestResult → S × T → Type 0
LeaseStep acts does (Ok (Some command)) old outcome new = LeasesBlob acts does command old outcome new
LeaseStep acts does (Ok None) old outcome new = ⊥
LeaseStep acts does (Err refusal) old outcome new = (outcome ≡ Answered (Refused refusal)) × (new ≡ old)

-- the result is that of the request for a lease, or out of memory with nothing changed
abbrev pub IsLeaseResult : {S T : Type 0} → (S → StoreRequest → Answer → S → Type 0) → (T → TableEvent → T → Type 0) → Incoming → S × T → Result Code Refusal → S × T → Type 0
IsLeaseResult acts does request old result new =
    MatchResult result (λ o. LeaseStep acts does (command_in verb.Lease request) old (outcome_of o) new)
    (λ e. ((e ≡ Memory) × (new.0 ≡ old.0) × (new.1 ≡ old.1)) ⊎ LeaseStep acts does (command_in verb.Lease request) old (Answered (Refused e)) new)

-- ---- fetches

-- the lease is kept under the number of the outcome
abbrev pub IsLeaseKept : {T : Type 0} → (T → TableEvent → T → Type 0) → LentView → T → RequestResult → T → Type 0
IsLeaseKept does lent old (NewLease size number) new = (size ≡ length lent.bytes) × does old (LeaseKept lent number) new
IsLeaseKept does lent old outcome new = ⊥

-- the lease was kept, with this outcome
abbrev pub KeepsLease : {T : Type 0} → (T → TableEvent → T → Type 0) → LentView → T → T → Code → Type 0
KeepsLease does lent old new outcome = IsLeaseKept does lent old (outcome_of outcome) new

-- the lease was given back, since memory ran out
abbrev pub LosesLease : {T : Type 0} → (T → TableEvent → T → Type 0) → LentView → T → T → Refusal → Type 0
LosesLease does lent old new refusal = (refusal ≡ Memory) × does old (LeaseNotKept lent) new

-- the number is the length of the piece between the ends of any blob of the size
abbrev pub IsPieceLen : ℕ → ℕ → ℕ → ℕ → Type 0
IsPieceLen size start end n = (bytes : Text) → length bytes ≡ size → n ≡ length (bytes_between bytes start end)

-- the outcome is a piece of the content that is read for the extent; or contents may lie in files, and it cannot be read
abbrev pub IsReadOutcome : Bool → Extent → RequestResult → Type 0
IsReadOutcome on_disk x (Fetched size piece) = (size ≡ length x.content) × IsPieceRead on_disk x piece
IsReadOutcome on_disk x Unreadable = on_disk ≡ true
IsReadOutcome on_disk x outcome = ⊥

-- the outcome is the piece that is read for the extent, or memory ran out
abbrev pub ReadsFetched : Bool → Extent → Result Code Refusal → Type 0
ReadsFetched on_disk x result = MatchResult result (λ o. IsReadOutcome on_disk x (outcome_of o)) (λ e. e ≡ Memory)

-- the outcome is the piece that is read of the lent blob, or memory ran out
abbrev pub HandsOver : Bool → LentView → ℕ → ℕ → Result Code Refusal → Type 0
HandsOver on_disk lent start end result = ReadsFetched on_disk (extent lent.bytes start end) result

-- The store lends a blob, or it fails. A short piece between the ends is the outcome, or that it cannot be read, and no lease is kept. For a long
-- piece the lease is kept under a number, or given back for lack of memory.
abbrev pub FetchesPiece : {S T : Type 0} → Bool → (S → StoreRequest → Answer → S → Type 0) → (T → TableEvent → T → Type 0) → Command → ℕ × ℕ → S × T → RequestResult → S × T → Type 0
FetchesPiece on_disk acts does command ends old (Fetched size piece) new =
    (lent : LentView) × (size ≡ length lent.bytes) × IsPieceRead on_disk (extent lent.bytes ends.0 ends.1) piece × (length (bytes_between lent.bytes ends.0 ends.1) ≤ max_fetched)
    × acts old.0 (Calls command) (Bytes lent.bytes) new.0 × (new.1 ≡ old.1)
FetchesPiece on_disk acts does command ends old Unreadable new =
    (lent : LentView) × (on_disk ≡ true) × acts old.0 (Calls command) (Bytes lent.bytes) new.0 × (new.1 ≡ old.1)
FetchesPiece on_disk acts does command ends old (NewLease size number) new =
    (lent : LentView) × (size ≡ length lent.bytes) × (max_fetched < length (bytes_between lent.bytes ends.0 ends.1))
    × acts old.0 (Calls command) (Bytes lent.bytes) new.0 × does old.1 (LeaseKept lent number) new.1
FetchesPiece on_disk acts does command ends old (Answered answer) new =
    LeasesBlob acts does command old (Answered answer) new
    ⊎ ((lent : LentView) × (answer ≡ Refused Memory) × acts old.0 (Calls command) (Bytes lent.bytes) new.0 × (new.1 ≡ old.1))
FetchesPiece on_disk acts does command ends old outcome new = ⊥

-- the spelled command and range fetch a piece, or the refusal of a field is the outcome
abbrev pub FetchStep : {S T : Type 0} → Bool → (S → StoreRequest → Answer → S → Type 0) → (T → TableEvent → T → Type 0) → Result (Option Command) Refusal → Result (Option ByteRange) Refusal → S × T → RequestResult → S × T → Type 0
FetchStep on_disk acts does (Ok (Some command)) (Ok range) old outcome new = FetchesPiece on_disk acts does command (ends_of range) old outcome new
FetchStep on_disk acts does (Ok (Some command)) (Err refusal) old outcome new = (outcome ≡ Answered (Refused refusal)) × (new ≡ old)
FetchStep on_disk acts does (Ok None) range old outcome new = ⊥
FetchStep on_disk acts does (Err refusal) range old outcome new = (outcome ≡ Answered (Refused refusal)) × (new ≡ old)

-- the result is that of the fetch, or out of memory with nothing changed
abbrev pub IsFetchResult : {S T : Type 0} → Bool → (S → StoreRequest → Answer → S → Type 0) → (T → TableEvent → T → Type 0) → Incoming → S × T → Result Code Refusal → S × T → Type 0
IsFetchResult on_disk acts does request old (Ok outcome) new = FetchStep on_disk acts does (command_in verb.Lease request) (range_of request.head) old (outcome_of outcome) new
IsFetchResult on_disk acts does request old (Err refusal) new =
    ((refusal ≡ Memory) × (new ≡ old)) ⊎ FetchStep on_disk acts does (command_in verb.Lease request) (range_of request.head) old (Answered (Refused refusal)) new

-- ---- existing leases

-- the outcome of a read of the extent: the piece that is read; or memory ran out; or contents may lie in files, and it cannot be read
abbrev pub IsExtentOutcome : Bool → Extent → RequestResult → Type 0
IsExtentOutcome on_disk x (Answered (Bytes piece)) = IsPieceRead on_disk x piece
IsExtentOutcome on_disk x (Answered (Refused refusal)) = refusal ≡ Memory
IsExtentOutcome on_disk x Unreadable = on_disk ≡ true
IsExtentOutcome on_disk x outcome = ⊥

-- The outcome of a request for the place of the extent: where it lies; or that it lies in no file, or has no bytes; or memory ran out; or contents may
-- lie in files, and it cannot be read.
abbrev pub IsPlaceOutcome : Bool → Extent → RequestResult → Type 0
IsPlaceOutcome on_disk x (Located file offset notes) = IsLocatedAt on_disk x offset notes
IsPlaceOutcome on_disk x NoFile = Unit {0}
IsPlaceOutcome on_disk x (Answered (Refused refusal)) = refusal ≡ Memory
IsPlaceOutcome on_disk x Unreadable = on_disk ≡ true
IsPlaceOutcome on_disk x outcome = ⊥

-- the outcome is that of a read of the extent, or of a request for its place
abbrev pub IsOutcomeOfExtent : Bool → (located : Bool) → Extent → RequestResult → Type 0
IsOutcomeOfExtent on_disk false x outcome = IsExtentOutcome on_disk x outcome
IsOutcomeOfExtent on_disk true x outcome = IsPlaceOutcome on_disk x outcome

-- the result is that of a read of the extent, or of a request for its place
abbrev pub ReadsExtent : Bool → (located : Bool) → Extent → Result Code Refusal → Type 0
ReadsExtent on_disk located x result = MatchResult result (λ o. IsOutcomeOfExtent on_disk located x (outcome_of o)) (λ e. e ≡ Memory)

-- the outcome is that of a read of the leased blob, which has the named digest, or of a request for its place, or there is no such lease
abbrev pub ReadsPiece : {T : Type 0} → Bool → (located : Bool) → (T → TableEvent → T → Type 0) → ℕ → Text → ℕ × ℕ → T → RequestResult → T → Type 0
ReadsPiece on_disk located does number digest ends old outcome new =
    ((x : Extent) × IsExtentOf digest ends.0 ends.1 x × IsOutcomeOfExtent on_disk located x outcome × does old (PieceRead number digest ends.0 ends.1 (stored_bytes x)) new)
    ⊎ ((outcome ≡ Answered NoLease) × does old (PieceNotRead number digest) new)

-- the spelled digest and range read a piece of the lease or ask for its place, or the refusal of a field is the outcome
abbrev pub ReadStep : {T : Type 0} → Bool → (located : Bool) → (T → TableEvent → T → Type 0) → ℕ → Result Text Refusal → Result (Option ByteRange) Refusal → T → RequestResult → T → Type 0
ReadStep on_disk located does number (Ok digest) (Ok range) old outcome new = ReadsPiece on_disk located does number digest (ends_of range) old outcome new
ReadStep on_disk located does number (Ok digest) (Err refusal) old outcome new = (outcome ≡ Answered (Refused refusal)) × (new ≡ old)
ReadStep on_disk located does number (Err refusal) range old outcome new = (outcome ≡ Answered (Refused refusal)) × (new ≡ old)

-- the result is that of the read, or out of memory with nothing changed
abbrev pub IsReadResult : {T : Type 0} → Bool → (located : Bool) → (T → TableEvent → T → Type 0) → Incoming → T → Result Code Refusal → T → Type 0
IsReadResult on_disk located does request old result new =
    let digest = digest_in (digest_of request.head request.payload.now) in
    MatchResult result (λ o. ReadStep on_disk located does request.head.number digest (range_of request.head) old (outcome_of o) new)
    (λ e. ((e ≡ Memory) × (new ≡ old)) ⊎ ReadStep on_disk located does request.head.number digest (range_of request.head) old (Answered (Refused e)) new)

-- the lease of the number is given back, or there is no such lease
abbrev pub GiveBackStep : {T : Type 0} → (T → TableEvent → T → Type 0) → ℕ → T → RequestResult → T → Type 0
GiveBackStep does number old outcome new =
    ((outcome ≡ Answered GivenBack) × does old (GaveBack number) new)
    ⊎ ((outcome ≡ Answered NoLease) × does old (LeaseNotGivenBack number) new)

-- ---- requests

-- the outcome is that of a sweep of the store in parts
abbrev pub SweepStep : {S : Type 0} → (S → StoreRequest → Answer → S → Type 0) → S → RequestResult → S → Type 0
SweepStep acts old outcome new = (swept : SweptCounts) × (outcome ≡ Answered (SweptAnswer swept)) × acts old SweepsInParts (SweptAnswer swept) new

-- the step of a request whose first byte names no verb: a fetch, a request for the place of bytes, or a query, which changes nothing
abbrev pub NoVerbStep : {S T : Type 0} → Bool → (S → StoreRequest → Answer → S → Type 0) → (S → Catalog → Type 0) → (T → TableEvent → T → Type 0) → (fetch located : Bool) → S × T → Head → Text → RequestResult → S × T → Type 0
NoVerbStep on_disk acts finds does true located old h payload outcome new = FetchStep on_disk acts does (request_command verb.Lease h payload) (range_of h) old outcome new
NoVerbStep on_disk acts finds does false true old h payload outcome new = ReadStep on_disk true does h.number (digest_in (digest_of h payload)) (range_of h) old.1 outcome new.1 × (new.0 ≡ old.0)
NoVerbStep on_disk acts finds does false false old h payload outcome new = QueryStep finds old.0 (request_query h payload) outcome × (new ≡ old)

-- the step of a request, by the verb of its first byte
abbrev pub VerbStep : {S T : Type 0} → Bool → (S → StoreRequest → Answer → S → Type 0) → (S → Catalog → Type 0) → (T → TableEvent → T → Type 0) → Option Verb → S × T → Head → Text → RequestResult → S × T → Type 0
VerbStep on_disk acts finds does None old h payload outcome new = NoVerbStep on_disk acts finds does (h.command == fetch_number) (h.command == locate_number) old h payload outcome new
VerbStep on_disk acts finds does (Some verb.Lease) old h payload outcome new = LeaseStep acts does (request_command verb.Lease h payload) old outcome new
VerbStep on_disk acts finds does (Some verb.Read) old h payload outcome new = ReadStep on_disk false does h.number (digest_in (digest_of h payload)) (range_of h) old.1 outcome new.1 × (new.0 ≡ old.0)
VerbStep on_disk acts finds does (Some verb.GiveBack) old h payload outcome new = GiveBackStep does h.number old.1 outcome new.1 × (new.0 ≡ old.0)
VerbStep on_disk acts finds does (Some verb.Sweep) old h payload outcome new = SweepStep acts old.0 outcome new.0 × (new.1 ≡ old.1)
VerbStep on_disk acts finds does (Some verb) old h payload outcome new = CommandStep acts (request_command verb h payload) old outcome new

-- the request can run out of memory before the store is called: it has a payload, or its command, query or fetch has fields, or it asks for the place of bytes
abbrev pub TakesMemory : Head → Type 0
TakesMemory h = (0 < payload_len h) ⊎ (verb_has_fields (verb_of h.command) ≡ true) ⊎ (query_has_fields h.command ≡ true) ⊎ (h.command ≡ fetch_number) ⊎ (h.command ≡ locate_number)

-- the request is played; or it takes memory, memory runs out, and nothing changes
abbrev pub RequestStep : {S T : Type 0} → Bool → (S → StoreRequest → Answer → S → Type 0) → (S → Catalog → Type 0) → (T → TableEvent → T → Type 0) → S × T → Head → Text → RequestResult → S × T → Type 0
RequestStep on_disk acts finds does old h payload outcome new =
    (TakesMemory h × (outcome ≡ Answered (Refused Memory)) × (new ≡ old)) ⊎ VerbStep on_disk acts finds does (verb_of h.command) old h payload outcome new

-- the step of a request frame
abbrev pub PlaysRequest : {S T : Type 0} → Bool → (S → StoreRequest → Answer → S → Type 0) → (S → Catalog → Type 0) → (T → TableEvent → T → Type 0) → S × T → Incoming → Code → S × T → Type 0
PlaysRequest on_disk acts finds does old request outcome new = RequestStep on_disk acts finds does old request.head request.payload.now (outcome_of outcome) new

-- the outcome is that of the request as a query, or out of memory
abbrev pub IsQueryResult : {S : Type 0} → (S → Catalog → Type 0) → S → Incoming → Code → Type 0
IsQueryResult finds store request outcome =
    (TakesMemory request.head × (outcome_of outcome ≡ Answered (Refused Memory))) ⊎ QueryStep finds store (query_in request) (outcome_of outcome)
