-- The effect of a script's rows on a store and on the leases, by the relation of the store's steps.
use Rattle.std.specs.Prelude.{◌≡◌, ◌≢◌, ◌⊎◌, ◌<◌, ◌≤◌, ◌^◌, ℕ, ◌+◌, ◌-◌, ◌==◌, if◌then◌else◌, nat_le, List, [], ◌∷◌, ◌++◌, length, IfOk, MatchResult, Option, Some, None, option_and_then, Result, Ok, Err, Vec}
use Rattle.std.specs.FinMap as fmap
use Rattle.spec_lib.specs.Texts.{Text}
use Rattle.blob_digest.specs.Ranges.{range_of}
use Rattle.blob_digest.specs.declared.refusal.Refusal.{Refusal}
use Rattle.blob_digest.specs.declared.refusal.Refusal.TheVariants.{Memory, SizeInvalid, WeightSpent}
use Rattle.store_api.specs.Answers.{Answer, answer_of, answers_of, Leased, Bytes, Shared, GivenBack, NoLease, NameTaken, Refused}
use Rattle.store_api.specs.Steps.{StepOf}
use Rattle.store_api.specs.Commands.{StoreRequest, Calls, Verifies, Sweeps, Lease}
use Rattle.script_player.specs.RowCommands.{command_of}
use Rattle.store_api.specs.LeaseViews.{LeaseView, bytes_between, half_lease, new_lease}
use Rattle.script_player.specs.Leases.{Leases, Name, no_leases}
use Rattle.script_player.specs.Rows.{RowView}
use Rattle.script_player.specs.RowViews.{borrowed_view}
use Rattle.script_player.specs.Workers.{worker_rows}
use Rattle.script_player.specs.declared.row.BorrowedRow.{BorrowedRow}
use Rattle.script_player.specs.declared.worker.Worker.{Worker}
use Rattle.store_api.specs.declared.reply.Reply.{Reply}
use Rattle.store_api.specs.declared.verb.Verb.TheVariants as verb

-- the state of the store, and the leases that the lanes hold
abbrev pub State : Type 0 → Type 0
State S = S × Leases

-- the lease name that a row's key spells, in the row's lane
abbrev pub lease_name_of : RowView → Name
lease_name_of row = (row.lane, row.key)

-- the second lease name of a share, in the row's lane
abbrev pub second_name_of : RowView → Name
second_name_of row = (row.lane, row.body)

-- the lease that a row names
abbrev pub named_lease : Leases → RowView → Option LeaseView
named_lease leases row = fmap.get leases (lease_name_of row)

-- ---- rows of the store

-- the store does the command that a row spells
abbrev pub StoreStep : {S : Type 0} → (S → StoreRequest → Answer → S → Type 0) → S → RowView → Answer → S → Type 0
StoreStep acts old row answer new = StepOf acts (command_of row) old answer new

-- a row of a command: the store does it, and the leases are unchanged
abbrev pub StoreRow : {S : Type 0} → (S → StoreRequest → Answer → S → Type 0) → State S → RowView → Answer → State S → Type 0
StoreRow acts old row answer new = StoreStep acts old.0 row answer new.0 × (new.1 ≡ old.1)

-- a row of a sweep: the leases are unchanged
abbrev pub SweepRow : {S : Type 0} → (S → StoreRequest → Answer → S → Type 0) → State S → RowView → Answer → State S → Type 0
SweepRow acts old row answer new = (row.verb ≡ verb.Sweep) × acts old.0 Sweeps answer new.0 × (new.1 ≡ old.1)

-- ---- rows that lease a blob

-- the store leases a blob, and the lane gets a new lease under the row's name, or the store refuses
abbrev pub LendsToLane : {S : Type 0} → (S → StoreRequest → Answer → S → Type 0) → State S → RowView → Answer → State S → Type 0
LendsToLane acts old row answer new =
    ((bytes : Text) × acts old.0 (Calls (Lease row.repo row.digest)) (Bytes bytes) new.0 × (answer ≡ Leased (length bytes)) × (new.1 ≡ fmap.insert old.1 (lease_name_of row) (new_lease bytes)))
    ⊎ ((refusal : Refusal) × acts old.0 (Calls (Lease row.repo row.digest)) (Refused refusal) new.0 × (answer ≡ Refused refusal) × (new.1 ≡ old.1))

-- the store is asked for a lease only if the row's name is free
abbrev pub LendsIfNameFree : {S : Type 0} → (S → StoreRequest → Answer → S → Type 0) → Option LeaseView → State S → RowView → Answer → State S → Type 0
LendsIfNameFree acts (Some lease) old row answer new = (answer ≡ NameTaken) × (new ≡ old)
LendsIfNameFree acts None old row answer new = LendsToLane acts old row answer new

-- a row that leases a blob, whose fields are well-formed
abbrev pub LeaseRow : {S : Type 0} → (S → StoreRequest → Answer → S → Type 0) → State S → RowView → Answer → State S → Type 0
LeaseRow acts old row answer new = (row.verb ≡ verb.Lease) × (command_of row ≡ Ok (Some (Lease row.repo row.digest))) × LendsIfNameFree acts (named_lease old.1 row) old row answer new

-- ---- rows of a lease

-- the ends of a piece, which has at most 65,536 bytes
abbrev pub piece_ends : Text → Option (ℕ × ℕ)
piece_ends text = option_and_then (λ r. if nat_le (r.1 - r.0 + 1) 65536 then Some r else None) (range_of text)

-- the answer to a read of a lease
abbrev pub read_answer : Option LeaseView → Option (ℕ × ℕ) → Answer
read_answer None ends = NoLease
read_answer (Some lease) None = Refused SizeInvalid
read_answer (Some lease) (Some ends) = Bytes (bytes_between lease.bytes ends.0 ends.1)

-- a row that reads a piece of a leased blob: nothing changes
abbrev pub ReadRow : {S : Type 0} → State S → RowView → Answer → State S → Type 0
ReadRow old row answer new = (row.verb ≡ verb.Read) × (answer ≡ read_answer (named_lease old.1 row) (piece_ends row.range)) × (new ≡ old)

-- the answer to a share, and the leases after it, by the leases under the two names: each name gets half of the weight
abbrev pub share_result : Leases → Name → Name → Option LeaseView → Option LeaseView → Answer × Leases
share_result leases name second None other = (NoLease, leases)
share_result leases name second (Some lease) (Some other) = (NameTaken, leases)
share_result leases name second (Some lease) None =
    if lease.weight == 1 then (Refused WeightSpent, leases) else (Shared, fmap.insert (fmap.insert leases name (half_lease lease)) second (half_lease lease))

-- the answer to a share, and the leases after it
abbrev pub share_result_in : Leases → Name → Name → Answer × Leases
share_result_in leases name second = share_result leases name second (fmap.get leases name) (fmap.get leases second)

-- a row that shares a lease: the store is unchanged
abbrev pub ShareRow : {S : Type 0} → State S → RowView → Answer → State S → Type 0
ShareRow old row answer new =
    (row.verb ≡ verb.Share) × ((answer, new.1) ≡ share_result_in old.1 (lease_name_of row) (second_name_of row)) × (new.0 ≡ old.0)

-- the store verifies a lease, if there is one
abbrev pub VerifiesLease : {S : Type 0} → (S → StoreRequest → Answer → S → Type 0) → Option LeaseView → S → Answer → S → Type 0
VerifiesLease acts None old answer new = (answer ≡ NoLease) × (new ≡ old)
VerifiesLease acts (Some lease) old answer new = acts old (Verifies (length lease.bytes)) answer new

-- a row that verifies a lease: the leases are unchanged
abbrev pub VerifyRow : {S : Type 0} → (S → StoreRequest → Answer → S → Type 0) → State S → RowView → Answer → State S → Type 0
VerifyRow acts old row answer new = (row.verb ≡ verb.Verify) × VerifiesLease acts (named_lease old.1 row) old.0 answer new.0 × (new.1 ≡ old.1)

-- the answer to giving a lease back, and the leases after it
abbrev pub give_back_result : Leases → Name → Option LeaseView → Answer × Leases
give_back_result leases name None = (NoLease, leases)
give_back_result leases name (Some lease) = (GivenBack, fmap.remove leases name)

-- a row that gives a lease back: the store is unchanged
abbrev pub GiveBackRow : {S : Type 0} → State S → RowView → Answer → State S → Type 0
GiveBackRow old row answer new = (row.verb ≡ verb.GiveBack) × ((answer, new.1) ≡ give_back_result old.1 (lease_name_of row) (named_lease old.1 row)) × (new.0 ≡ old.0)

-- ---- rows

-- a row is executed with an answer
abbrev pub RowStep : {S : Type 0} → (S → StoreRequest → Answer → S → Type 0) → State S → RowView → Answer → State S → Type 0
RowStep acts old row answer new =
    StoreRow acts old row answer new ⊎ LeaseRow acts old row answer new ⊎ ReadRow old row answer new
    ⊎ ShareRow old row answer new ⊎ VerifyRow acts old row answer new ⊎ GiveBackRow old row answer new ⊎ SweepRow acts old row answer new

-- the result of a row is the answer of its step, or memory ran out and nothing changed
abbrev pub IsRowResult : {S : Type 0} → (S → StoreRequest → Answer → S → Type 0) → State S → RowView → Result Reply Refusal → State S → Type 0
IsRowResult acts old row (Ok reply) new = RowStep acts old row (answer_of reply) new
IsRowResult acts old row (Err refusal) new = ((refusal ≡ Memory) × (new ≡ old)) ⊎ RowStep acts old row (Refused refusal) new

-- the same, for a row of the code
abbrev pub PlaysRow : {S : Type 0} → (S → StoreRequest → Answer → S → Type 0) → S → Leases → BorrowedRow → Result Reply Refusal → S → Leases → Type 0
PlaysRow acts old leases row result new after = IsRowResult acts (old, leases) (borrowed_view row) result (new, after)

-- the reply to a row is that of its step, or memory ran out and nothing changed
abbrev pub RepliesToRow : {S : Type 0} → (S → StoreRequest → Answer → S → Type 0) → S → Leases → BorrowedRow → Reply → S → Leases → Type 0
RepliesToRow acts old leases row reply new after =
    ((answer_of reply ≡ Refused Memory) × (new ≡ old) × (after ≡ leases))
    ⊎ RowStep acts (old, leases) (borrowed_view row) (answer_of reply) (new, after)

-- the same, for a row of a command
abbrev pub IsCommandResult : {S : Type 0} → (S → StoreRequest → Answer → S → Type 0) → S → RowView → Result Reply Refusal → S → Type 0
IsCommandResult acts old row (Ok reply) new = StoreStep acts old row (answer_of reply) new
IsCommandResult acts old row (Err refusal) new = ((refusal ≡ Memory) × (new ≡ old)) ⊎ StoreStep acts old row (Refused refusal) new

-- the same, for a row that reads a lease
abbrev pub IsReadResult : Leases → RowView → Result Reply Refusal → Type 0
IsReadResult leases row (Ok reply) = answer_of reply ≡ read_answer (named_lease leases row) (piece_ends row.range)
IsReadResult leases row (Err refusal) = (refusal ≡ Memory) ⊎ (Refused refusal ≡ read_answer (named_lease leases row) (piece_ends row.range))

-- the rows are executed in their order, each with one answer, and no answer is `Memory`
abbrev pub Plays : {S : Type 0} → (S → StoreRequest → Answer → S → Type 0) → State S → List RowView → List Answer → State S → Type 0
Plays acts old [] [] new = new ≡ old
Plays {S} acts old (row ∷ rows) (answer ∷ answers) new = (mid : State S) × RowStep acts old row answer mid × (answer ≢ Refused Memory) × Plays acts mid rows answers new
Plays acts old rows answers new = ⊥

-- the rows are executed after any rows that had the answers `before`
abbrev pub ContinuesPlay : {S : Type 0} → (S → StoreRequest → Answer → S → Type 0) → State S → List Answer → List RowView → State S → List Answer → Type 0
ContinuesPlay {S} acts old before rows new answers =
    (first : State S) → (earlier : List RowView) → Plays acts first earlier before old → Plays acts first (earlier ++ rows) answers new

-- one reply is appended, which is that of the row's step and is not `Memory`
abbrev pub AddsRow : {S : Type 0} → (S → StoreRequest → Answer → S → Type 0) → S → Leases → BorrowedRow → List Reply → S → Leases → List Reply → Type 0
AddsRow acts old leases row before new after replies =
    (reply : Reply) × (replies ≡ before ++ reply ∷ []) × (answer_of reply ≢ Refused Memory) × RowStep acts (old, leases) (borrowed_view row) (answer_of reply) (new, after)

-- one reply is appended for each of the rows, in their order
abbrev pub AddsRows : {S : Type 0} → (S → StoreRequest → Answer → S → Type 0) → S → Leases → List RowView → List Reply → S → Leases → List Reply → Type 0
AddsRows acts old leases rows before new after replies = ContinuesPlay acts (old, leases) (answers_of before) rows (new, after) (answers_of replies)

-- if the result is `Ok`, the rows were executed from no leases, with one reply each
abbrev pub PlaysAll : {S Z : Type 0} → (S → StoreRequest → Answer → S → Type 0) → S → List RowView → Result (Vec Reply Z) Refusal → S → Type 0
PlaysAll acts old rows result new = IfOk result (λ replies. (after : Leases) × Plays acts (old, no_leases) rows (answers_of replies.items) (new, after))

-- the same, for the rows of a worker
abbrev pub WorkerPlays : {S Z : Type 0} → (S → StoreRequest → Answer → S → Type 0) → S → Worker → List RowView → Result (Vec Reply Z) Refusal → S → Type 0
WorkerPlays acts old worker rows result new = PlaysAll acts old (worker_rows worker rows) result new

-- the result is the ends of the piece that a text spells, or `SizeInvalid` if it spells none
abbrev pub ParsesPiece : Text → Result (ℕ × ℕ) Refusal → Type 0
ParsesPiece text result =
    MatchResult result (λ r. (piece_ends text ≡ Some r) × (r.0 ≤ r.1) × (r.1 < 2 ^ 63)) (λ e. (e ≡ SizeInvalid) × (piece_ends text ≡ None))
