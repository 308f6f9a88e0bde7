-- The outcomes of requests, and their replies.
use Rattle.std.specs.Prelude.{◌≡◌, ◌⊎◌, ◌+◌, ◌*◌, ℕ, [], List, Option, Result, MatchResult, OnOk}
use Rattle.std.specs.Io.KnownBytes.{Appends}
use Rattle.blob_digest.specs.declared.refusal.Refusal.{Refusal as RefusalCode}
use Rattle.content_files.specs.declared.name.ContentName.{ContentName}
use Rattle.wire_format.specs.Replies.{Reply, ReportsRefusal, digest_reply, memory_reply, numbers_reply, refusal_reply, reply_bytes}
use Rattle.spec_lib.specs.Texts.{Text}
use Rattle.store_api.specs.Answers.{Answer, Session, Received, Stored, Manifest, Body, Leased, Bytes, Verified, Swept, NoLease, NameTaken, Refused, answer_of}
use Rattle.store_api.specs.declared.reply.Reply.{Reply as StoreReply}
use Rattle.wire_server.specs.declared.outcome.RequestResult.{RequestResult as Code}
use Rattle.wire_server.specs.declared.outcome.RequestResult.TheVariants as code

-- the outcome of a request: an answer, a lease of a blob of this size under this number, a piece of a blob of this size, the place of bytes (the
-- number of a file, an offset, and notes), bytes that lie in no file, bytes in a file that cannot be read, the two numbers of a query, or no command
pub data RequestResult : Type 0 where
  Answered : Answer → RequestResult
  NewLease : ℕ → ℕ → RequestResult
  Fetched : ℕ → Text → RequestResult
  Located : ℕ → ℕ → Text → RequestResult
  NoFile : RequestResult
  Unreadable : RequestResult
  QueryNumbers : ℕ → ℕ → RequestResult
  NoCommand : RequestResult

-- the number of a content's file: the position of its tenant, and the number of the session that received it in the lower 32 bits
abbrev pub file_number : ContentName → ℕ
file_number name = name.tenant * 4294967296 + name.number

-- the outcome that the code returns, as contracts see it
abbrev pub outcome_of : Code → RequestResult
outcome_of (code.Answered reply) = Answered (answer_of reply)
outcome_of (code.NewLease size number) = NewLease size number
outcome_of (code.Fetched size piece) = Fetched size piece
outcome_of (code.Located located) = Located (file_number located.name) located.offset located.notes.items
outcome_of code.NoFile = NoFile
outcome_of code.Unreadable = Unreadable
outcome_of (code.QueryNumbers first second) = QueryNumbers first second
outcome_of code.NoCommand = NoCommand

-- the reply of status 0 with a number and these bytes
abbrev pub body_reply : ℕ → Text → Reply
body_reply first bytes = record { status = 0; first = first; second = 0; digest = []; body = bytes }

-- the reply of a place: the number of a file, the offset of the first piece, and the notes of the pieces
abbrev pub place_reply : ℕ → ℕ → Text → Reply
place_reply file offset notes = record { status = 0; first = offset; second = file; digest = []; body = notes }

-- the reply that reports an answer
abbrev pub answer_reply : Answer → Reply
answer_reply (Session number) = numbers_reply 0 number 0
answer_reply (Received length) = numbers_reply 0 length 0
answer_reply (Stored size) = numbers_reply 0 size 0
answer_reply (Manifest digest) = digest_reply 0 digest
answer_reply (Body bytes) = body_reply 0 bytes
answer_reply (Leased size) = numbers_reply 0 size 0
answer_reply (Bytes bytes) = body_reply 0 bytes
answer_reply (Verified size) = numbers_reply 0 size 0
answer_reply (Swept swept) = numbers_reply 0 swept.freed swept.held
answer_reply NoLease = numbers_reply 254 0 0
answer_reply NameTaken = numbers_reply 254 0 0
answer_reply (Refused refusal) = refusal_reply refusal
answer_reply answer = numbers_reply 0 0 0

-- the reply reports the answer, or is `Memory` in place of a digest
abbrev pub ReportsAnswer : Answer → Reply → Type 0
ReportsAnswer (Manifest digest) reply = (reply ≡ answer_reply (Manifest digest)) ⊎ (reply ≡ memory_reply)
ReportsAnswer (Refused refusal) reply = ReportsRefusal refusal reply
ReportsAnswer answer reply = reply ≡ answer_reply answer

-- the reply reports the outcome
abbrev pub ReportsOutcome : RequestResult → Reply → Type 0
ReportsOutcome (Answered answer) reply = ReportsAnswer answer reply
ReportsOutcome (NewLease size number) reply = reply ≡ numbers_reply 0 size number
ReportsOutcome (Fetched size piece) reply = reply ≡ body_reply size piece
ReportsOutcome (Located file offset notes) reply = reply ≡ place_reply file offset notes
ReportsOutcome NoFile reply = reply ≡ numbers_reply 0 0 0
ReportsOutcome Unreadable reply = reply ≡ numbers_reply 253 0 0
ReportsOutcome (QueryNumbers first second) reply = reply ≡ numbers_reply 0 first second
ReportsOutcome NoCommand reply = reply ≡ numbers_reply 255 0 0

-- the outcome is the result of the call
abbrev pub IsResultOf : Result StoreReply RefusalCode → RequestResult → Type 0
IsResultOf result outcome = MatchResult result (λ reply. outcome ≡ Answered (answer_of reply)) (λ e. outcome ≡ Answered (Refused e))

-- the outcome is that of the call, or its refusal
abbrev pub IsOutcomeOf : Result Code RefusalCode → RequestResult → Type 0
IsOutcomeOf result outcome = MatchResult result (λ o. outcome ≡ outcome_of o) (λ e. outcome ≡ Answered (Refused e))

-- a call that succeeds wrote this reply
abbrev pub Sends : {W A E : Type 0} → (W → Option (List ℕ)) → Result A E → W → W → Reply → Type 0
Sends contents result old new reply = OnOk result (Appends (contents old) (contents new) (reply_bytes reply))

-- a call that succeeds wrote one reply, which reports the answer
abbrev pub SendsAnswer : {W A E : Type 0} → (W → Option (List ℕ)) → Result A E → W → W → Answer → Type 0
SendsAnswer contents result old new answer = OnOk result ((reply : Reply) × ReportsAnswer answer reply × Appends (contents old) (contents new) (reply_bytes reply))

-- a call that succeeds wrote one reply, which reports the outcome
abbrev pub SendsOutcome : {W A E : Type 0} → (W → Option (List ℕ)) → Result A E → W → W → RequestResult → Type 0
SendsOutcome contents result old new outcome = OnOk result ((reply : Reply) × ReportsOutcome outcome reply × Appends (contents old) (contents new) (reply_bytes reply))
