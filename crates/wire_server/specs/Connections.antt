-- A connection that is served.
use Rattle.std.specs.Prelude.{Bool, true, ◌≡◌, ◌≢◌, ◌⊎◌, ◌<◌, ℕ, ⊤, List, [], ◌∷◌, ◌++◌, Option, IfSome, MatchOption, MatchResult, Result, length}
use Rattle.std.specs.List.{flat_map}
use Rattle.std.specs.Io.KnownBytes.{Appends, Consumes, IsAtEnd}
use Rattle.wire_format.specs.Frames.{greeting, head_bytes, max_body, request_bytes}
use Rattle.wire_format.specs.Connections.{IsCutOff, IsPartial}
use Rattle.wire_format.specs.Replies.{Reply, reply_bytes}
use Rattle.wire_format.specs.declared.request.Head.{Head}
use Rattle.spec_lib.specs.Texts.{Text}
use Rattle.store_api.specs.Answers.{Answer}
use Rattle.store_api.specs.Commands.{StoreRequest}
use Rattle.store_model.specs.Catalog.{Catalog}
use Rattle.watched_reader.specs.Watching.{HasNotFailed, has_failed, inner_of}
use Rattle.watched_reader.specs.declared.watched.Watched.{Watched}
use Rattle.wire_server.specs.LeaseEvents.{TableEvent}
use Rattle.wire_server.specs.Outcomes.{RequestResult, ReportsOutcome, outcome_of}
use Rattle.wire_server.specs.Steps.{RequestStep}
use Rattle.wire_server.specs.declared.outcome.RequestResult.{RequestResult as Code}
use Rattle.wire_server.specs.declared.ending.Ending.{Ending}
use Rattle.wire_server.specs.declared.ending.Ending.TheVariants.{Closed, CutOff, ReadFailed, Malformed, WriteFailed, NotDurable}

-- a request frame: its head and its payload
pub record Frame : Type 0 where
  pub head : Head
  pub payload : Text

-- the bytes of the requests, one after another
abbrev pub frames_bytes : List Frame → Text
frames_bytes frames = flat_map (λ f. request_bytes f.head f.payload) frames

-- the bytes of the replies, one after another
abbrev pub replies_bytes : List Reply → Text
replies_bytes replies = flat_map reply_bytes replies

-- the request was played, and the reply reports its outcome
abbrev pub FrameStep : {S T : Type 0} → Bool → (S → StoreRequest → Answer → S → Type 0) → (S → Catalog → Type 0) → (T → TableEvent → T → Type 0) → S × T → Frame → Reply → S × T → Type 0
FrameStep on_disk acts finds does old frame reply new = (outcome : RequestResult) × RequestStep on_disk acts finds does old frame.head frame.payload outcome new × ReportsOutcome outcome reply

-- the requests were played in order, each once and with one reply
abbrev pub ServesFrames : {S T : Type 0} → Bool → (S → StoreRequest → Answer → S → Type 0) → (S → Catalog → Type 0) → (T → TableEvent → T → Type 0) → S × T → List Frame → List Reply → S × T → Type 0
ServesFrames on_disk acts finds does old [] [] new = new ≡ old
ServesFrames {S} {T} on_disk acts finds does old (frame ∷ frames) (reply ∷ replies) new = (mid : S × T) × FrameStep on_disk acts finds does old frame reply mid × ServesFrames on_disk acts finds does mid frames replies new
ServesFrames on_disk acts finds does old frames replies new = ⊥

-- the call read these bytes
abbrev pub ReadsBytes : {R : Type 0} → (R → Option (List ℕ)) → Watched R → Watched R → List ℕ → Type 0
ReadsBytes remaining old new bytes = Consumes (remaining (inner_of old)) (remaining (inner_of new)) bytes

-- the call wrote these bytes
abbrev pub WritesBytes : {W : Type 0} → (W → Option (List ℕ)) → W → W → List ℕ → Type 0
WritesBytes contents old new bytes = Appends (contents old) (contents new) bytes

-- a request was read and played, with this outcome
abbrev pub PlaysNext : {S T R : Type 0} → Bool → (S → StoreRequest → Answer → S → Type 0) → (S → Catalog → Type 0) → (T → TableEvent → T → Type 0) → (R → Option (List ℕ)) → S × T × Watched R → S × T × Watched R → Code → Type 0
PlaysNext on_disk acts finds does remaining old new outcome =
    (frame : Frame) × RequestStep on_disk acts finds does (old.0, old.1) frame.head frame.payload (outcome_of outcome) (new.0, new.1)
    × ReadsBytes remaining old.2 new.2 (request_bytes frame.head frame.payload)

-- a request was read and played, and its reply was written
abbrev pub ServesNext : {S T R W : Type 0} → Bool → (S → StoreRequest → Answer → S → Type 0) → (S → Catalog → Type 0) → (T → TableEvent → T → Type 0) → (R → Option (List ℕ)) → (W → Option (List ℕ)) → S × T × Watched R × W → S × T × Watched R × W → Type 0
ServesNext on_disk acts finds does remaining contents old new =
    (frame : Frame) × (reply : Reply) × FrameStep on_disk acts finds does (old.0, old.1) frame reply (new.0, new.1)
    × ReadsBytes remaining old.2 new.2 (request_bytes frame.head frame.payload) × WritesBytes contents old.3 new.3 (reply_bytes reply)

-- a connection ends with `ReadFailed` if a read failed, and only then
abbrev pub EndsByRead : {R : Type 0} → Ending → Watched R → Watched R → Type 0
EndsByRead ReadFailed old new = has_failed new ≡ true
EndsByRead ending old new = HasNotFailed old new

-- no read failed, or the connection ends with `ReadFailed`
abbrev pub MayEndByRead : {R : Type 0} → Option Ending → Watched R → Watched R → Type 0
MayEndByRead ending old new = MatchOption ending (HasNotFailed old new) (λ e. EndsByRead e old new)

-- no read failed, or the error is `ReadFailed`
abbrev pub ErrEndsByRead : {A R : Type 0} → Result A Ending → Watched R → Watched R → Type 0
ErrEndsByRead result old new = MatchResult result (λ _. HasNotFailed old new) (λ e. EndsByRead e old new)

-- why a connection ends after `count` requests, with `rest` left to read (a failed read: `EndsByRead`)
abbrev pub IsEndReason : Ending → ℕ → Option (List ℕ) → Type 0
IsEndReason Closed count rest = IsAtEnd rest
IsEndReason CutOff count rest = IfSome rest IsPartial
IsEndReason ReadFailed count rest = ⊤
IsEndReason Malformed count rest = (h : Head) × (behind : Option (List ℕ)) × Consumes rest behind (head_bytes h) × (max_body < h.body_len)
IsEndReason WriteFailed count rest = 0 < count
IsEndReason NotDurable count rest = 0 < count

-- how many of the replies were written: all; or all but the last, if it was not durable; after a failed write the output is unknown
abbrev pub WritesReplies : Ending → List Reply → (held holds : Option (List ℕ)) → Type 0
WritesReplies WriteFailed replies held holds = ⊤
WritesReplies NotDurable replies held holds = (before : List Reply) × (last : Reply) × (replies ≡ before ++ last ∷ []) × Appends held holds (replies_bytes before)
WritesReplies ending replies held holds = Appends held holds (replies_bytes replies)

-- After the greetings, the first requests of the connection were played in order and replied to, until the connection ended. The last has no
-- reply if it was not durable or a write failed.
pub record ServesRequests {S T : Type 0} (on_disk : Bool) (acts : S → StoreRequest → Answer → S → Type 0) (finds : S → Catalog → Type 0) (does : T → TableEvent → T → Type 0) (old new : S × T) (line held holds : Option (List ℕ)) (ending : Ending) : Type 0 where
  pub frames : List Frame
  pub replies : List Reply
  pub served : ServesFrames on_disk acts finds does old frames replies new
  pub rest : Option (List ℕ)
  pub read : Consumes line rest (frames_bytes frames)
  pub written : WritesReplies ending replies held holds
  pub ends : IsEndReason ending (length frames) rest

-- why a connection ends before the greetings are exchanged (a failed read: `EndsByRead`)
abbrev pub EndsBeforeGreeting : Ending → Option (List ℕ) → Type 0
EndsBeforeGreeting Closed line = IsAtEnd line
EndsBeforeGreeting CutOff line = IsCutOff line 8
EndsBeforeGreeting ReadFailed line = ⊤
EndsBeforeGreeting Malformed line = (bytes : List ℕ) × (length bytes ≡ 8) × (bytes ≢ greeting) × (rest : Option (List ℕ)) × Consumes line rest bytes
EndsBeforeGreeting WriteFailed line = (rest : Option (List ℕ)) × Consumes line rest greeting
EndsBeforeGreeting NotDurable line = ⊥

-- the greetings were exchanged and then requests served, or the connection ended before with nothing played
abbrev pub ServesConnection : {S T : Type 0} → Bool → (S → StoreRequest → Answer → S → Type 0) → (S → Catalog → Type 0) → (T → TableEvent → T → Type 0) → S × T → S × T → (line held holds : Option (List ℕ)) → Ending → Type 0
ServesConnection on_disk acts finds does old new line held holds ending =
    ((new ≡ old) × EndsBeforeGreeting ending line)
    ⊎ ((rest mid : Option (List ℕ)) × Consumes line rest greeting × Appends held mid greeting × ServesRequests on_disk acts finds does old new rest mid holds ending)
