-- Lists of requests that are served one after another.
use Rattle.std.proofs.Common.{◌≡◌, ◌≢◌, ◌+◌, ◌∙◌, ◌++◌, ◌∷◌, [], ℕ, Bool, List, Option, ap, arith, inl, length, length-append, append-nil, refl, subst, sym}
use Rattle.std.proofs.lemmas.Grind.{flat_map-append}
use Rattle.std.proofs.lemmas.List.{append_assoc}
use Rattle.std.proofs.lemmas.List.Concat.{flat_map-cons}
use Rattle.std.proofs.KnownBytes.{Appends-nil, Appends-trans, Consumes-nil, Consumes-trans}
use Rattle.std.specs.Io.KnownBytes.{Appends, Consumes}
use Rattle.wire_format.specs.Frames.{request_bytes}
use Rattle.blob_digest.specs.declared.refusal.Refusal.{Refusal}
use Rattle.blob_digest.specs.declared.refusal.Refusal.TheVariants.{NameInvalid, DigestInvalid, NameUnknown, UploadUnknown, SizeInvalid, RangeInvalid, BlobUnknown, ManifestInvalid, ManifestUnknown, ManifestBlobUnknown, Quota, Referenced, StoreFull, TooManyReaders, LimitReached, WeightSpent, Memory, Busy, RepoInUse}
use Rattle.wire_format.specs.Replies.{Reply, ReportsRefusal, refusal_reply, reply_bytes}
use Rattle.store_api.specs.Answers.{Answer}
use Rattle.store_api.specs.Answers as answers
use Rattle.store_api.specs.Commands.{StoreRequest}
use Rattle.store_model.specs.Catalog.{Catalog}
use Rattle.watched_reader.specs.Watching.{HasNotFailed, inner_of}
use Rattle.watched_reader.specs.declared.watched.Watched.{Watched}
use Rattle.wire_server.specs.LeaseEvents.{TableEvent}
use Rattle.wire_server.specs.Outcomes.{RequestResult, Answered, NewLease, Fetched, Located, NoFile, Unreadable, QueryNumbers, NoCommand, ReportsOutcome, ReportsAnswer, answer_reply, outcome_of}
use Rattle.wire_server.specs.declared.outcome.RequestResult.{RequestResult as Code}
use Rattle.wire_server.specs.Connections.{IsEndReason, EndsByRead, Frame, FrameStep, PlaysNext, ServesRequests, ServesFrames, WritesReplies, frames_bytes, replies_bytes}
use Rattle.wire_server.specs.declared.ending.Ending.{Ending}
use Rattle.wire_server.specs.declared.ending.Ending.TheVariants.{Closed, CutOff, ReadFailed, Malformed, WriteFailed, NotDurable}

module _ {S T : Type 0} (on_disk : Bool) (acts : S → StoreRequest → Answer → S → Type 0) (finds : S → Catalog → Type 0) (does : T → TableEvent → T → Type 0) where
  -- requests that are served after others are served with them
  pub serves_append : (old mid new : S × T) (fs gs : List Frame) (rs ss : List Reply) → ServesFrames on_disk acts finds does old fs rs mid → ServesFrames on_disk acts finds does mid gs ss new → ServesFrames on_disk acts finds does old (fs ++ gs) (rs ++ ss) new
  serves_append old mid new [] gs [] ss p q = subst (λ s. ServesFrames on_disk acts finds does s gs ss new) p q
  serves_append old mid new [] gs (r ∷ rs) ss p q = absurd p
  serves_append old mid new (f ∷ fs) gs [] ss p q = absurd p
  serves_append old mid new (f ∷ fs) gs (r ∷ rs) ss p q = (p.0, p.1, serves_append p.0 mid new fs gs rs ss p.2 q)

  -- a served request is a list of one
  pub serves_one : (old new : S × T) (frame : Frame) (reply : Reply) → FrameStep on_disk acts finds does old frame reply new → ServesFrames on_disk acts finds does old (frame ∷ []) (reply ∷ []) new
  serves_one old new frame reply step = (new, step, refl)

-- the reason of an end holds after more requests too
pub ends_later : (ending : Ending) (m n : ℕ) (rest : Option (List ℕ)) → IsEndReason ending n rest → IsEndReason ending (m + n) rest
ends_later Closed m n rest h = h
ends_later CutOff m n rest h = h
ends_later ReadFailed m n rest h = h
ends_later Malformed m n rest h = h
ends_later WriteFailed m n rest h = omega (arith, h)
ends_later NotDurable m n rest h = omega (arith, h)

-- the reason of an end holds of a longer part of the connection, if no read failed in the first part
pub ends_by_read_later : {R : Type 0} (ending : Ending) (old mid new : Watched R) → HasNotFailed old mid → EndsByRead ending mid new → EndsByRead ending old new
ends_by_read_later Closed old mid new kept h = h ∙ kept
ends_by_read_later CutOff old mid new kept h = h ∙ kept
ends_by_read_later ReadFailed old mid new kept h = h
ends_by_read_later Malformed old mid new kept h = h ∙ kept
ends_by_read_later WriteFailed old mid new kept h = h ∙ kept
ends_by_read_later NotDurable old mid new kept h = h ∙ kept

-- each refusal has a reply
reports_refusal : (refusal : Refusal) → ReportsRefusal refusal (refusal_reply refusal)
reports_refusal NameInvalid = refl
reports_refusal DigestInvalid = refl
reports_refusal NameUnknown = refl
reports_refusal UploadUnknown = refl
reports_refusal SizeInvalid = refl
reports_refusal (RangeInvalid received) = refl
reports_refusal BlobUnknown = refl
reports_refusal ManifestInvalid = refl
reports_refusal ManifestUnknown = refl
reports_refusal (ManifestBlobUnknown digest) = inl refl
reports_refusal (Quota used quota) = refl
reports_refusal (Referenced manifest) = inl refl
reports_refusal StoreFull = refl
reports_refusal TooManyReaders = refl
reports_refusal LimitReached = refl
reports_refusal WeightSpent = refl
reports_refusal Memory = refl
reports_refusal Busy = refl
reports_refusal RepoInUse = refl

-- each answer has a reply
reports_answer : (answer : Answer) → ReportsAnswer answer (answer_reply answer)
reports_answer (answers.Manifest digest) = inl refl
reports_answer (answers.Refused refusal) = reports_refusal refusal
reports_answer (answers.Session n) = refl
reports_answer (answers.Received n) = refl
reports_answer (answers.Stored n) = refl
reports_answer answers.Abandoned = refl
reports_answer answers.Mounted = refl
reports_answer answers.Deleted = refl
reports_answer (answers.Body bytes) = refl
reports_answer (answers.Leased n) = refl
reports_answer (answers.Bytes bytes) = refl
reports_answer answers.Shared = refl
reports_answer (answers.Verified n) = refl
reports_answer answers.GivenBack = refl
reports_answer (answers.Swept swept) = refl
reports_answer answers.NoLease = refl
reports_answer answers.NameTaken = refl

-- each outcome has a reply
pub outcome_has_reply : (outcome : RequestResult) → (reply : Reply) × ReportsOutcome outcome reply
outcome_has_reply (Answered answer) = (answer_reply answer, reports_answer answer)
outcome_has_reply (NewLease size number) = (_, refl)
outcome_has_reply (Fetched size piece) = (_, refl)
outcome_has_reply (Located file offset notes) = (_, refl)
outcome_has_reply NoFile = (_, refl)
outcome_has_reply Unreadable = (_, refl)
outcome_has_reply (QueryNumbers first second) = (_, refl)
outcome_has_reply NoCommand = (_, refl)

-- the bytes of a list of one request
frames_bytes-one : (frame : Frame) → frames_bytes (frame ∷ []) ≡ request_bytes frame.head frame.payload
frames_bytes-one frame = flat_map-cons (λ (f : Frame). request_bytes f.head f.payload) frame [] ∙ append-nil (request_bytes frame.head frame.payload)

-- the bytes of a list of one reply
replies_bytes-one : (reply : Reply) → replies_bytes (reply ∷ []) ≡ reply_bytes reply
replies_bytes-one reply = flat_map-cons reply_bytes reply [] ∙ append-nil (reply_bytes reply)

-- the bytes of two lists of requests are those of both
frames_bytes-append : (fs gs : List Frame) → frames_bytes (fs ++ gs) ≡ frames_bytes fs ++ frames_bytes gs
frames_bytes-append fs gs = flat_map-append (λ (f : Frame). request_bytes f.head f.payload) fs gs

-- the bytes of two lists of replies are those of both
replies_bytes-append : (rs ss : List Reply) → replies_bytes (rs ++ ss) ≡ replies_bytes rs ++ replies_bytes ss
replies_bytes-append rs ss = flat_map-append reply_bytes rs ss

-- replies that are written after others are written with them
appends_replies : (held middle holds : Option (List ℕ)) (rs ss : List Reply) → Appends held middle (replies_bytes rs) → Appends middle holds (replies_bytes ss) → Appends held holds (replies_bytes (rs ++ ss))
appends_replies held middle holds rs ss p q = subst (Appends held holds) (sym (replies_bytes-append rs ss)) (Appends-trans held middle holds (replies_bytes rs) (replies_bytes ss) p q)

-- a connection that ends before its first request ends with another reason than `NotDurable`
pub not_lost_at_once : (ending : Ending) (rest : Option (List ℕ)) → IsEndReason ending 0 rest → ending ≢ NotDurable
not_lost_at_once ending rest h is = absurd (omega (arith, subst (λ e. IsEndReason e 0 rest) is h))

-- nothing is written on a connection that ends before its first request
nothing_written : (ending : Ending) (line held : Option (List ℕ)) → IsEndReason ending 0 line → WritesReplies ending [] held held
nothing_written Closed line held h = Appends-nil held
nothing_written CutOff line held h = Appends-nil held
nothing_written ReadFailed line held h = Appends-nil held
nothing_written Malformed line held h = Appends-nil held
nothing_written WriteFailed line held h = tt
nothing_written NotDurable line held h = absurd (omega (arith, h))

-- the replies that an ending leaves are written after others, which are all written
writes_later : (ending : Ending) (held middle holds : Option (List ℕ)) (rs ss : List Reply) → Appends held middle (replies_bytes rs) → WritesReplies ending ss middle holds → WritesReplies ending (rs ++ ss) held holds
writes_later Closed held middle holds rs ss p q = appends_replies held middle holds rs ss p q
writes_later CutOff held middle holds rs ss p q = appends_replies held middle holds rs ss p q
writes_later ReadFailed held middle holds rs ss p q = appends_replies held middle holds rs ss p q
writes_later Malformed held middle holds rs ss p q = appends_replies held middle holds rs ss p q
writes_later WriteFailed held middle holds rs ss p q = tt
writes_later NotDurable held middle holds rs ss p q =
    (rs ++ q.0, q.1, ap (λ l. rs ++ l) q.2 ∙ sym (append_assoc rs q.0 (q.1 ∷ [])), appends_replies held middle holds rs q.0 p q.3)

module _ {S T : Type 0} (on_disk : Bool) (acts : S → StoreRequest → Answer → S → Type 0) (finds : S → Catalog → Type 0) (does : T → TableEvent → T → Type 0) where
  -- a connection that ends at once is served
  pub served_at_once : (old : S × T) (line held : Option (List ℕ)) (ending : Ending) → IsEndReason ending 0 line → ServesRequests on_disk acts finds does old old line held held ending
  served_at_once old line held ending h = record {
    frames = [];
    replies = [];
    served = refl;
    rest = line;
    read = Consumes-nil line;
    written = nothing_written ending line held h;
    ends = h;
  }

  -- a connection that ends after a request, without a whole reply, is served
  pub served_unreplied : {R : Type 0} (remaining : R → Option (List ℕ)) (old new : S × T) (from to : Watched R) (held holds : Option (List ℕ)) (outcome : Code) (ending : Ending)
      → PlaysNext on_disk acts finds does remaining (old.0, old.1, from) (new.0, new.1, to) outcome → ((reply : Reply) → WritesReplies ending (reply ∷ []) held holds) → IsEndReason ending 1 (remaining (inner_of to))
      → ServesRequests on_disk acts finds does old new (remaining (inner_of from)) held holds ending
  served_unreplied remaining old new from to held holds outcome ending played written ends =
      let told = outcome_has_reply (outcome_of outcome) in record {
        frames = played.0 ∷ [];
        replies = told.0 ∷ [];
        served = serves_one on_disk acts finds does old new played.0 told.0 (_, played.1, told.1);
        rest = remaining (inner_of to);
        read = subst (Consumes (remaining (inner_of from)) (remaining (inner_of to))) (sym (frames_bytes-one played.0)) played.2;
        written = written told.0;
        ends = ends;
      }

  -- a connection is served if its first requests are, and then the rest
  pub then_served : (old mid new : S × T) (line behind held middle holds : Option (List ℕ)) (frames : List Frame) (replies : List Reply) (ending : Ending)
      → ServesFrames on_disk acts finds does old frames replies mid → Consumes line behind (frames_bytes frames) → Appends held middle (replies_bytes replies) → ServesRequests on_disk acts finds does mid new behind middle holds ending → ServesRequests on_disk acts finds does old new line held holds ending
  then_served old mid new line behind held middle holds frames replies ending served read written last = record {
    frames = frames ++ last.frames;
    replies = replies ++ last.replies;
    served = serves_append on_disk acts finds does old mid new frames last.frames replies last.replies served last.served;
    rest = last.rest;
    read = subst (Consumes line last.rest) (sym (frames_bytes-append frames last.frames)) (Consumes-trans line behind last.rest (frames_bytes frames) (frames_bytes last.frames) read last.read);
    written = writes_later ending held middle holds replies last.replies written last.written;
    ends = subst (λ n. IsEndReason ending n last.rest) (sym (length-append frames last.frames)) (ends_later ending (length frames) (length last.frames) last.rest last.ends);
  }

  -- a list of served requests grows by one
  pub serves_push : (old mid new : S × T) (line behind rest held middle holds : Option (List ℕ)) (frames : List Frame) (replies : List Reply) (frame : Frame) (reply : Reply)
      → ServesFrames on_disk acts finds does old frames replies mid → Consumes line behind (frames_bytes frames) → Appends held middle (replies_bytes replies)
      → FrameStep on_disk acts finds does mid frame reply new → Consumes behind rest (request_bytes frame.head frame.payload) → Appends middle holds (reply_bytes reply)
      → ServesFrames on_disk acts finds does old (frames ++ frame ∷ []) (replies ++ reply ∷ []) new × Consumes line rest (frames_bytes (frames ++ frame ∷ [])) × Appends held holds (replies_bytes (replies ++ reply ∷ []))
  serves_push old mid new line behind rest held middle holds frames replies frame reply served read written step more told = (
    serves_append on_disk acts finds does old mid new frames (frame ∷ []) replies (reply ∷ []) served (serves_one on_disk acts finds does mid new frame reply step),
    subst (Consumes line rest) (sym (frames_bytes-append frames (frame ∷ []) ∙ ap (λ l. frames_bytes frames ++ l) (frames_bytes-one frame))) (Consumes-trans line behind rest (frames_bytes frames) (request_bytes frame.head frame.payload) read more),
    subst (Appends held holds) (sym (replies_bytes-append replies (reply ∷ []) ∙ ap (λ l. replies_bytes replies ++ l) (replies_bytes-one reply))) (Appends-trans held middle holds (replies_bytes replies) (reply_bytes reply) written told),
  )
