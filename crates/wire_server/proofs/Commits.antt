-- A request is still played if its backend is committed afterwards.
use Rattle.std.proofs.Common.{◌≡◌, ◌∙◌, ℕ, Bool, true, false, Option, Some, None, Result, Ok, Err, List, ap, inl, inr, subst, sym}
use Rattle.blob_digest.specs.declared.range.ByteRange.{ByteRange}
use Rattle.blob_digest.specs.declared.refusal.Refusal.{Refusal}
use Rattle.wire_format.specs.declared.request.Head.{Head}
use Rattle.spec_lib.specs.Texts.{Text}
use Rattle.store_model.specs.Catalog.{Catalog}
use Rattle.store_api.specs.Answers.{Answer, Bytes, Refused, Swept}
use Rattle.store_api.specs.Commands.{Calls, Command, StoreRequest, SweepsInParts}
use Rattle.store_api.specs.Steps.{StepOf}
use Rattle.store_api.specs.declared.verb.Verb.{Verb}
use Rattle.store_api.specs.declared.verb.Verb.TheVariants as verb
use Rattle.wire_server.specs.LeaseEvents.{TableEvent}
use Rattle.wire_server.specs.Outcomes.{RequestResult, Answered, NewLease, Fetched, Located, NoFile, Unreadable, QueryNumbers, NoCommand, outcome_of}
use Rattle.wire_server.specs.Requests.{ends_of, request_command}
use Rattle.watched_reader.specs.declared.watched.Watched.{Watched}
use Rattle.wire_server.specs.Connections.{PlaysNext}
use Rattle.wire_server.specs.Guards.{KeepsActs}
use Rattle.wire_server.specs.declared.outcome.RequestResult.{RequestResult as Code}
use Rattle.wire_server.specs.Steps.{CommandStep, FetchesPiece, FetchStep, LeaseStep, LeasesBlob, NoVerbStep, RequestStep, VerbStep}

module _ {S T : Type 0} (on_disk : Bool) (acts : S → StoreRequest → Answer → S → Type 0) (finds : S → Catalog → Type 0) (does : T → TableEvent → T → Type 0)
    (old mid new : S) (before after : T) (keeps : KeepsActs acts mid new) (same : mid ≡ old → new ≡ mid) where
  -- a backend that the request left unchanged is unchanged
  stays : mid ≡ old → new ≡ old
  stays h = same h ∙ h

  -- a backend and a table that the request left unchanged are unchanged
  both_stay : ◌≡◌ {A = S × T} (mid, after) (old, before) → ◌≡◌ {A = S × T} (new, after) (old, before)
  both_stay h =
      let backend = stays (ap (λ s. s.0) h) in
      λ i. (backend i, (h i).1)

  call_committed : (spelled : Result (Option Command) Refusal) (answer : Answer) → StepOf acts spelled old answer mid → StepOf acts spelled old answer new
  call_committed (Ok (Some command)) answer h = (h.0, keeps old (Calls command) answer h.1)
  call_committed (Ok None) answer h = absurd h
  call_committed (Err refusal) answer h = (h.0, stays h.1)

  command_committed : (spelled : Result (Option Command) Refusal) (outcome : RequestResult) → CommandStep acts spelled (old, before) outcome (mid, after) → CommandStep acts spelled (old, before) outcome (new, after)
  command_committed spelled (Answered answer) h = (call_committed spelled answer h.0, h.1)
  command_committed spelled (NewLease size number) h = absurd h
  command_committed spelled (Fetched size piece) h = absurd h
  command_committed spelled Unreadable h = absurd h
  command_committed spelled (Located file offset notes) h = absurd h
  command_committed spelled NoFile h = absurd h
  command_committed spelled (QueryNumbers first second) h = absurd h
  command_committed spelled NoCommand h = absurd h

  lent_committed : (command : Command) (outcome : RequestResult) → LeasesBlob acts does command (old, before) outcome (mid, after) → LeasesBlob acts does command (old, before) outcome (new, after)
  lent_committed command (NewLease size number) h = (h.0, h.1, keeps old (Calls command) (Bytes h.0.bytes) h.2, h.3)
  lent_committed command (Answered answer) (inl h) = inl (h.0, h.1, keeps old (Calls command) (Refused h.0) h.2, h.3)
  lent_committed command (Answered answer) (inr h) = inr (h.0, h.1, keeps old (Calls command) (Bytes h.0.bytes) h.2, h.3)
  lent_committed command (Fetched size piece) h = absurd h
  lent_committed command Unreadable h = absurd h
  lent_committed command (Located file offset notes) h = absurd h
  lent_committed command NoFile h = absurd h
  lent_committed command (QueryNumbers first second) h = absurd h
  lent_committed command NoCommand h = absurd h

  lease_committed : (spelled : Result (Option Command) Refusal) (outcome : RequestResult) → LeaseStep acts does spelled (old, before) outcome (mid, after) → LeaseStep acts does spelled (old, before) outcome (new, after)
  lease_committed (Ok (Some command)) outcome h = lent_committed command outcome h
  lease_committed (Ok None) outcome h = absurd h
  lease_committed (Err refusal) outcome h = (h.0, both_stay h.1)

  piece_committed : (command : Command) (ends : ℕ × ℕ) (outcome : RequestResult) → FetchesPiece on_disk acts does command ends (old, before) outcome (mid, after) → FetchesPiece on_disk acts does command ends (old, before) outcome (new, after)
  piece_committed command ends (Fetched size piece) h = (h.0, h.1, h.2, h.3, keeps old (Calls command) (Bytes h.0.bytes) h.4, h.5)
  piece_committed command ends Unreadable h = (h.0, h.1, keeps old (Calls command) (Bytes h.0.bytes) h.2, h.3)
  piece_committed command ends (NewLease size number) h = (h.0, h.1, h.2, keeps old (Calls command) (Bytes h.0.bytes) h.3, h.4)
  piece_committed command ends (Answered answer) (inl h) = inl (lent_committed command (Answered answer) h)
  piece_committed command ends (Answered answer) (inr h) = inr (h.0, h.1, keeps old (Calls command) (Bytes h.0.bytes) h.2, h.3)
  piece_committed command ends (Located file offset notes) h = absurd h
  piece_committed command ends NoFile h = absurd h
  piece_committed command ends (QueryNumbers first second) h = absurd h
  piece_committed command ends NoCommand h = absurd h

  fetch_committed : (spelled : Result (Option Command) Refusal) (range : Result (Option ByteRange) Refusal) (outcome : RequestResult) → FetchStep on_disk acts does spelled range (old, before) outcome (mid, after) → FetchStep on_disk acts does spelled range (old, before) outcome (new, after)
  fetch_committed (Ok (Some command)) (Ok range) outcome h = piece_committed command (ends_of range) outcome h
  fetch_committed (Ok (Some command)) (Err refusal) outcome h = (h.0, both_stay h.1)
  fetch_committed (Ok None) range outcome h = absurd h
  fetch_committed (Err refusal) range outcome h = (h.0, both_stay h.1)

  no_verb_committed : (fetch located : Bool) (head : Head) (payload : Text) (outcome : RequestResult) → NoVerbStep on_disk acts finds does fetch located (old, before) head payload outcome (mid, after) → NoVerbStep on_disk acts finds does fetch located (old, before) head payload outcome (new, after)
  no_verb_committed true located head payload outcome h = fetch_committed _ _ outcome h
  no_verb_committed false true head payload outcome h = (h.0, stays h.1)
  no_verb_committed false false head payload outcome h = (h.0, both_stay h.1)

  verb_committed : (asked : Option Verb) (head : Head) (payload : Text) (outcome : RequestResult) → VerbStep on_disk acts finds does asked (old, before) head payload outcome (mid, after) → VerbStep on_disk acts finds does asked (old, before) head payload outcome (new, after)
  verb_committed None head payload outcome h = no_verb_committed _ _ head payload outcome h
  verb_committed (Some verb.Lease) head payload outcome h = lease_committed _ outcome h
  verb_committed (Some verb.Read) head payload outcome h = (h.0, stays h.1)
  verb_committed (Some verb.GiveBack) head payload outcome h = (h.0, stays h.1)
  verb_committed (Some verb.Sweep) head payload outcome h = ((h.0.0, h.0.1, keeps old SweepsInParts (Swept h.0.0) h.0.2), h.1)
  verb_committed (Some verb.Start) head payload outcome h = command_committed _ outcome h
  verb_committed (Some verb.Status) head payload outcome h = command_committed _ outcome h
  verb_committed (Some verb.Append) head payload outcome h = command_committed _ outcome h
  verb_committed (Some verb.Close) head payload outcome h = command_committed _ outcome h
  verb_committed (Some verb.Abandon) head payload outcome h = command_committed _ outcome h
  verb_committed (Some verb.Mount) head payload outcome h = command_committed _ outcome h
  verb_committed (Some verb.Delete) head payload outcome h = command_committed _ outcome h
  verb_committed (Some verb.PutManifest) head payload outcome h = command_committed _ outcome h
  verb_committed (Some verb.GetManifest) head payload outcome h = command_committed _ outcome h
  verb_committed (Some verb.DeleteManifest) head payload outcome h = command_committed _ outcome h
  verb_committed (Some verb.RemoveRepo) head payload outcome h = command_committed _ outcome h
  verb_committed (Some verb.Share) head payload outcome h = command_committed (request_command verb.Share head payload) outcome h
  verb_committed (Some verb.Verify) head payload outcome h = command_committed (request_command verb.Verify head payload) outcome h

  -- the step of a request, with its backend committed afterwards
  pub request_committed : (head : Head) (payload : Text) (outcome : RequestResult) → RequestStep on_disk acts finds does (old, before) head payload outcome (mid, after) → RequestStep on_disk acts finds does (old, before) head payload outcome (new, after)
  request_committed head payload outcome (inl h) = inl (h.0, h.1, both_stay h.2)
  request_committed head payload outcome (inr h) = inr (verb_committed _ head payload outcome h)

-- a request that was read and played, with its backend committed afterwards; the backend was durable before
pub plays_committed : {S T R : Type 0} (on_disk : Bool) (acts : S → StoreRequest → Answer → S → Type 0) (finds : S → Catalog → Type 0) (does : T → TableEvent → T → Type 0) (remaining : R → Option (List ℕ)) (durable : S → Type 0)
    (old mid new : S) (before after : T) (from to : Watched R) (outcome : Code) → durable old → KeepsActs acts mid new → (durable mid → new ≡ mid)
    → PlaysNext on_disk acts finds does remaining (old, before, from) (mid, after, to) outcome → PlaysNext on_disk acts finds does remaining (old, before, from) (new, after, to) outcome
plays_committed on_disk acts finds does remaining durable old mid new before after from to outcome held keeps same played = (
  played.0,
  request_committed on_disk acts finds does old mid new before after keeps (λ h. same (subst durable (sym h) held)) played.0.head played.0.payload (outcome_of outcome) played.1,
  played.2,
)
