-- A connection that is served on a store and a table is served on each view of them.
use Rattle.std.proofs.Common.{◌≡◌, ◌≢◌, ◌∷◌, [], ℕ, Bool, true, false, List, Option, Some, None, Result, Ok, Err, ap, inl, inr, subst}
use Rattle.blob_digest.specs.declared.range.ByteRange.{ByteRange}
use Rattle.blob_digest.specs.declared.refusal.Refusal.{Refusal}
use Rattle.wire_format.specs.Replies.{Reply}
use Rattle.wire_format.specs.declared.request.Head.{Head}
use Rattle.spec_lib.specs.Texts.{Text}
use Rattle.store_model.specs.Catalog.{Catalog}
use Rattle.store_api.specs.Answers.{Answer, Bytes, Refused, Swept}
use Rattle.store_api.specs.LeaseViews.{stored_bytes}
use Rattle.store_api.specs.Commands.{Calls, Command, StoreRequest, SweepsInParts}
use Rattle.store_api.specs.Steps.{StepOf}
use Rattle.store_api.specs.declared.query.Query.{Query}
use Rattle.store_api.specs.declared.query.Query.TheVariants as asked
use Rattle.store_api.specs.declared.verb.Verb.{Verb}
use Rattle.store_api.specs.declared.verb.Verb.TheVariants as verb
use Rattle.wire_server.specs.LeaseEvents.{TableEvent, LeaseKept, LeaseNotKept, PieceRead, PieceNotRead, LeaseGivenBack, LeaseNotGivenBack}
use Rattle.wire_server.specs.Outcomes.{RequestResult, Answered, NewLease, Fetched, Located, NoFile, Unreadable, QueryNumbers, NoCommand}
use Rattle.wire_server.specs.Queries.{IsQueryOutcome, QueryStep}
use Rattle.wire_server.specs.Requests.{ends_of, request_command}
use Rattle.wire_server.specs.Connections.{Frame, ServesConnection, ServesRequests, ServesFrames}
use Rattle.wire_server.specs.Steps.{CommandStep, FetchesPiece, FetchStep, GiveBackStep, LeaseStep, LeasesBlob, NoVerbStep, ReadStep, RequestStep, VerbStep}
use Rattle.locked_book.specs.History.{DeskView, IsPart}
use Rattle.locked_book.specs.Durability.{IsDurable}
use Rattle.locked_book.specs.Names.{StoreNames}
use Rattle.locked_book.specs.declared.policy.LogPolicy.TheVariants.{NoLog}
use Rattle.atomic_table.specs.Seated.{TableId}
use Rattle.lease_table.specs.Histories.{LeaseTrace}
use Rattle.lease_table.specs.Histories as leased
use Rattle.blob_store.specs.StoreBackends.{IsFound, Work, WorkActs, work_of}
use Rattle.blob_store.specs.Workers.{zero_work}
use Rattle.store_server.specs.Connections.{IsServedConnection, AddsTableEvent}
use Rattle.wire_server.specs.declared.ending.Ending.{Ending}
use Rattle.wire_server.specs.declared.ending.Ending.TheVariants.{NotDurable}

module _ {S T U V : Type 0} (on_disk : Bool) (shown : S → U) (lent : T → V)
    (acts : S → StoreRequest → Answer → S → Type 0) (finds : S → Catalog → Type 0) (does : T → TableEvent → T → Type 0)
    (to_act : U → StoreRequest → Answer → U → Type 0) (to_find : U → Catalog → Type 0) (to_do : V → TableEvent → V → Type 0)
    (tells : (old : S) (request : StoreRequest) (answer : Answer) (new : S) → acts old request answer new → to_act (shown old) request answer (shown new))
    (shows : (s : S) (catalog : Catalog) → finds s catalog → to_find (shown s) catalog)
    (lends : (old : T) (lending : TableEvent) (new : T) → does old lending new → to_do (lent old) lending (lent new)) where
  abbrev view_of : S × T → U × V
  view_of s = (shown s.0, lent s.1)

  call_through : (spelled : Result (Option Command) Refusal) (old new : S) (answer : Answer) → StepOf acts spelled old answer new → StepOf to_act spelled (shown old) answer (shown new)
  call_through (Ok (Some command)) old new answer h = (h.0, tells old (Calls command) answer new h.1)
  call_through (Ok None) old new answer h = absurd h
  call_through (Err refusal) old new answer h = (h.0, ap shown h.1)

  command_through : (spelled : Result (Option Command) Refusal) (old new : S × T) (outcome : RequestResult) → CommandStep acts spelled old outcome new → CommandStep to_act spelled (view_of old) outcome (view_of new)
  command_through spelled old new (Answered answer) h = (call_through spelled old.0 new.0 answer h.0, ap lent h.1)
  command_through spelled old new (NewLease size number) h = absurd h
  command_through spelled old new (Fetched size piece) h = absurd h
  command_through spelled old new Unreadable h = absurd h
  command_through spelled old new (Located file offset notes) h = absurd h
  command_through spelled old new NoFile h = absurd h
  command_through spelled old new (QueryNumbers first second) h = absurd h
  command_through spelled old new NoCommand h = absurd h

  lends_through : (command : Command) (old new : S × T) (outcome : RequestResult) → LeasesBlob acts does command old outcome new → LeasesBlob to_act to_do command (view_of old) outcome (view_of new)
  lends_through command old new (NewLease size number) h = (h.0, h.1, tells old.0 (Calls command) (Bytes h.0.bytes) new.0 h.2, lends old.1 (LeaseKept h.0 number) new.1 h.3)
  lends_through command old new (Answered answer) (inl h) = inl (h.0, h.1, tells old.0 (Calls command) (Refused h.0) new.0 h.2, ap lent h.3)
  lends_through command old new (Answered answer) (inr h) = inr (h.0, h.1, tells old.0 (Calls command) (Bytes h.0.bytes) new.0 h.2, lends old.1 (LeaseNotKept h.0) new.1 h.3)
  lends_through command old new (Fetched size piece) h = absurd h
  lends_through command old new Unreadable h = absurd h
  lends_through command old new (Located file offset notes) h = absurd h
  lends_through command old new NoFile h = absurd h
  lends_through command old new (QueryNumbers first second) h = absurd h
  lends_through command old new NoCommand h = absurd h

  lease_through : (spelled : Result (Option Command) Refusal) (old new : S × T) (outcome : RequestResult) → LeaseStep acts does spelled old outcome new → LeaseStep to_act to_do spelled (view_of old) outcome (view_of new)
  lease_through (Ok (Some command)) old new outcome h = lends_through command old new outcome h
  lease_through (Ok None) old new outcome h = absurd h
  lease_through (Err refusal) old new outcome h = (h.0, ap view_of h.1)

  fetches_through : (command : Command) (ends : ℕ × ℕ) (old new : S × T) (outcome : RequestResult) → FetchesPiece on_disk acts does command ends old outcome new → FetchesPiece on_disk to_act to_do command ends (view_of old) outcome (view_of new)
  fetches_through command ends old new (Fetched size piece) h = (h.0, h.1, h.2, h.3, tells old.0 (Calls command) (Bytes h.0.bytes) new.0 h.4, ap lent h.5)
  fetches_through command ends old new Unreadable h = (h.0, h.1, tells old.0 (Calls command) (Bytes h.0.bytes) new.0 h.2, ap lent h.3)
  fetches_through command ends old new (NewLease size number) h = (h.0, h.1, h.2, tells old.0 (Calls command) (Bytes h.0.bytes) new.0 h.3, lends old.1 (LeaseKept h.0 number) new.1 h.4)
  fetches_through command ends old new (Answered answer) (inl h) = inl (lends_through command old new (Answered answer) h)
  fetches_through command ends old new (Answered answer) (inr h) = inr (h.0, h.1, tells old.0 (Calls command) (Bytes h.0.bytes) new.0 h.2, ap lent h.3)
  fetches_through command ends old new (Located file offset notes) h = absurd h
  fetches_through command ends old new NoFile h = absurd h
  fetches_through command ends old new (QueryNumbers first second) h = absurd h
  fetches_through command ends old new NoCommand h = absurd h

  fetch_through : (spelled : Result (Option Command) Refusal) (range : Result (Option ByteRange) Refusal) (old new : S × T) (outcome : RequestResult) → FetchStep on_disk acts does spelled range old outcome new → FetchStep on_disk to_act to_do spelled range (view_of old) outcome (view_of new)
  fetch_through (Ok (Some command)) (Ok range) old new outcome h = fetches_through command (ends_of range) old new outcome h
  fetch_through (Ok (Some command)) (Err refusal) old new outcome h = (h.0, ap view_of h.1)
  fetch_through (Ok None) range old new outcome h = absurd h
  fetch_through (Err refusal) range old new outcome h = (h.0, ap view_of h.1)

  read_through : (located : Bool) (number : ℕ) (digest : Result Text Refusal) (range : Result (Option ByteRange) Refusal) (old new : T) (outcome : RequestResult) → ReadStep on_disk located does number digest range old outcome new → ReadStep on_disk located to_do number digest range (lent old) outcome (lent new)
  read_through located number (Ok digest) (Ok range) old new outcome (inl h) =
      let ends = ends_of range in
      inl (h.0, h.1, h.2, lends old (PieceRead number digest ends.0 ends.1 (stored_bytes h.0)) new h.3)
  read_through located number (Ok digest) (Ok range) old new outcome (inr h) = inr (h.0, lends old (PieceNotRead number digest) new h.1)
  read_through located number (Ok digest) (Err refusal) old new outcome h = (h.0, ap lent h.1)
  read_through located number (Err refusal) range old new outcome h = (h.0, ap lent h.1)

  give_back_through : (number : ℕ) (old new : T) (outcome : RequestResult) → GiveBackStep does number old outcome new → GiveBackStep to_do number (lent old) outcome (lent new)
  give_back_through number old new outcome (inl h) = inl (h.0, lends old (LeaseGivenBack number) new h.1)
  give_back_through number old new outcome (inr h) = inr (h.0, lends old (LeaseNotGivenBack number) new h.1)

  found_through : (query : Query) (store : S) (outcome : RequestResult) → IsQueryOutcome finds store query outcome → IsQueryOutcome to_find (shown store) query outcome
  found_through (asked.Stat repo digest) store outcome h = (h.0, shows store h.0 h.1, h.2)
  found_through (asked.StatManifest repo digest) store outcome h = (h.0, shows store h.0 h.1, h.2)
  found_through asked.FreeSlots store outcome h = (h.0, shows store h.0 h.1, h.2)
  found_through (asked.Usage repo) store outcome h = (h.0, shows store h.0 h.1, h.2)
  found_through (asked.SlotUse repo) store outcome h = (h.0, shows store h.0 h.1, h.2)
  found_through (asked.RepoCount repo) store outcome h = (h.0, shows store h.0 h.1, h.2)
  found_through asked.SyncCount store outcome h = h

  query_through : (store : S) (spelled : Result (Option Query) Refusal) (outcome : RequestResult) → QueryStep finds store spelled outcome → QueryStep to_find (shown store) spelled outcome
  query_through store (Ok (Some query)) outcome h = found_through query store outcome h
  query_through store (Ok None) outcome h = h
  query_through store (Err refusal) outcome h = h

  no_verb_through : (fetch located : Bool) (old new : S × T) (head : Head) (payload : Text) (outcome : RequestResult) → NoVerbStep on_disk acts finds does fetch located old head payload outcome new → NoVerbStep on_disk to_act to_find to_do fetch located (view_of old) head payload outcome (view_of new)
  no_verb_through true located old new head payload outcome h = fetch_through _ _ old new outcome h
  no_verb_through false true old new head payload outcome h = (read_through true head.number _ _ old.1 new.1 outcome h.0, ap shown h.1)
  no_verb_through false false old new head payload outcome h = (query_through old.0 _ outcome h.0, ap view_of h.1)

  verb_through : (asked : Option Verb) (old new : S × T) (head : Head) (payload : Text) (outcome : RequestResult) → VerbStep on_disk acts finds does asked old head payload outcome new → VerbStep on_disk to_act to_find to_do asked (view_of old) head payload outcome (view_of new)
  verb_through None old new head payload outcome h = no_verb_through _ _ old new head payload outcome h
  verb_through (Some verb.Lease) old new head payload outcome h = lease_through _ old new outcome h
  verb_through (Some verb.Read) old new head payload outcome h = (read_through false head.number _ _ old.1 new.1 outcome h.0, ap shown h.1)
  verb_through (Some verb.GiveBack) old new head payload outcome h = (give_back_through head.number old.1 new.1 outcome h.0, ap shown h.1)
  verb_through (Some verb.Sweep) old new head payload outcome h = ((h.0.0, h.0.1, tells old.0 SweepsInParts (Swept h.0.0) new.0 h.0.2), ap lent h.1)
  verb_through (Some verb.Start) old new head payload outcome h = command_through _ old new outcome h
  verb_through (Some verb.Status) old new head payload outcome h = command_through _ old new outcome h
  verb_through (Some verb.Append) old new head payload outcome h = command_through _ old new outcome h
  verb_through (Some verb.Close) old new head payload outcome h = command_through _ old new outcome h
  verb_through (Some verb.Abandon) old new head payload outcome h = command_through _ old new outcome h
  verb_through (Some verb.Mount) old new head payload outcome h = command_through _ old new outcome h
  verb_through (Some verb.Delete) old new head payload outcome h = command_through _ old new outcome h
  verb_through (Some verb.PutManifest) old new head payload outcome h = command_through _ old new outcome h
  verb_through (Some verb.GetManifest) old new head payload outcome h = command_through _ old new outcome h
  verb_through (Some verb.DeleteManifest) old new head payload outcome h = command_through _ old new outcome h
  verb_through (Some verb.RemoveRepo) old new head payload outcome h = command_through _ old new outcome h
  verb_through (Some verb.Share) old new head payload outcome h = command_through (request_command verb.Share head payload) old new outcome h
  verb_through (Some verb.Verify) old new head payload outcome h = command_through (request_command verb.Verify head payload) old new outcome h

  request_through : (old new : S × T) (head : Head) (payload : Text) (outcome : RequestResult) → RequestStep on_disk acts finds does old head payload outcome new → RequestStep on_disk to_act to_find to_do (view_of old) head payload outcome (view_of new)
  request_through old new head payload outcome (inl h) = inl (h.0, h.1, ap view_of h.2)
  request_through old new head payload outcome (inr h) = inr (verb_through _ old new head payload outcome h)

  serves_through : (old new : S × T) (frames : List Frame) (replies : List Reply) → ServesFrames on_disk acts finds does old frames replies new → ServesFrames on_disk to_act to_find to_do (view_of old) frames replies (view_of new)
  serves_through old new [] [] h = ap view_of h
  serves_through old new [] (r ∷ rs) h = absurd h
  serves_through old new (f ∷ fs) [] h = absurd h
  serves_through old new (f ∷ fs) (r ∷ rs) h = (view_of h.0, (h.1.0, request_through old h.0 f.head f.payload h.1.0 h.1.1, h.1.2), serves_through h.0 new fs rs h.2)

  served_through : (old new : S × T) (line held holds : Option (List ℕ)) (ending : Ending) → ServesRequests on_disk acts finds does old new line held holds ending → ServesRequests on_disk to_act to_find to_do (view_of old) (view_of new) line held holds ending
  served_through old new line held holds ending h = record {
    frames = h.frames;
    replies = h.replies;
    served = serves_through old new h.frames h.replies h.served;
    rest = h.rest;
    read = h.read;
    written = h.written;
    ends = h.ends;
  }

  pub connection_through : (old new : S × T) (line held holds : Option (List ℕ)) (ending : Ending) → ServesConnection on_disk acts finds does old new line held holds ending → ServesConnection on_disk to_act to_find to_do (view_of old) (view_of new) line held holds ending
  connection_through old new line held holds ending (inl h) = inl (ap view_of h.0, h.1)
  connection_through old new line held holds ending (inr h) = inr (h.0, h.1, h.2, h.3, served_through old new h.0 h.1 holds ending h.4)

-- a connection that is served with a new desk and a new writer
pub served_at : (on_disk : Bool) (names : StoreNames) (log : TableId) (old new : DeskView) (was is : LeaseTrace) (line held holds : Option (List ℕ)) (ending : Ending) → work_of old ≡ zero_work → was.own ≡ []
    → ServesConnection on_disk WorkActs (λ _ catalog. IsFound names catalog) AddsTableEvent (work_of old, was.own) (work_of new, is.own) line held holds ending
    → IsPart names.opening new.trace → leased.IsLeaseHistoryPart log is → (ending ≡ NotDurable → names.policy ≢ NoLog) → (ending ≢ NotDurable → IsDurable names new.trace)
    → IsServedConnection on_disk names log line held holds ending
served_at on_disk names log old new was is line held holds ending fresh unwritten served part leases_part committed durable = record {
  desk = new;
  leases = is;
  served = subst (λ (from : Work × List TableEvent). ServesConnection on_disk WorkActs (λ _ catalog. IsFound names catalog) AddsTableEvent from (work_of new, is.own) line held holds ending) (λ i. (fresh i, unwritten i)) served;
  part = part;
  leases_part = leases_part;
  committed = committed;
  durable = durable;
}
