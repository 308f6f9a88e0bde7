-- The outcomes of reads are those of requests.
use Rattle.std.proofs.Common.{◌≡◌, ◌≤◌, ℕ, Bool, length}
use Rattle.store_api.specs.Answers.{Answer, Bytes}
use Rattle.store_api.specs.Commands.{Calls, Command, StoreRequest}
use Rattle.store_api.specs.LeaseViews.{LeaseView, bytes_between, extent}
use Rattle.wire_server.specs.LeaseEvents.{TableEvent}
use Rattle.wire_server.specs.Outcomes.{RequestResult, Answered, NewLease, Fetched, Located, NoFile, Unreadable, QueryNumbers, NoCommand}
use Rattle.wire_server.specs.Requests.{max_fetched}
use Rattle.wire_server.specs.Steps.{FetchesPiece, IsReadOutcome}

-- a short piece of a blob that the store lent is fetched
pub fetches : {S T : Type 0} (on_disk : Bool) (acts : S → StoreRequest → Answer → S → Type 0) (does : T → TableEvent → T → Type 0) (command : Command) (start end : ℕ) (old new : S × T) (lent : LeaseView) (outcome : RequestResult)
    → IsReadOutcome on_disk (extent lent.bytes start end) outcome → length (bytes_between lent.bytes start end) ≤ max_fetched → acts old.0 (Calls command) (Bytes lent.bytes) new.0 → new.1 ≡ old.1
    → FetchesPiece on_disk acts does command (start, end) old outcome new
fetches on_disk acts does command start end old new lent (Fetched size piece) read few acted same = (lent, read.0, read.1, few, acted, same)
fetches on_disk acts does command start end old new lent Unreadable read few acted same = (lent, read, acted, same)
fetches on_disk acts does command start end old new lent (Answered answer) read few acted same = absurd read
fetches on_disk acts does command start end old new lent (NewLease size number) read few acted same = absurd read
fetches on_disk acts does command start end old new lent (Located file offset notes) read few acted same = absurd read
fetches on_disk acts does command start end old new lent NoFile read few acted same = absurd read
fetches on_disk acts does command start end old new lent (QueryNumbers first second) read few acted same = absurd read
fetches on_disk acts does command start end old new lent NoCommand read few acted same = absurd read
