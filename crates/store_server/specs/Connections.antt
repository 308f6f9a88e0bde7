-- Connections that are served at the same time on one store.
use Rattle.std.specs.Prelude.{◌≡◌, ◌≢◌, ◌⊎◌, ◌<◌, ℕ, Bool, Some, false, List, [], ◌∷◌, ◌++◌, Option, None, IfSome, IsSomeAnd, MatchResult, length, slice_index_or}
use Rattle.blob_digest.specs.declared.refusal.Refusal.TheVariants.{LimitReached, Memory}
use Rattle.atomic_table.specs.Seated.{TableId}
use Rattle.wire_server.specs.LeaseEvents.{TableEvent}
use Rattle.lease_table.specs.Histories.{LeaseTrace}
use Rattle.lease_table.specs.Histories as leased
use Rattle.wire_server.specs.Connections.{EndsByRead, ServesConnection}
use Rattle.wire_server.specs.declared.ending.Ending.{Ending}
use Rattle.wire_server.specs.declared.ending.Ending.TheVariants.{NotDurable}
use Rattle.locked_book.specs.History.{DeskView, IsPart}
use Rattle.locked_book.specs.Durability.{IsDurable}
use Rattle.locked_book.specs.Names.{StoreNames}
use Rattle.locked_book.specs.declared.policy.LogPolicy.TheVariants.{NoLog}
use Rattle.blob_store.specs.Parts.{PartsView, names_of}
use Rattle.blob_store.specs.StoreBackends.{IsFound, WorkActs, work_of}
use Rattle.blob_store.specs.Workers.{zero_work}
use Rattle.watched_reader.specs.Watching.{has_failed, inner_of}
use Rattle.watched_reader.specs.declared.watched.Watched.{Watched}
use Rattle.store_server.specs.declared.connection.EndedConnection.{EndedConnection}
use Rattle.store_server.specs.declared.connection.Connection.{Connection}

-- the event is added to those of the connection
abbrev pub AddsTableEvent : List TableEvent → TableEvent → List TableEvent → Type 0
AddsTableEvent old event new = new ≡ old ++ event ∷ []

-- the connection is open, with a reader that had not failed
abbrev pub IsOpen : {I O : Type 0} → Connection I O → I → O → Type 0
IsOpen {I} line input output = (watched : Watched I) × (line.ends ≡ Some (watched, output)) × (inner_of watched ≡ input) × (has_failed watched ≡ false)

-- A connection was served by a new desk, on a store whose contents are in memory or may lie in files. The steps of its requests are the desk's part in a legal history
-- of the store, and their events of leases are its part in the history of this log. Only a store with a log can fail to make its steps durable.
-- Unless it did, the desk's steps are durable, as far as the store promises that.
pub record IsServedConnection (on_disk : Bool) (names : StoreNames) (log : TableId) (line held holds : Option (List ℕ)) (ending : Ending) : Type 0 where
  pub desk : DeskView
  pub leases : LeaseTrace
  pub served : ServesConnection on_disk WorkActs (λ _ catalog. IsFound names catalog) AddsTableEvent (zero_work, []) (work_of desk, leases.own) line held holds ending
  pub part : IsPart names.opening desk.trace
  pub leases_part : leased.IsLeaseHistoryPart log leases
  pub committed : ending ≡ NotDurable → names.policy ≢ NoLog
  pub durable : ending ≢ NotDurable → IsDurable names desk.trace

-- the connection was served from its old output to the new one, and ended so
abbrev pub ServesStreams : {I O : Type 0} → Bool → StoreNames → TableId → (I → Option (List ℕ)) → (O → Option (List ℕ)) → Watched I → O → O → Ending → Type 0
ServesStreams on_disk names log remaining contents input old new ending = IsServedConnection on_disk names log (remaining (inner_of input)) (contents old) (contents new) ending

-- A connection with these ends was served until it ended, with nothing written after its last reply. Or there was no desk for it, and nothing was
-- read or written.
abbrev pub IsEndedConnection : {I O : Type 0} → Bool → StoreNames → TableId → (I → Option (List ℕ)) → (O → Option (List ℕ)) → Watched I × O → EndedConnection I O → Type 0
IsEndedConnection on_disk names log remaining contents ends ended = MatchResult ended.result
    (λ ending. ServesStreams on_disk names log remaining contents ends.0 ends.1 ended.output.value ending × EndsByRead ending ends.0 ended.input.value)
    (λ refusal. ((refusal ≡ LimitReached) ⊎ (refusal ≡ Memory)) × (ended.input.value ≡ ends.0) × (ended.output.value ≡ ends.1))

-- an open connection was served until it ended, and is closed
pub record IsClosedConnection {I O : Type 0} (on_disk : Bool) (names : StoreNames) (log : TableId) (remaining : I → Option (List ℕ)) (contents : O → Option (List ℕ)) (old new : Connection I O) : Type 0 where
  pub closed : new.ends ≡ None
  pub line : IfSome old.ends (λ ends. IsSomeAnd new.ended (IsEndedConnection on_disk names log remaining contents ends))

-- each of the connections was served until it ended
abbrev pub AreServed : {I O : Type 0} → Bool → StoreNames → TableId → (I → Option (List ℕ)) → (O → Option (List ℕ)) → List (Connection I O) → List (Connection I O) → Type 0
AreServed {I} {O} on_disk names log remaining contents old new = (i : ℕ) (d : Connection I O) → i < length old → IsClosedConnection on_disk names log remaining contents (slice_index_or old i d) (slice_index_or new i d)

-- the connections were served on the store of these parts, with one table of leases
abbrev pub AreServedOn : {I O : Type 0} → Bool → PartsView → (I → Option (List ℕ)) → (O → Option (List ℕ)) → List (Connection I O) → List (Connection I O) → Type 0
AreServedOn on_disk parts remaining contents old new = (log : TableId) × AreServed on_disk (names_of parts) log remaining contents old new
