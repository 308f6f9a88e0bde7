-- The events of calls under the lock.
use Rattle.wire_server.specs.LeaseEvents.{TableEvent}
use Rattle.lease_table.specs.Tables.{give_back_event, keep_event, lease_view_of, read_event}
use Rattle.lease_table.specs.declared.call.Call.{Call}
use Rattle.lease_table.specs.declared.call.Call.TheVariants as call

-- the event of a call
abbrev pub event_of : {N : Type 0} → Call N → TableEvent
event_of (call.Keep lease number) = keep_event (lease_view_of lease.value) number
event_of (call.Read number digest start end found) = read_event number digest.now start end found.now
event_of (call.GiveBack number found) = give_back_event number found
