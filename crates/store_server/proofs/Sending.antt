-- A connection may cross to another thread, and threads may share the rest: the store, the device of its log, and the leases of all connections.
-- Each part is proved by itself, since the search of the whole stops at one of its limits.
use denote.Ref.{NamedLft}
use denote.RattleType.{RattleType}
use denote.Param.Send.{IsSend, IsSync, sendable}
use Rattle.std.proofs.Crossing.{crosses}
use Rattle.std.proofs.MapsCrossing.{crosses as maps}
use Rattle.std.specs.contracts.sync.Mutex as Mutex
use Rattle.atomic_table.proofs.badge.Badge.TheSendSync as badge
use Rattle.atomic_table.proofs.shared.Seat.TheSendSync as seat
use Rattle.atomic_table.proofs.shared.Shared.TheSendSync as table
use Rattle.atomic_table.proofs.send_lease.SendLease.TheSendSync as lease
use Rattle.ghost_log.specs.contracts.log.Writer as Writer
use Rattle.durable_log.specs.contracts.mark.HistoryMark as HistoryMark
use Rattle.durable_log.specs.contracts.segments.Segments as Segments
use Rattle.durable_log.specs.contracts.device.LogDevice as LogDevice
use Rattle.durable_log.specs.contracts.idle_device.IdleDevice as IdleDevice
use Rattle.durable_log.specs.contracts.leader_cell.LeaderCell as LeaderCell
use Rattle.locked_book.specs.contracts.step.Step as Step
use Rattle.locked_book.specs.contracts.names.StoreLog as StoreLog
use Rattle.locked_book.specs.contracts.names.StorePins as StorePins
use Rattle.lease_table.specs.contracts.table.LeaseTable as LeaseTable
use Rattle.lease_table.specs.contracts.locked.LockedLeaseTable as LockedLeaseTable
use Rattle.blob_store.proofs.Sending.{blob_send, blob_sync, store_sync}
use Rattle.store_server.specs.contracts.connection.EndedConnection as EndedConnection
use Rattle.store_server.specs.contracts.connection.Connection as Connection
use Rattle.store_server.specs.contracts.removal.ConnectionsEnd as ConnectionsEnd
use Rattle.store_server.specs.contracts.service_end.EndCell as EndCell
use Rattle.store_server.specs.contracts.serving.Shared as Shared

ended_connection_send : (I O : RattleType) → IsSend (EndedConnection.the_row I O)
ended_connection_send I O = search (sendable, crosses) depth 60 fits 20000

pub connection_send : (I O : RattleType) → IsSend I → IsSend O → IsSend (Connection.the_row I O)
connection_send I O i o = search (ended_connection_send, sendable, crosses) depth 60 fits 20000

-- ---- the leases

table_send : (p : NamedLft) (N : RattleType) (n : _) → IsSend N → IsSync N → IsSend (LeaseTable.the_row p N n)
table_send p N n s y = search (blob_send, blob_sync, seat.the_send, table.the_sync, lease.the_sync, sendable, crosses, maps) depth 60 fits 20000

locked_table_send : (p : NamedLft) (N L : RattleType) (n : _) (l : _) → IsSend N → IsSync N → IsSend L → IsSend (LockedLeaseTable.the_row p N L n l)
locked_table_send p N L n l s y t = search (table_send, table.the_send, lease.the_send, seat.the_send, sendable, crosses) depth 60 fits 20000

mutex_sync : (T : RattleType) → IsSend T → IsSync (Mutex.the_row T)
mutex_sync T t = search (sendable, crosses) depth 60 fits 20000

pins_send : (S : RattleType) → IsSend S → IsSend (StorePins.the_row S)
pins_send S s = search (sendable, crosses) depth 60 fits 20000

pins_sync : (S : RattleType) → IsSync S → IsSync (StorePins.the_row S)
pins_sync S s = search (sendable, crosses) depth 60 fits 20000

leases_sync : (p : NamedLft) (S L : RattleType) (n : _) (l : _) → IsSend S → IsSync S → IsSend L → IsSync (Mutex.the_row (LockedLeaseTable.the_row p (StorePins.the_row S) L n l))
leases_sync p S L n l s y t = search (mutex_sync, locked_table_send, pins_send, pins_sync, sendable, crosses) depth 60 fits 20000

-- ---- the device of the log

writer_send : (M : RattleType) → IsSend M → IsSend (Writer.the_row M)
writer_send M m = search (badge.the_send, sendable, crosses) depth 60 fits 20000

segments_send : IsSend Segments.the_row
segments_send = search (sendable, crosses) depth 60 fits 20000

mark_send : (E : RattleType) → IsSend E → IsSend (HistoryMark.the_row E)
mark_send E e = search (sendable, crosses) depth 60 fits 20000

device_send : (E N D : RattleType) (n : _) (d : _) → IsSend E → IsSend N → IsSend D → IsSend (LogDevice.the_row E N D n d)
device_send E N D n d e s t = search (writer_send, segments_send, mark_send, sendable, crosses) depth 60 fits 20000

idle_send : (E N D : RattleType) (n : _) (d : _) → IsSend E → IsSend N → IsSend D → IsSend (IdleDevice.the_row E N D n d)
idle_send E N D n d e s t = search (device_send, sendable, crosses) depth 60 fits 20000

cell_sync : (T : RattleType) → IsSend T → IsSync (LeaderCell.the_row T)
cell_sync T t = search (sendable, crosses) depth 60 fits 20000

step_send : IsSend Step.the_row
step_send = search (sendable, crosses) depth 60 fits 20000

log_send : (S : RattleType) → IsSend S → IsSend (StoreLog.the_row S)
log_send S s = search (sendable, crosses) depth 60 fits 20000

device_sync : (S D : RattleType) (n : _) (d : _) → IsSend S → IsSend D → IsSync (LeaderCell.the_row (IdleDevice.the_row Step.the_row (StoreLog.the_row S) D n d))
device_sync S D n d s e = search (cell_sync, idle_send, step_send, log_send, sendable, crosses) depth 60 fits 20000

-- ---- all of it

end_sync : IsSync EndCell.the_row
end_sync = search (sendable, crosses) depth 60 fits 20000

pub shared_sync : (s l : NamedLft) (W S L D F : RattleType) (names : _) (log : _) (d : _) → IsSync W → IsSend S → IsSync S → IsSend L → IsSend D → IsSync F → IsSync (Shared.the_row s l W S L D F names log d)
shared_sync s l W S L D F names log d w ss sy ls ds fs = search (store_sync, device_sync, end_sync, leases_sync, sendable, crosses) depth 60 fits 20000

pub connections_end_sync : IsSync ConnectionsEnd.the_row
connections_end_sync = search (sendable, crosses) depth 60 fits 20000
