-- What a thread gets and gives back may cross: a book with its counters and its history, and a desk.
use denote.RattleType.{RattleType}
use denote.Param.Send.{IsSend, IsSync, sendable}
use Rattle.std.proofs.Crossing.{crosses}
use Rattle.std.proofs.sync.ledger.Share.TheSendSync as share
use Rattle.std.proofs.sync.ledger.Book.TheSendSync as ledger
use Rattle.atomic_table.proofs.badge.Badge.TheSendSync as badge
use Rattle.atomic_table.proofs.shared.Seat.TheSendSync as seat
use Rattle.atomic_table.proofs.shared.Shared.TheSendSync as table
use Rattle.atomic_table.proofs.send_lease.SendLease.TheSendSync as lease
use Rattle.durable_log.specs.contracts.pending.Pending as Pending
use Rattle.store_book.proofs.Sending.{book_send}
use Rattle.locked_book.specs.declared.names.Naming.{Ghosts}
use Rattle.locked_book.specs.contracts.kept.Kept as Kept
use Rattle.locked_book.specs.contracts.counters.Counters as Counters
use Rattle.locked_book.specs.contracts.history.History as History
use Rattle.locked_book.specs.contracts.droppable_desk.DroppableDesk as DroppableDesk

counters_send : (S : RattleType) (names : Ghosts S.Denot) → IsSend S → IsSend (Counters.the_row S names)
counters_send S names s = search (share.the_send, ledger.the_send, sendable, crosses) depth 60 fits 20000

pending_send : IsSend Pending.the_row
pending_send = search (sendable, crosses) depth 60 fits 20000

history_send : (S : RattleType) (names : Ghosts S.Denot) → IsSend S → IsSend (History.the_row S names)
history_send S names s = search (table.the_send, lease.the_send, seat.the_send, pending_send, sendable, crosses) depth 60 fits 20000

pub locked_book_send : (S : RattleType) (names : Ghosts S.Denot) → IsSend S → IsSend (Kept.the_row S names)
locked_book_send S names s = search (book_send, counters_send, history_send, sendable, crosses) depth 60 fits 20000

pub desk_send : (S : RattleType) (names : Ghosts S.Denot) → IsSend S → IsSend (DroppableDesk.the_row S names)
desk_send S names s = search (share.the_send, badge.the_send, sendable, crosses) depth 60 fits 20000
