-- What a thread gets and gives back may cross: a store, a worker's job and its result.
use denote.RattleType.{RattleType}
use denote.Ref.{NamedLft}
use denote.Param.Send.{IsSend, IsSync, sendable}
use Rattle.std.proofs.Crossing.{crosses}
use Rattle.atomic_table.proofs.shared.Shared.TheSendSync as table
use Rattle.atomic_table.proofs.send_lease.SendLease.TheSendSync as lease
use Rattle.store_book.proofs.Sending.{content_send, content_sync}
use Rattle.locked_book.proofs.Sending.{locked_book_send, desk_send}
use Rattle.locked_book.specs.declared.names.Naming.{Ghosts}
use Rattle.blob_digest.specs.contracts.blob.Blob as Blob
use Rattle.store_api.specs.contracts.piece.Piece as Piece
use Rattle.store_api.specs.contracts.piece.PieceBytes as PieceBytes
use Rattle.store_api.specs.contracts.reply.Reply as Reply
use Rattle.blob_store.specs.contracts.store.Store as Store
use Rattle.blob_store.specs.contracts.workers.Job as Job
use Rattle.blob_store.specs.contracts.workers.Shared as Shared
use Rattle.blob_store.specs.contracts.workers.WorkerResult as WorkerResult

pub store_sync : (S : RattleType) (names : Ghosts S.Denot) → IsSend S → IsSync (Store.the_row S names)
store_sync S names s = search (locked_book_send, table.the_sync, table.the_send, lease.the_sync, lease.the_send, sendable, crosses) depth 60 fits 20000

pub shared_sync : (e : NamedLft) (W G S L : RattleType) (names : Ghosts S.Denot) → IsSync W → IsSync G → IsSend S → IsSync L → IsSync (Shared.the_row e W G S L names)
shared_sync e W G S L names w g s l = search (store_sync, sendable, crosses) depth 60 fits 20000

pub blob_send : IsSend Blob.the_row
blob_send = search (content_send, sendable, crosses) depth 60 fits 20000

pub blob_sync : IsSync Blob.the_row
blob_sync = search (content_sync, sendable, crosses) depth 60 fits 20000

piece_bytes_send : IsSend PieceBytes.the_row
piece_bytes_send = search (blob_send, blob_sync, sendable, crosses) depth 60 fits 20000

piece_send : IsSend Piece.the_row
piece_send = search (piece_bytes_send, sendable, crosses) depth 60 fits 20000

reply_send : IsSend Reply.the_row
reply_send = search (piece_send, sendable, crosses) depth 60 fits 20000

pub job_send : (S : RattleType) (names : Ghosts S.Denot) → IsSend S → IsSend (Job.the_row S names)
job_send S names s = search (reply_send, desk_send, sendable, crosses) depth 60 fits 20000

pub result_send : (S : RattleType) (names : Ghosts S.Denot) → IsSend S → IsSend (WorkerResult.the_row S names)
result_send S names s = search (reply_send, desk_send, sendable, crosses) depth 60 fits 20000
