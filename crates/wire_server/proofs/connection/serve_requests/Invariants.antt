-- The requests so far were played in order, their replies written, and the backend is durable.
use Rattle.std.specs.Prelude.{List}
use Rattle.std.specs.Io.KnownBytes.{Appends, Consumes}
use Rattle.wire_format.specs.Replies.{Reply}
use Rattle.wire_server.specs.Connections.{Frame, ServesFrames, frames_bytes, replies_bytes}
use Rattle.wire_server.specs.ReplyStreams.{output_of}
use Rattle.watched_reader.specs.Watching.{HasNotFailed, inner_of}
use Rattle.wire_server.proofs.connection.serve_requests.Given as goal

abbrev pub invariant-loop : goal.invariant-loop
invariant-loop g l =
    (frames : List Frame) × (replies : List Reply)
    × ServesFrames g.F.ContentStore.on_disk g.B.Backend.acts g.B.Queries.finds g.L.LeaseStore.does (l.fn.backend, l.fn.leases) frames replies (l.backend, l.leases)
    × Consumes (g.I.Read.remaining (inner_of l.fn.input)) (g.I.Read.remaining (inner_of l.input)) (frames_bytes frames)
    × Appends (g.O.Write.contents (output_of l.fn.output)) (g.O.Write.contents (output_of l.output)) (replies_bytes replies)
    × HasNotFailed l.fn.input l.input
    × g.G.ReplyGuard.durable l.backend
