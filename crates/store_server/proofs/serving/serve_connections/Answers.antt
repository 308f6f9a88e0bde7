use denote.Ref.{NamedLft}
use denote.Param.{param}
use denote.Param.Send.{sendable}
use Rattle.store_server.proofs.Sending.{connection_send, shared_sync}
use Rattle.store_server.proofs.serving.serve_connections.Goals as goal

-- what the connections share is Sync at each lifetime; `search` with the lemma itself stops at its limit
pub for_each_mut-requires-sync-F : goal.for_each_mut-requires-sync-F
for_each_mut-requires-sync-F g c κs within =
    let b = c.type_bounds in
    let shared = λ (s l : NamedLft). shared_sync s l (param 0 g.row.W) (param 1 g.row.S) (param 2 g.row.L) (param 3 g.row.D) (param 4 g.row.F) g.S.Naming g.L.LeaseNaming g.D.Disk b.sync-W b.send-S b.sync-S b.send-L b.send-D b.sync-F in
    search (shared, sendable) depth 20 fits 20000

pub for_each_mut-requires-send-T : goal.for_each_mut-requires-send-T
for_each_mut-requires-send-T g c κs within = search (connection_send, sendable) depth 20 fits 20000
