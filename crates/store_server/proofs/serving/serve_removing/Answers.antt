use denote.Ref.{NamedLft}
use denote.Param.{param}
use denote.Param.Send.{sendable}
use Rattle.store_server.proofs.Sending.{connections_end_sync, shared_sync}
use Rattle.store_server.proofs.serving.serve_removing.Goals as goal

pub join_mut-requires-send-F : goal.join_mut-requires-send-F
join_mut-requires-send-F g c κs within =
    let b = c.type_bounds in
    let shared = λ (s l : NamedLft). shared_sync s l (param 0 g.row.W) (param 1 g.row.S) (param 2 g.row.L) (param 3 g.row.D) (param 4 g.row.F) g.S.Naming g.L.LeaseNaming g.D.Disk b.sync-W b.send-S b.sync-S b.send-L b.send-D b.sync-F in
    search (shared, connections_end_sync, sendable) depth 20 fits 20000
