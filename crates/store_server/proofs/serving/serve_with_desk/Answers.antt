use Rattle.std.proofs.Common.{ap}
use Rattle.blob_store.specs.StoreBackends.{IsFound, DeskActs, Work, WorkActs, work_of}
use Rattle.lease_table.specs.Histories.{AddsEvent}
use Rattle.store_server.specs.Connections.{AddsTableEvent}
use Rattle.store_server.proofs.Guarding.{fresh_durable}
use Rattle.store_server.proofs.Through.{connection_through, served_at}
use Rattle.store_server.proofs.serving.serve_with_desk.Goals as goal

pub returns-clause-served : goal.returns-clause-served
returns-clause-served g c =
    let names = g.S.Naming.names in
    served_at g.F.ContentStore.on_disk names g.L.LeaseNaming.log c.args.desk c.serve-ending.new.backend.desk c.args.writer c.serve-ending.new.leases.writer _ _ _ _ c.requires.fresh c.requires.unwritten
    (connection_through g.F.ContentStore.on_disk (λ backend. work_of backend.desk) (λ leases. leases.writer.own)
    (λ old request answer new. DeskActs names old.desk request answer new.desk) (λ _ catalog. IsFound names catalog) (λ old event new. AddsEvent old.writer event new.writer)
    WorkActs (λ _ catalog. IsFound names catalog) AddsTableEvent
    (λ old request answer new acts. acts.work) (λ _ _ found. found) (λ old event new adds. adds.own) _ _ _ _ _ _ c.serve-ending.ensures.served)
    c.reveal_invariant.ensures c.reveal_invariant-2.ensures c.serve-ending.ensures.lost c.serve-ending.ensures.durable

pub serve-ending-requires : goal.serve-ending-requires
serve-ending-requires g c = fresh_durable g.S.Naming.names.policy c.args.desk.trace (ap (λ (w : Work). w.steps) c.requires.fresh) c.requires.undurable
