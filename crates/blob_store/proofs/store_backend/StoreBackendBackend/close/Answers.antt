use Rattle.blob_store.proofs.BackendSteps.{closed}
use Rattle.blob_store.proofs.store_backend.StoreBackendBackend.close.Goals as goal

pub returns : goal.returns
returns g c = closed g.S.Naming.names _ _ c.args.repo.now c.args.number c.args.digest.now c.args.range c.args.bytes.now c.close_by.result c.close_by.ensures.ok c.close_by.ensures.err c.close_by.ensures.steps
