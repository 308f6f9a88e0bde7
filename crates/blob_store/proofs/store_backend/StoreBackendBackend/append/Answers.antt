use Rattle.blob_store.proofs.BackendSteps.{appended}
use Rattle.blob_store.proofs.store_backend.StoreBackendBackend.append.Goals as goal

pub returns : goal.returns
returns g c = appended g.S.Naming.names _ _ c.args.repo.now c.args.number c.args.range c.args.bytes.now c.append_by.result c.append_by.ensures.ok c.append_by.ensures.err c.append_by.ensures.steps
