use Rattle.blob_store.proofs.BackendSteps.{swept_in_parts}
use Rattle.blob_store.proofs.store_backend.StoreBackendBackend.sweep_in_parts.Goals as goal

pub returns : goal.returns
returns g c = swept_in_parts g.S.Naming.names _ _ c.sweep_in_parts.result c.sweep_in_parts.ensures
