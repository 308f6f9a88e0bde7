use Rattle.std.proofs.Common.{refl}
use Rattle.blob_store.proofs.BackendSteps.{looked}
use Rattle.blob_store.proofs.store_backend.StoreBackendBackend.verify.Goals as goal

pub returns-clause-acts : goal.returns-clause-acts
returns-clause-acts g c = looked g.S.Naming.names _ _ (record { hold = c.args.lease.hold; bytes = c.args.lease.bytes; kept = c.verify.ensures.kept; content = c.verify.ensures.content; length = refl })
