use Rattle.std.proofs.Common.{add-zero, refl}
use Rattle.store_model.specs.Runs.{Done}
use Rattle.store_api.specs.Answers.{Deleted}
use Rattle.store_api.specs.Commands.{Delete}
use Rattle.blob_store.proofs.BackendSteps.{made}
use Rattle.blob_store.proofs.store_backend.StoreBackendBackend.delete.Goals as goal

pub returns : goal.returns
returns g c = made g.S.Naming.names _ _ (Delete c.args.repo.now c.args.digest.now) (λ _. Done) (λ _. Deleted) c.delete.result (λ r. (r, refl, refl)) (λ a. refl) (λ a. record { commands = refl; received = refl; closed = refl; abandoned = λ _. add-zero _ }) c.delete.ensures
