use Rattle.std.proofs.Common.{add-zero, refl}
use Rattle.store_model.specs.Runs.{Number}
use Rattle.store_api.specs.Answers.{Received}
use Rattle.store_api.specs.Commands.{Status}
use Rattle.blob_store.proofs.BackendSteps.{made}
use Rattle.blob_store.proofs.store_backend.StoreBackendBackend.status.Goals as goal

pub returns : goal.returns
returns g c = made g.S.Naming.names _ _ (Status c.args.repo.now c.args.number) Number Received c.status.result (λ r. (r, refl, refl)) (λ a. refl) (λ a. record { commands = refl; received = refl; closed = refl; abandoned = λ _. add-zero _ }) c.status.ensures
