use Rattle.std.proofs.Common.{add-zero, refl}
use Rattle.store_model.specs.Runs.{Number}
use Rattle.store_api.specs.Answers.{Session}
use Rattle.store_api.specs.Commands.{Start}
use Rattle.blob_store.proofs.BackendSteps.{made}
use Rattle.blob_store.proofs.store_backend.StoreBackendBackend.start.Goals as goal

pub returns : goal.returns
returns g c = made g.S.Naming.names _ _ (Start c.args.repo.now) Number Session c.start.result (λ r. (r, refl, refl)) (λ a. refl) (λ a. record { commands = refl; received = refl; closed = refl; abandoned = λ _. add-zero _ }) c.start.ensures
