use Rattle.std.proofs.Common.{add-zero, refl}
use Rattle.store_model.specs.Runs.{Done}
use Rattle.store_api.specs.Answers.{Deleted}
use Rattle.store_api.specs.Commands.{RemoveRepo}
use Rattle.blob_store.proofs.BackendSteps.{made}
use Rattle.blob_store.proofs.store_backend.StoreBackendBackend.remove_repo.Goals as goal

pub returns : goal.returns
returns g c = made g.S.Naming.names _ _ (RemoveRepo c.args.repo.now) (λ _. Done) (λ _. Deleted) c.remove_repo.result (λ r. (r, refl, refl)) (λ a. refl) (λ a. record { commands = refl; received = refl; closed = refl; abandoned = λ _. add-zero _ }) c.remove_repo.ensures
