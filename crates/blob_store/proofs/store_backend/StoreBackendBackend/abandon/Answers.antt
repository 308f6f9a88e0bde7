use Rattle.std.proofs.Common.{refl}
use Rattle.store_model.specs.Runs.{Number}
use Rattle.store_api.specs.Answers.{Abandoned}
use Rattle.store_api.specs.Commands.{Abandon}
use Rattle.blob_store.proofs.BackendSteps.{made}
use Rattle.blob_store.proofs.store_backend.StoreBackendBackend.abandon.Goals as goal

pub returns : goal.returns
returns g c = made g.S.Naming.names _ _ (Abandon c.args.repo.now c.args.number) Number (λ _. Abandoned) c.abandon.result (λ r. (r, refl, refl)) (λ a. refl) (λ a. record { commands = refl; received = refl; closed = refl; abandoned = λ h. absurd (let k = h in cc) }) c.abandon.ensures
