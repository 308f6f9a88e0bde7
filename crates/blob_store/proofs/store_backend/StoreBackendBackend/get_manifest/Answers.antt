use Rattle.std.specs.Arc.{arc_value}
use Rattle.std.proofs.Common.{add-zero, refl}
use Rattle.store_model.specs.Runs.{Bytes}
use Rattle.store_api.specs.Answers.{Body}
use Rattle.store_api.specs.Commands.{GetManifest}
use Rattle.blob_store.proofs.BackendSteps.{made}
use Rattle.blob_store.proofs.store_backend.StoreBackendBackend.get_manifest.Goals as goal

pub returns : goal.returns
returns g c = made g.S.Naming.names _ _ (GetManifest c.args.repo.now c.args.digest.now) (λ m. Bytes (arc_value m)) (λ m. Body (arc_value m)) c.get_manifest.result (λ r. (r, refl, refl)) (λ a. refl) (λ a. record { commands = refl; received = refl; closed = refl; abandoned = λ _. add-zero _ }) c.get_manifest.ensures.makes
