use Rattle.std.proofs.Common.{add-zero, refl}
use Rattle.store_model.specs.Runs.{Bytes}
use Rattle.store_api.specs.Answers.{Manifest}
use Rattle.store_api.specs.Commands.{PutManifest}
use Rattle.blob_store.proofs.BackendSteps.{made}
use Rattle.blob_store.proofs.store_backend.StoreBackendBackend.put_manifest.Goals as goal

pub returns : goal.returns
returns g c = made g.S.Naming.names _ _ (PutManifest c.args.repo.now c.args.bytes.now) (λ d. Bytes d) (λ d. Manifest d) c.put_manifest.result (λ r. (r, refl, refl)) (λ a. refl) (λ a. record { commands = refl; received = refl; closed = refl; abandoned = λ _. add-zero _ }) c.put_manifest.ensures.makes
