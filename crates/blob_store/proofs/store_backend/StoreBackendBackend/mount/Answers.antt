use Rattle.std.specs.Option.{option_copied}
use Rattle.std.proofs.Common.{refl}
use Rattle.store_model.specs.Runs.{Mounting}
use Rattle.store_api.specs.Answers.{mount_answer}
use Rattle.store_api.specs.Commands.{Mount}
use Rattle.blob_store.proofs.BackendSteps.{made, mount_counts}
use Rattle.blob_store.proofs.store_backend.StoreBackendBackend.mount.Goals as goal

pub returns : goal.returns
returns g c = made g.S.Naming.names _ _ (Mount c.args.repo.now c.args.digest.now (option_copied c.args.from)) Mounting mount_answer c.mount.result (λ r. (r, refl, refl)) (λ a. refl) (mount_counts _ c.args.repo.now c.args.digest.now (option_copied c.args.from)) c.mount.ensures
