use Rattle.store_model.specs.Runs.{Bytes}
use Rattle.blob_store.proofs.Refusals.{no_manifest, no_size}
use Rattle.blob_store.proofs.store.Store.put_manifest.Goals as goal

pub returns-in-Ok-clause-size : goal.returns-in-Ok-clause-size
returns-in-Ok-clause-size g c =
    let read = c.in-Ok in
    no_size Bytes c.keep_manifest.result _ _ c.args.repo.now read.manifest c.args.bytes.now read.ensures.value (λ more. let e = read.ensures.too_long more in absurd cc) read.ensures.accepted c.keep_manifest.ensures.does.does _

pub returns-in-Ok-clause-invalid : goal.returns-in-Ok-clause-invalid
returns-in-Ok-clause-invalid g c =
    let read = c.in-Ok in
    no_manifest Bytes c.keep_manifest.result _ _ c.args.repo.now read.manifest c.args.bytes.now read.ensures.value (λ more. let e = read.ensures.too_long more in absurd cc) read.ensures.accepted c.keep_manifest.ensures.does.does _
