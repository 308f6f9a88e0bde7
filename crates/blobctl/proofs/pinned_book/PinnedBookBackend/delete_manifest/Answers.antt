use Rattle.std.proofs.Common.{refl}
use Rattle.store_model.specs.Commands as commands
use Rattle.store_model.specs.Runs.{Done}
use Rattle.store_api.specs.Answers.{Deleted}
use Rattle.store_api.specs.Commands.{DeleteManifest}
use Rattle.blobctl.proofs.BookCalls.{does_exactly}
use Rattle.blobctl.proofs.Leasing.{same_rise}
use Rattle.blobctl.proofs.pinned_book.PinnedBookBackend.delete_manifest.Goals as goal

pub returns : goal.returns
returns g c =
    let old = c.args.self.now.book in
    let new = c.delete_manifest.new.self in
    let acts = does_exactly (λ a. a) c.delete_manifest.result old.catalog new.catalog new.slots (DeleteManifest c.args.repo.now c.args.digest.now) (λ _. Done) (λ _. Deleted) (commands.delete_manifest old.catalog c.args.repo.now c.args.digest.now) refl (λ a. refl) (λ a h. h) c.delete_manifest.ensures.does in
    (acts, same_rise old.slots new.slots c.delete_manifest.ensures.slots.1)
