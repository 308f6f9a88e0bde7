use Rattle.std.proofs.Common.{refl}
use Rattle.store_model.specs.Commands as commands
use Rattle.store_model.specs.Runs.{Done}
use Rattle.store_api.specs.Answers.{Deleted}
use Rattle.store_api.specs.Commands.{RemoveRepo}
use Rattle.blobctl.proofs.BookCalls.{does_exactly}
use Rattle.blobctl.proofs.Leasing.{same_rise}
use Rattle.blobctl.proofs.pinned_book.PinnedBookBackend.remove_repo.Goals as goal

pub returns : goal.returns
returns g c =
    let old = c.args.self.now.book in
    let new = c.remove_repo.new.self in
    let acts = does_exactly (λ a. a) c.remove_repo.result old.catalog new.catalog new.slots (RemoveRepo c.args.repo.now) (λ _. Done) (λ _. Deleted) (commands.remove_repo old.catalog c.args.repo.now) refl (λ a. refl) (λ a h. h) c.remove_repo.ensures.does in
    (acts, same_rise old.slots new.slots c.remove_repo.ensures.slots.1)
