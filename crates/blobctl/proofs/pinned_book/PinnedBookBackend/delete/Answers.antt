use Rattle.std.proofs.Common.{refl}
use Rattle.store_model.specs.Commands as commands
use Rattle.store_model.specs.Runs.{Done}
use Rattle.store_api.specs.Answers.{Deleted}
use Rattle.store_api.specs.Commands.{Delete}
use Rattle.blobctl.proofs.BookCalls.{does_exactly}
use Rattle.blobctl.proofs.Leasing.{same_rise}
use Rattle.blobctl.proofs.pinned_book.PinnedBookBackend.delete.Goals as goal

pub returns : goal.returns
returns g c =
    let old = c.args.self.now.book in
    let new = c.delete.new.self in
    let acts = does_exactly (λ a. a) c.delete.result old.catalog new.catalog new.slots (Delete c.args.repo.now c.args.digest.now) (λ _. Done) (λ _. Deleted) (commands.delete old.catalog c.args.repo.now c.args.digest.now) refl (λ a. refl) (λ a h. h) c.delete.ensures.does in
    (acts, same_rise old.slots new.slots c.delete.ensures.slots.1)
