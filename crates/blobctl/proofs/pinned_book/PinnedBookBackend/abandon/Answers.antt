use Rattle.std.proofs.Common.{refl}
use Rattle.store_model.specs.Commands as commands
use Rattle.store_model.specs.Runs.{Number}
use Rattle.store_api.specs.Answers.{Abandoned}
use Rattle.store_api.specs.Commands.{Abandon}
use Rattle.blobctl.proofs.BookCalls.{does_exactly}
use Rattle.blobctl.proofs.Leasing.{same_rise}
use Rattle.blobctl.proofs.pinned_book.PinnedBookBackend.abandon.Goals as goal

pub returns : goal.returns
returns g c =
    let old = c.args.self.now.book in
    let new = c.abandon.new.self in
    let acts = does_exactly (λ a. a) c.abandon.result old.catalog new.catalog new.slots (Abandon c.args.repo.now c.args.number) Number (λ _. Abandoned) (commands.abandon old.catalog c.args.repo.now c.args.number) refl (λ a. refl) (λ a h. h) c.abandon.ensures.does in
    (acts, same_rise old.slots new.slots c.abandon.ensures.slots.1)
