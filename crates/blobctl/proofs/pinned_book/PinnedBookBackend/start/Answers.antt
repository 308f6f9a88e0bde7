use Rattle.std.proofs.Common.{refl}
use Rattle.store_model.specs.Commands as commands
use Rattle.store_model.specs.Runs.{Number}
use Rattle.store_api.specs.Answers.{Session}
use Rattle.store_api.specs.Commands.{Start}
use Rattle.blobctl.proofs.BookCalls.{does_acts}
use Rattle.blobctl.proofs.Leasing.{same_rise}
use Rattle.blobctl.proofs.pinned_book.PinnedBookBackend.start.Goals as goal

pub returns : goal.returns
returns g c =
    let old = c.args.self.now.book in
    let new = c.start.new.self in
    let acts = does_acts (λ a. a) c.start.result old.catalog new.catalog new.slots (Start c.args.repo.now) Number Session (commands.start old.catalog c.args.repo.now) refl (λ a. refl) (λ a h. h) c.start.ensures.does in
    (acts, same_rise old.slots new.slots c.start.ensures.slots.1)
