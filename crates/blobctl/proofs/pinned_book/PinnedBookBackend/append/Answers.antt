use Rattle.std.proofs.Common.{refl}
use Rattle.store_model.specs.Commands as commands
use Rattle.store_model.specs.Runs.{Number}
use Rattle.store_api.specs.Answers.{Received}
use Rattle.store_api.specs.Commands.{Append}
use Rattle.blobctl.proofs.BookCalls.{does_acts}
use Rattle.blobctl.proofs.Leasing.{same_rise}
use Rattle.blobctl.proofs.pinned_book.PinnedBookBackend.append.Goals as goal

pub returns : goal.returns
returns g c =
    let old = c.args.self.now.book in
    let new = c.append.new.self in
    let acts = does_acts (λ a. a) c.append.result old.catalog new.catalog new.slots (Append c.args.repo.now c.args.number c.args.range c.args.bytes.now) Number Received (commands.append old.catalog c.args.repo.now c.args.number c.args.range c.args.bytes.now) refl (λ a. refl) (λ a h. h) c.append.ensures.does in
    (acts, same_rise old.slots new.slots c.append.ensures.slots.1)
