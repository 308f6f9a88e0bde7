use Rattle.std.proofs.Common.{refl}
use Rattle.store_model.specs.Commands as commands
use Rattle.store_model.specs.Runs.{Number}
use Rattle.store_api.specs.Answers.{Stored}
use Rattle.store_api.specs.Commands.{Close}
use Rattle.blobctl.proofs.BookCalls.{does_acts}
use Rattle.blobctl.proofs.Leasing.{quiet_rise}
use Rattle.blobctl.proofs.pinned_book.PinnedBookBackend.close.Goals as goal

pub returns : goal.returns
returns g c =
    let old = c.args.self.now.book in
    let new = c.close.new.self in
    let acts = does_acts (λ a. a) c.close.result old.catalog new.catalog new.slots (Close c.args.repo.now c.args.number c.args.digest.now c.args.range c.args.bytes.now) Number Stored (commands.close old.catalog c.args.repo.now c.args.number c.args.digest.now c.args.range c.args.bytes.now) refl (λ a. refl) (λ a h. h) c.close.ensures.does in
    (acts, quiet_rise old.slots new.slots c.close.ensures.slots.1)
