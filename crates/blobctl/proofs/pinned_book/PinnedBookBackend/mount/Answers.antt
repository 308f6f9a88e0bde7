use Rattle.std.specs.Option.{option_copied}
use Rattle.std.proofs.Common.{refl}
use Rattle.store_model.specs.Commands as commands
use Rattle.store_model.specs.Runs.{Mounting}
use Rattle.store_api.specs.Answers.{mount_answer}
use Rattle.store_api.specs.Commands.{Mount}
use Rattle.blobctl.proofs.BookCalls.{does_acts, mount_accepts}
use Rattle.blobctl.proofs.Leasing.{same_rise}
use Rattle.blobctl.proofs.pinned_book.PinnedBookBackend.mount.Goals as goal

pub returns : goal.returns
returns g c =
    let old = c.args.self.now.book in
    let new = c.mount.new.self in
    let acts = does_acts (λ a. a) c.mount.result old.catalog new.catalog new.slots (Mount c.args.repo.now c.args.digest.now (option_copied c.args.from)) Mounting mount_answer (commands.mount old.catalog c.args.repo.now c.args.digest.now (option_copied c.args.from)) refl (λ a. refl) (mount_accepts old.catalog new.catalog new.slots c.args.repo.now c.args.digest.now (option_copied c.args.from)) c.mount.ensures.does in
    (acts, same_rise old.slots new.slots c.mount.ensures.slots.1)
