use Rattle.std.proofs.Common.{refl}
use Rattle.store_model.specs.Commands as commands
use Rattle.store_model.specs.Runs.{Bytes}
use Rattle.store_api.specs.Answers.{Manifest}
use Rattle.store_api.specs.Commands.{PutManifest}
use Rattle.blobctl.proofs.BookCalls.{does_acts}
use Rattle.blobctl.proofs.Leasing.{same_rise}
use Rattle.blobctl.proofs.pinned_book.PinnedBookBackend.put_manifest.Goals as goal

pub returns : goal.returns
returns g c =
    let old = c.args.self.now.book in
    let new = c.put_manifest.new.self in
    let acts = does_acts (λ a. a) c.put_manifest.result old.catalog new.catalog new.slots (PutManifest c.args.repo.now c.args.bytes.now) Bytes Manifest (commands.put_manifest old.catalog c.args.repo.now c.args.bytes.now) refl (λ a. refl) (λ a h. h) c.put_manifest.ensures.does in
    (acts, same_rise old.slots new.slots c.put_manifest.ensures.slots.1)
