use Rattle.std.specs.Arc.{arc_value}
use Rattle.std.proofs.Common.{refl}
use Rattle.blobctl.proofs.BookCalls.{manifest_acts}
use Rattle.blobctl.proofs.Leasing.{same_rise}
use Rattle.blobctl.proofs.pinned_book.PinnedBookBackend.get_manifest.Goals as goal

pub returns : goal.returns
returns g c =
    let old = c.args.self.now.book in
    (manifest_acts arc_value c.get_manifest.result old.catalog old.slots c.args.repo.now c.args.digest.now c.get_manifest.ensures, same_rise old.slots old.slots refl)
