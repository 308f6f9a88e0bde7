use Rattle.std.proofs.Common.{refl}
use Rattle.blobctl.proofs.BookCalls.{status_acts}
use Rattle.blobctl.proofs.Leasing.{same_rise}
use Rattle.blobctl.proofs.pinned_book.PinnedBookBackend.status.Goals as goal

pub returns : goal.returns
returns g c =
    let old = c.args.self.now.book in
    (status_acts c.status.result old.catalog old.slots c.args.repo.now c.args.number c.status.ensures, same_rise old.slots old.slots refl)
