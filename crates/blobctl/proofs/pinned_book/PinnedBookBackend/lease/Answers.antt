use Rattle.std.proofs.Common.{Ok, Err}
use Rattle.std.proofs.lemmas.Result.{err_from_is_err_and}
use Rattle.blobctl.proofs.Leasing.{lease_acts, lending_rise}
use Rattle.blobctl.proofs.pinned_book.PinnedBookBackend.lease.Goals as goal

pub returns-in_err-pin : goal.returns-in_err-pin
returns-in_err-pin g c =
    let old = c.args.self.now.book in
    let new = c.lease.new.self in
    let p = err_from_is_err_and c.from_residual.result c.from_residual.ensures.1 in
    let rises = lending_rise c.args.digest.now old.slots new.slots c.in_err-pin.ensures.slots.1 in
    rw (p.1, p.2) (lease_acts _ (Err c.in_err-pin.field-0.0) old.catalog new.catalog new.slots c.args.repo.now c.args.digest.now c.in_err-pin.ensures.does, rises)

pub returns : goal.returns
returns g c =
    let old = c.args.self.now.book in
    let new = c.lease.new.self in
    let rises = lending_rise c.args.digest.now old.slots new.slots c.in_ok-pin.ensures.slots.1 in
    rw c.new.ensures ((lease_acts _ (Ok (c.in_ok-pin.pin, c.in_ok-pin.blob)) old.catalog new.catalog new.slots c.args.repo.now c.args.digest.now c.in_ok-pin.ensures.does, rises), c.in_ok-pin.ensures.pin.2)
