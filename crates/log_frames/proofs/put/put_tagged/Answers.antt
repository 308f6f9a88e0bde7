use Rattle.std.proofs.lemmas.Result.{err_from_is_err_and}
use Rattle.log_frames.specs.Sums.{tagged}
use Rattle.log_frames.proofs.Puts.{err_puts, part_of_more, then_puts}
use Rattle.log_frames.proofs.put.put_tagged.Goals as goal

pub returns-in_err-put : goal.returns-in_err-put
unfolding tagged
returns-in_err-put g c =
    let p = err_from_is_err_and c.from_residual.result c.from_residual.ensures.1 in
    err_puts _ p.0 _ _ _ p.1 (part_of_more _ _ c.args.bytes.now _ c.in_err-put.ensures)

pub returns : goal.returns
unfolding tagged
returns g c = rw (← c.to_le_bytes.ensures) (then_puts c.put-2.result _ _ _ _ _ c.in_ok-put.ensures c.put-2.ensures)
