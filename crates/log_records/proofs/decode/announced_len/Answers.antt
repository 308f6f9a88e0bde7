use Rattle.std.proofs.Common.{◌≡◌, arith, length}
use Rattle.std.proofs.lemmas.Grind.{common_steps}
use Rattle.log_records.proofs.Reading.{announces}
use Rattle.log_records.proofs.decode.announced_len.Goals as goal

pub returns-clause-ok : goal.returns-clause-ok
returns-clause-ok c =
    let head = c.split_head.result.0 in
    let short : length c.args.head.now ≡ 24 = grind (arith, common_steps) in
    let all = announces c.in-Some.kind head c.args.head.now c.split_head.result.1.now c.split_head.ensures.fits c.split_head.ensures.bytes short c.in-Some.ensures.known (c.is_plain.ensures.yes c.if-not-is_plain.false) in
    rw c.payload_len.ensures all
