use Rattle.std.proofs.Common.{◌∙◌, sym, arith}
use Rattle.log_frames.proofs.Apart.{Fits, no_fields}
use Rattle.log_frames.proofs.head.read_head.Goals as goal

pub returns-then-not-is_possible-clause-none : goal.returns-then-not-is_possible-clause-none
returns-then-not-is_possible-clause-none c = λ _ h is e.
    let k = c.fields_of-head.result in
    let inv = c.fields_of-head.type_inv in
    let fits : Fits k = record { place = omega arith; synced = omega arith; length = omega arith } in
    no_fields c.args.id h k c.args.bytes.now fits (sym c.split_at.ensures.front ∙ c.fields_of-head.ensures) (c.is_possible.ensures.no c.if-not-is_possible.true) is e
