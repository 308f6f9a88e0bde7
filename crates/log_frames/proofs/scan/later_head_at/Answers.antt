use Rattle.std.proofs.Common.{arith, refl}
use Rattle.log_frames.proofs.Scanning.{at_front, earlier, none_there, other_number}
use Rattle.log_frames.proofs.scan.later_head_at.Goals as goal

pub returns-then-number-place : goal.returns-then-number-place
returns-then-number-place c =
    let inv = c.u64_at-number.type_inv in
    other_number c.args.id c.args.limit c.args.place c.u64_at-number.result.0 c.args.bytes.now _ (omega arith) c.u64_at-number.ensures c.if-number-place.true

pub returns-then-head-limit : goal.returns-then-head-limit
returns-then-head-limit c =
    let inv = c.u64_at-number.type_inv in
    at_front c.args.id c.args.limit c.args.place c.u64_at-number.result.0 c.args.bytes.now _ c.split_at.result.0.now c.in-Some.head (omega arith) c.u64_at-number.ensures c.if-number-place.false c.split_at.ensures.front c.in-Some.ensures.head c.if-head-limit.true

pub returns-else-head-limit : goal.returns-else-head-limit
returns-else-head-limit c = earlier c.args.id c.args.limit c.args.place c.args.bytes.now c.split_at.result.0.now c.in-Some.head c.split_at.ensures.front c.in-Some.ensures.head c.if-head-limit.false

pub returns-in-None : goal.returns-in-None
returns-in-None c = none_there c.args.id c.args.limit c.args.place c.args.bytes.now c.split_at.result.0.now c.split_at.ensures.front (c.in-None.ensures.none refl)
