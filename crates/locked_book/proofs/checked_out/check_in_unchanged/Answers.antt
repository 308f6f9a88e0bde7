use Rattle.std.proofs.Common.{ap, arith, length, ◌∙◌}
use Rattle.locked_book.proofs.SessionSums.{unfilled_is, put_back_sums}
use Rattle.locked_book.proofs.checked_out.check_in_unchanged.Goals as goal

pub overflow_sub-out : goal.overflow_sub-out
overflow_sub-out g c =
    let was = c.requires.kept in
    let sums = put_back_sums c.args.book.now.catalog c.put_back.new.self.catalog c.args.hand c.in_ok-received.received c.in_ok-received.ensures.does in
    let hands = sums.hands in
    omega (arith, was.0, hands)

pub overflow_sub-out-2 : goal.overflow_sub-out-2
overflow_sub-out-2 g c =
    let was = c.requires.kept in
    let sums = put_back_sums c.args.book.now.catalog c.put_back.new.self.catalog c.args.hand c.in_ok-received.received c.in_ok-received.ensures.does in
    let value = c.reserved-reserved.ensures.value in
    let reserve = sums.reserve in
    omega (arith, was.1, reserve, value)

pub returns-clause-kept : goal.returns-clause-kept
returns-clause-kept g c =
    let was = c.requires.kept in
    let sums = put_back_sums c.args.book.now.catalog c.put_back.new.self.catalog c.args.hand c.in_ok-received.received c.in_ok-received.ensures.does in
    let value = c.reserved-reserved.ensures.value in
    let unfilled = unfilled_is c.args.hand c.requires.unfilled in
    let hands = sums.hands in
    let reserve = sums.reserve in
    let bytes = sums.bytes in (
      omega (arith, was.0, hands),
      omega (arith, was.1, reserve, value),
      omega (arith, was.0, was.2, hands),
      omega (arith, was.1, was.3, reserve, value),
      omega (arith, was.4, bytes, unfilled),
      c.put_back.ensures.slots.0 ∙ was.5,
      ap length c.put_back.ensures.slots.1 ∙ was.6,
      sums.setting ∙ was.7,
    )
