use Rattle.std.proofs.Common.{ap, arith, length, ◌∙◌}
use Rattle.store_model.specs.Amounts.{command_amounts_of}
use Rattle.locked_book.proofs.SessionSums.{filled_is, put_back_sums}
use Rattle.locked_book.proofs.Rooms.{added}
use Rattle.locked_book.proofs.checked_out.check_in.Goals as goal

pub overflow_sub-out : goal.overflow_sub-out
overflow_sub-out g c =
    let was = c.requires.kept in
    let sums = put_back_sums c.args.book.now.catalog c.put_back.new.self.catalog c.args.hand c.in_ok-after.after c.in_ok-after.ensures.does in
    let hands = sums.hands in
    omega (arith, was.0, hands)

pub overflow_sub-out-2 : goal.overflow_sub-out-2
overflow_sub-out-2 g c =
    let was = c.requires.kept in
    let sums = put_back_sums c.args.book.now.catalog c.put_back.new.self.catalog c.args.hand c.in_ok-after.after c.in_ok-after.ensures.does in
    let value = c.reserved-reserved.ensures.value in
    let reserve = sums.reserve in
    omega (arith, was.1, reserve, value)

pub add-requires-clause-commands : goal.add-requires-clause-commands
add-requires-clause-commands g c =
    let was = c.requires.kept in
    let sums = put_back_sums c.args.book.now.catalog c.put_back.new.self.catalog c.args.hand c.in_ok-after.after c.in_ok-after.ensures.does in
    let hands = sums.hands in
    omega (arith, was.0, was.2, hands)

pub add-requires-clause-received : goal.add-requires-clause-received
add-requires-clause-received g c =
    let was = c.requires.kept in
    let sums = put_back_sums c.args.book.now.catalog c.put_back.new.self.catalog c.args.hand c.in_ok-after.after c.in_ok-after.ensures.does in
    let value = c.reserved-reserved.ensures.value in
    let reserve = sums.reserve in
    omega (arith, was.1, was.3, reserve, value)

pub returns-clause-kept : goal.returns-clause-kept
returns-clause-kept g c =
    let was = c.requires.kept in
    let sums = put_back_sums c.args.book.now.catalog c.put_back.new.self.catalog c.args.hand c.in_ok-after.after c.in_ok-after.ensures.does in
    let value = c.reserved-reserved.ensures.value in
    let filled = filled_is c.args.hand c.reserved-reserved.ensures.last c.requires.filled in
    let hands = sums.hands in
    let reserve = sums.reserve in
    let bytes = sums.bytes in
    let totals = added c.args.counters.now c.add.new.self (command_amounts_of c.reserved-reserved.result 0 0) c.add.ensures.totals in (
      omega (arith, was.0, hands),
      omega (arith, was.1, reserve, value),
      omega (arith, was.0, was.2, hands, totals.commands),
      omega (arith, was.1, was.3, reserve, value, totals.received),
      omega (arith, was.4, bytes, value, filled, totals.received, totals.closed, totals.abandoned),
      c.put_back.ensures.slots.0 ∙ was.5,
      ap length c.put_back.ensures.slots.1 ∙ was.6,
      sums.setting ∙ was.7,
    )
