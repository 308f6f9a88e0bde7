use Rattle.std.proofs.Common.{ap, arith, length, refl, ◌∙◌}
use Rattle.locked_book.proofs.SessionSums.{take_sums}
use Rattle.locked_book.proofs.Rooms.{room_given}
use Rattle.locked_book.proofs.checked_out.check_out.Goals as goal

pub returns-clause-kept : goal.returns-clause-kept
returns-clause-kept g c =
    let was = c.requires in
    let sums = take_sums c.args.book.now.catalog c.take.new.self.catalog c.args.repo.now c.args.number c.args.len c.args.range c.in_ok-hand.hand c.in_ok-hand.ensures.does in
    let hands = sums.hands in
    let reserve = sums.reserve in
    let bytes = sums.bytes in
    let room = room_given (record { book = c.args.book.now; counts = c.args.counters.now }) (record { book = c.args.book.now; counts = c.args.counters.now }) c.args.len c.in_ok-room.field-0 refl c.in_ok-room.ensures.room in (
      omega (arith, was.0, hands),
      omega (arith, was.1, reserve),
      omega (arith, was.0, room.0),
      omega (arith, was.1, room.1),
      omega (arith, was.4, bytes),
      c.take.ensures.slots.0 ∙ was.5,
      ap length c.take.ensures.slots.1 ∙ was.6,
      sums.setting ∙ was.7,
    )
