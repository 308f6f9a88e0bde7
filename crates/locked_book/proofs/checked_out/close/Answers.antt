use Rattle.std.proofs.Common.{ap, arith, ◌∙◌}
use Rattle.store_model.specs.Catalog.{Catalog}
use Rattle.locked_book.specs.Names.{setting_of}
use Rattle.store_model.specs.Amounts.{command_amounts_of}
use Rattle.locked_book.proofs.SessionSums.{finish_sums, full_is, refused_sums, still_sums, unknown_stays}
use Rattle.locked_book.proofs.Rooms.{added}
use Rattle.locked_book.proofs.checked_out.close.Goals as goal

pub overflow_sub-out : goal.overflow_sub-out
overflow_sub-out g c =
    let was = c.requires.kept in
    let done = finish_sums c.args.book.now.catalog c.finish.new.self.catalog c.args.hand c.args.digest.now c.in-Ok.size (record { pieces = c.reserved-reserved.ensures.pieces; last = c.reserved-reserved.ensures.last }) c.requires.full c.in-Ok.ensures.does in
    let sums = done.sums in
    let hands = sums.hands in
    omega (arith, was.0, hands)

pub overflow_sub-out-in-Ok : goal.overflow_sub-out-in-Ok
overflow_sub-out-in-Ok g c =
    let was = c.requires.kept in
    let done = finish_sums c.args.book.now.catalog c.finish.new.self.catalog c.args.hand c.args.digest.now c.in-Ok.size (record { pieces = c.reserved-reserved.ensures.pieces; last = c.reserved-reserved.ensures.last }) c.requires.full c.in-Ok.ensures.does in
    let sums = done.sums in
    let value = c.reserved-reserved.ensures.value in
    let reserve = sums.reserve in
    omega (arith, was.1, reserve, value)

pub add-requires-clause-commands : goal.add-requires-clause-commands
add-requires-clause-commands g c =
    let was = c.requires.kept in
    let done = finish_sums c.args.book.now.catalog c.finish.new.self.catalog c.args.hand c.args.digest.now c.in-Ok.size (record { pieces = c.reserved-reserved.ensures.pieces; last = c.reserved-reserved.ensures.last }) c.requires.full c.in-Ok.ensures.does in
    let sums = done.sums in
    let hands = sums.hands in
    omega (arith, was.0, was.2, hands)

pub add-requires-clause-received : goal.add-requires-clause-received
add-requires-clause-received g c =
    let was = c.requires.kept in
    let done = finish_sums c.args.book.now.catalog c.finish.new.self.catalog c.args.hand c.args.digest.now c.in-Ok.size (record { pieces = c.reserved-reserved.ensures.pieces; last = c.reserved-reserved.ensures.last }) c.requires.full c.in-Ok.ensures.does in
    let sums = done.sums in
    let value = c.reserved-reserved.ensures.value in
    let reserve = sums.reserve in
    omega (arith, was.1, was.3, reserve, value)

pub add-requires-clause-closed : goal.add-requires-clause-closed
add-requires-clause-closed g c =
    let was = c.requires.kept in
    let done = finish_sums c.args.book.now.catalog c.finish.new.self.catalog c.args.hand c.args.digest.now c.in-Ok.size (record { pieces = c.reserved-reserved.ensures.pieces; last = c.reserved-reserved.ensures.last }) c.requires.full c.in-Ok.ensures.does in
    let sums = done.sums in
    let size = done.size in
    let reserve = sums.reserve in
    let bytes = sums.bytes in
    omega (arith, was.1, was.3, was.4, reserve, bytes, size)

pub returns-in-Ok-clause-kept : goal.returns-in-Ok-clause-kept
returns-in-Ok-clause-kept g c =
    let was = c.requires.kept in
    let done = finish_sums c.args.book.now.catalog c.finish.new.self.catalog c.args.hand c.args.digest.now c.in-Ok.size (record { pieces = c.reserved-reserved.ensures.pieces; last = c.reserved-reserved.ensures.last }) c.requires.full c.in-Ok.ensures.does in
    let sums = done.sums in
    let value = c.reserved-reserved.ensures.value in
    let size = done.size in
    let hands = sums.hands in
    let reserve = sums.reserve in
    let bytes = sums.bytes in
    let totals = added c.args.counters.now c.add.new.self (command_amounts_of c.reserved-reserved.result c.in-Ok.size 0) c.add.ensures.totals in (
      omega (arith, was.0, hands),
      omega (arith, was.1, reserve, value),
      omega (arith, was.0, was.2, hands, totals.commands),
      omega (arith, was.1, was.3, reserve, value, totals.received),
      omega (arith, was.4, bytes, value, size, totals.received, totals.closed, totals.abandoned),
      c.finish.ensures.slots.0 ∙ was.5,
      c.finish.ensures.slots.1.0 ∙ was.6,
      sums.setting ∙ was.7,
    )

pub overflow_sub-out-in_default : goal.overflow_sub-out-in_default
overflow_sub-out-in_default g c =
    let was = c.requires.kept in
    let sums = refused_sums c.args.book.now.catalog c.finish.new.self.catalog c.args.hand c.in-Err.ensures.does.1 (c.in-Err.ensures.taken (λ e. c.in_default.not-UploadUnknown e)) in
    let hands = sums.hands in
    omega (arith, was.0, hands)

pub overflow_sub-out-in_default-2 : goal.overflow_sub-out-in_default-2
overflow_sub-out-in_default-2 g c =
    let was = c.requires.kept in
    let sums = refused_sums c.args.book.now.catalog c.finish.new.self.catalog c.args.hand c.in-Err.ensures.does.1 (c.in-Err.ensures.taken (λ e. c.in_default.not-UploadUnknown e)) in
    let value = c.reserved-reserved.ensures.value in
    let reserve = sums.reserve in
    omega (arith, was.1, reserve, value)

pub returns-in_default-clause-kept : goal.returns-in_default-clause-kept
returns-in_default-clause-kept g c =
    let was = c.requires.kept in
    let sums = refused_sums c.args.book.now.catalog c.finish.new.self.catalog c.args.hand c.in-Err.ensures.does.1 (c.in-Err.ensures.taken (λ e. c.in_default.not-UploadUnknown e)) in
    let value = c.reserved-reserved.ensures.value in
    let hands = sums.hands in
    let reserve = sums.reserve in
    let bytes = sums.bytes in (
      omega (arith, was.0, hands),
      omega (arith, was.1, reserve, value),
      omega (arith, was.0, was.2, hands),
      omega (arith, was.1, was.3, reserve, value),
      omega (arith, was.4, bytes),
      c.finish.ensures.slots.0 ∙ was.5,
      c.finish.ensures.slots.1.0 ∙ was.6,
      sums.setting ∙ was.7,
    )

pub returns-in-UploadUnknown-clause-kept : goal.returns-in-UploadUnknown-clause-kept
returns-in-UploadUnknown-clause-kept g c =
    let was = c.requires.kept in
    let is = c.in-UploadUnknown.is in
    let same = unknown_stays c.args.book.now.catalog c.finish.new.self.catalog c.args.hand c.args.digest.now c.in-Err.ensures.does.1 (rw is at c.in-Err.ensures.does.0 (λ e. absurd cc)) in
    let sums = still_sums c.args.book.now.catalog c.finish.new.self.catalog (ap (λ (C : Catalog). C.sessions) same) (ap setting_of same) in
    let hands = sums.hands in
    let reserve = sums.reserve in
    let bytes = sums.bytes in (
      omega (arith, was.0, hands),
      omega (arith, was.1, reserve),
      was.2,
      was.3,
      omega (arith, was.4, bytes),
      c.finish.ensures.slots.0 ∙ was.5,
      c.finish.ensures.slots.1.0 ∙ was.6,
      sums.setting ∙ was.7,
    )

pub returns-in-Ok-clause-length : goal.returns-in-Ok-clause-length
returns-in-Ok-clause-length g c =
    let done = finish_sums c.args.book.now.catalog c.finish.new.self.catalog c.args.hand c.args.digest.now c.in-Ok.size (record { pieces = c.reserved-reserved.ensures.pieces; last = c.reserved-reserved.ensures.last }) c.requires.full c.in-Ok.ensures.does in
    let size = done.size in
    let filled = full_is c.args.hand c.reserved-reserved.ensures.last c.requires.full in
    omega (arith, size, filled)
