use Rattle.std.proofs.Common.{arith, sym}
use Rattle.store_api.proofs.FieldTexts.{range_holds}
use Rattle.wire_server.proofs.Ranges.{range_of_ends-err}
use Rattle.wire_server.proofs.command.range_between.Goals as goal
use Rattle.wire_server.proofs.command.range_between.Goals.{else-start-end-via-then-start-end+else-end-lt9223372036854775808, else-start-end-via-else-start-end}

pub returns-then-end-lt9223372036854775808 : goal.returns-then-end-lt9223372036854775808
returns-then-end-lt9223372036854775808 c = sym (range_holds _)

pub returns-else-start-end : goal.returns-else-start-end
returns-else-start-end c = sym (range_of_ends-err c.args.start c.args.end (λ ordered small. elim c.else-start-end.branch [
  | else-start-end-via-then-start-end+else-end-lt9223372036854775808 w ↦ omega (arith, w.if-end-lt9223372036854775808.false, small)
  | else-start-end-via-else-start-end w ↦ omega (arith, w.if-start-end.false, ordered)
]))
