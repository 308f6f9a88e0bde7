use Rattle.log_records.specs.Changes.{change_view}
use Rattle.log_records.specs.Decoding.{IsNext, Record}
use Rattle.log_state.proofs.Records.{one_more}
use Rattle.log_state.proofs.reading.LogReading.take_records.Goals as goal

pub loop-turn-preserved : goal.loop-turn-preserved
loop-turn-preserved c =
    let change = change_view c.in-Ok-Some.next.0 in
    let after = c.in-Ok-Some.next.1.now in
    let is : IsNext c.loop-turn.rest.now (Record change after) = rw c.in-Ok-Some.field-0-is at c.in-Ok-Some.ensures.next in
    record {
      left = c.loop-turn.invariant.left;
      takes = one_more c.args.self.now c.loop-turn.self _ c.args.bytes.now c.loop-turn.rest.now after change is.0 is.1 c.in_default.ensures
          c.loop-turn.invariant.takes;
    }
