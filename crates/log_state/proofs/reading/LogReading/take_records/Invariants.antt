-- The records before the rest were taken.
use Rattle.std.specs.Prelude.{◌≡◌}
use Rattle.log_state.specs.Reading.{TakesRecords}
use Rattle.log_state.proofs.reading.LogReading.take_records.Given as goal

abbrev pub invariant-loop-turn : goal.invariant-loop-turn
invariant-loop-turn l = record {
  left : l.self.left.items ≡ l.fn.self.left.items;
  takes : TakesRecords l.fn.self l.fn.bytes l.rest l.self;
}
