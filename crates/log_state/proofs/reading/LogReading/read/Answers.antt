use Rattle.std.proofs.Common.{◌≡◌, [], arith}
use Rattle.std.proofs.lemmas.Grind.{common_steps}
use Rattle.log_state.proofs.Records.{reads_log}
use Rattle.log_state.proofs.reading.LogReading.read.Goals as goal

pub returns-in-End : goal.returns-in-End
returns-in-End g c =
    let none : c.read_frames-read.new.sink.left.items ≡ [] = grind (arith, common_steps) in
    reads_log _ _ _ _ _ _ _ c.start_of.ensures c.in-End.is none c.read_frames-read.ensures.read
