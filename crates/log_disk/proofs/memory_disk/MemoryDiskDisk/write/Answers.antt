use Rattle.std.proofs.Common.{◌∙◌, ◌++◌, ap}
use Rattle.std.proofs.lemmas.List.{take-append-drop}
use Rattle.log_disk.proofs.memory_disk.MemoryDiskDisk.write.Goals as goal

pub returns-then-fails-clause-err : goal.returns-then-fails-clause-err
returns-then-fails-clause-err c =
    let front = c.split_at.result.0.now in record {
      part = front;
      of = (c.split_at.result.1.now, simp (c.split_at.ensures.front, c.split_at.ensures.back, take-append-drop));
      ends = c.in_ok-put.ensures.ok ∙ ap (λ d. d.0 ++ front) c.fails.ensures;
    }
