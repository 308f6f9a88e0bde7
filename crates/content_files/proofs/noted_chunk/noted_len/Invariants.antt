use Rattle.std.proofs.Common.{◌≡◌, ◌+◌, length}
use Rattle.content_files.specs.Chunks.{read_notes}
use Rattle.content_files.proofs.noted_chunk.noted_len.Given as goal

-- the length so far, and that of the other notes' pieces
abbrev pub invariant-loop-rest : goal.invariant-loop-rest
invariant-loop-rest l = length (read_notes l.fn.notes) ≡ l.len + length (read_notes l.rest)

abbrev pub decreases-loop-rest : goal.decreases-loop-rest
decreases-loop-rest l = length l.rest
