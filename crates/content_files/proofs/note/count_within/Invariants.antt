use Rattle.std.proofs.Common.{◌≡◌, take}
use Rattle.std.specs.Prelude.{sum_by}
use Rattle.content_files.specs.declared.note.Note.{Note}
use Rattle.content_files.proofs.note.count_within.Given as goal

-- the length of the pieces so far
abbrev pub invariant-loop-index : goal.invariant-loop-index
invariant-loop-index l = l.end ≡ sum_by (λ (n : Note). n.len) (take l.index l.fn.notes)
