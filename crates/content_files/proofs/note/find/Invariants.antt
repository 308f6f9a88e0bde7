use Rattle.std.proofs.Common.{◌≡◌, ◌≤◌, take}
use Rattle.std.specs.Prelude.{sum_by}
use Rattle.content_files.specs.declared.note.Note.{Note}
use Rattle.content_files.proofs.note.find.Given as goal

abbrev pub invariant-loop-index : goal.invariant-loop-index
invariant-loop-index l = (l.start ≡ sum_by (λ (n : Note). n.len) (take l.index l.fn.notes)) × (l.start ≤ l.fn.offset)
