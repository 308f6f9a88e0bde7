-- The notes so far, and those of the bytes so far and of the other chunks, are the notes of all.
use Rattle.std.specs.Prelude.{◌≡◌, ◌++◌, [], drop}
use Rattle.log_state.specs.Sessions.{notes_after}
use Rattle.log_state.proofs.session.notes_of_all.Given as goal

abbrev pub invariant-loop-chunk : goal.invariant-loop-chunk
invariant-loop-chunk l = l.notes.items ++ notes_after l.bytes.items (drop l.chunk-index l.chunks) ≡ notes_after [] l.chunks
