use Rattle.std.proofs.Common.{List, ℕ, map}
use Rattle.std.specs.List.{flat_map}
use Rattle.std.specs.Io.KnownBytes.{Appends}
use Rattle.std.specs.Prelude.{Option}
use Rattle.store_model.specs.Sessions.{number_and_length, sessions_of}
use Rattle.store_book.specs.Internal.Lines.{session_row}
use Rattle.store_book.proofs.print.print_sessions.Given as goal

-- after the remaining sessions are written, all are written
abbrev pub invariant-loop-number : goal.invariant-loop-number
invariant-loop-number g l = (whole : Option (List ℕ)) → Appends (g.W.Write.contents l.writer) whole (flat_map session_row l.number-iterator) → Appends (g.W.Write.contents l.fn.writer) whole (flat_map session_row (map number_and_length (sessions_of l.uploads.sessions l.tenant l.repo)))
