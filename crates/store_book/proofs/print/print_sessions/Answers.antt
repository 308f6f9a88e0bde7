use Rattle.store_book.specs.Internal.Lines.{session_row}
use Rattle.spec_lib.proofs.Writing.{Appends-step}
use Rattle.store_book.proofs.print.print_sessions.Goals as goal

pub loop-number-preserved : goal.loop-number-preserved
loop-number-preserved g c = λ whole rest. c.loop-number.invariant whole (Appends-step session_row _ _ whole (c.in-Some.number, c.in-Some.received) _ _ c.in-Some.ensures.steps c.in_ok-print_session.ensures rest)
