use Rattle.std.proofs.Common.{refl, ne_eqb}
use Rattle.wire_server.proofs.command.range_of.Goals as goal

pub returns-else-head-eq1 : goal.returns-else-head-eq1
returns-else-head-eq1 c = rw (ne_eqb _ _ c.if-head-eq1.false) refl
