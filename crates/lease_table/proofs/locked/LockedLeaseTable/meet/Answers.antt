use Rattle.std.proofs.Common.{subst, sym}
use Rattle.lease_table.specs.Histories.{IsLegal, events_of}
use Rattle.lease_table.proofs.locked.LockedLeaseTable.meet.Goals as goal

pub catch_up-requires-2 : goal.catch_up-requires-2
catch_up-requires-2 g c = subst (λ es. IsLegal (events_of es)) (sym c.catch_up.ensures.same) (c.self.inside.table, c.self.invariant)
