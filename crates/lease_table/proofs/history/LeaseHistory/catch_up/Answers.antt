use Rattle.std.proofs.Common.{subst, sym}
use Rattle.lease_table.specs.Histories.{IsLegal, IsLeaseHistoryPart, events_of, trace_of}
use Rattle.lease_table.proofs.Additions.{caught_up}
use Rattle.lease_table.proofs.history.LeaseHistory.catch_up.Goals as goal

pub invariant_of-writer : goal.invariant_of-writer
invariant_of-writer g c =
    let log = g.L.LeaseNaming.log in
    let legal = subst (λ es. IsLegal (events_of es)) (sym c.self.view_is) c.requires in
    subst (λ w. IsLeaseHistoryPart log (trace_of w)) (sym c.catch_up.ensures.writer)
    (caught_up c.self.inside.log c.writer.inside.writer log c.writer.invariant.named c.catch_up.ensures.agrees legal)
