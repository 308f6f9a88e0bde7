use Rattle.std.proofs.Common.{subst, sym}
use Rattle.lease_table.specs.Calls.{event_of}
use Rattle.lease_table.specs.Histories.{AddsEvent, IsLeaseHistoryPart, LogLeadsTo, trace_of}
use Rattle.lease_table.proofs.Additions.{adds_after, LogLeadsTo-push, part_after}
use Rattle.lease_table.proofs.history.LeaseHistory.add.Goals as goal

pub invariant_of-writer : goal.invariant_of-writer
invariant_of-writer g c =
    let log = g.L.LeaseNaming.log in
    let way = c.requires in
    let run = subst (λ es. LogLeadsTo es way.0) (sym c.self.view_is) way.2 in
    subst (λ w. IsLeaseHistoryPart log (trace_of w)) (sym c.append.ensures.writer)
    (part_after c.self.inside.log c.writer.inside.writer (event_of c.args.call) way.0 way.1 c.append.ensures.agrees run way.3 log c.writer.invariant.named)

pub returns-clause-adds : goal.returns-clause-adds
returns-clause-adds g c =
    let way = c.requires in
    let run = subst (λ es. LogLeadsTo es way.0) (sym c.self.view_is) way.2 in
    subst (λ w. AddsEvent c.args.writer.now (event_of c.args.call) (trace_of w)) (sym c.append.ensures.writer)
    (adds_after c.self.inside.log c.writer.inside.writer (event_of c.args.call) way.0 way.1 c.append.ensures.agrees run way.3 c.args.writer.now c.writer.view_is)

pub returns-clause-leads : goal.returns-clause-leads
returns-clause-leads g c = λ t t' run last.
    subst (λ l. LogLeadsTo l.entries t') (sym c.append.ensures.log)
    (LogLeadsTo-push c.self.inside.log.entries c.writer.inside.writer.number (event_of c.args.call) t t' (subst (λ es. LogLeadsTo es t) (sym c.self.view_is) run) last)
