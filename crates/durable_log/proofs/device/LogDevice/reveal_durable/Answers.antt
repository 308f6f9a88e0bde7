use Rattle.std.proofs.Common.{◌≡◌, ◌++◌, ap, sym, subst, ◌∙◌, []}
use Rattle.ghost_log.specs.Entries.{IsPrefix, events_by}
use Rattle.durable_log.specs.Encoding.{encode}
use Rattle.durable_log.specs.Views.{last_of}
use Rattle.durable_log.specs.Invariants.{last_mark}
use Rattle.durable_log.proofs.Prefixes.{prefix_after, prefix_trans}
use Rattle.durable_log.proofs.Marks.{last_mark_known, marked_within}
use Rattle.durable_log.proofs.device.LogDevice.reveal_durable.Goals as goal

pub returns-clause-history : goal.returns-clause-history
returns-clause-history g c =
    let b = c.backlog.inside in
    let w = c.writer.inside.marker in
    let within = marked_within g.N.Naming.bytes b.history.entries b.synced b.durable_marks.entries w.number c.backlog.invariant.5 in
    let known = ap (last_of []) c.catch_up.ensures.agrees.own ∙ ap (λ t. t.durable) c.writer.view_is in
    subst (λ k. IsPrefix k c.args.backlog.now.history) known (subst (λ v. IsPrefix (last_of [] (events_by w.number b.durable_marks.entries)) v.history) c.backlog.view_is within.of)

pub returns-clause-durable : goal.returns-clause-durable
returns-clause-durable g c =
    let f = g.N.Naming.bytes in
    let base = g.N.Naming.names.base in
    let b = c.backlog.inside in
    let d = c.self.inside in
    let w = c.writer.inside.marker in
    let marks = b.durable_marks.entries in
    let durable = g.D.Disk.synced d.disk in
    let mine = last_of [] (events_by w.number marks) in
    let within = marked_within f b.history.entries b.synced marks w.number c.backlog.invariant.5 in
    let known = ap (last_of []) c.catch_up.ensures.agrees.own ∙ ap (λ t. t.durable) c.writer.view_is in
    let own : events_by d.marker.number marks ≡ d.marker.own = ap (λ l. events_by d.marker.number l.entries) (sym c.catch_up.ensures.log) ∙ c.catch_up-2.ensures.agrees.own in
    let same = last_mark_known marks d.marker.number d.marker.own c.self.invariant.3 own in
    let safe = prefix_trans (base ++ encode f mine) (base ++ encode f (last_mark marks)) durable (prefix_after base (encode f mine) (encode f (last_mark marks)) within.bytes_of) (subst (λ k. IsPrefix (base ++ encode f k) durable) (sym same) c.self.invariant.4.safe) in
    subst (λ k. IsPrefix (base ++ encode f k) c.args.self.now.durable) known (subst (λ v. IsPrefix (base ++ encode f mine) v.durable) c.self.view_is safe)
