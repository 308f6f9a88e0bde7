use Rattle.std.proofs.Common.{ap, subst, ◌∙◌}
use Rattle.log_disk.specs.Torn.{IsTorn}
use Rattle.durable_log.proofs.SegmentBytes.{torn_after}
use Rattle.durable_log.proofs.segments.write_each.Goals as goal

pub returns-in-Err-clause-err : goal.returns-in-Err-clause-err
returns-in-Err-clause-err g c =
    let segment = c.segment-item.result in
    let is = c.as_slice.ensures.value ∙ ap (λ v. v.items) c.segment-item.is in
    torn_after (λ v. v.items) c.args.segments.now c.loop-segment.segment-index segment (g.D.Disk.written c.args.disk.now) (g.D.Disk.written c.loop-segment.disk) (g.D.Disk.written c.write.new.self) c.loop-segment-test.true c.loop-segment.invariant.0
    (subst (λ w. IsTorn (g.D.Disk.written c.loop-segment.disk) w (g.D.Disk.written c.write.new.self)) is c.in-Err.ensures.err)
