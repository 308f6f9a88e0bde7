use Rattle.std.proofs.Common.{◌++◌, subst, sym}
use Rattle.framed_disk.specs.Survivors.{AreHarmless, LeavesCut}
use Rattle.segmented_disk.specs.Survivors.{PreservesAll}
use Rattle.segmented_disk.specs.Views.{SegmentedView}
use Rattle.segmented_disk.proofs.Segments.{preserves_all}
use Rattle.segmented_disk.proofs.segmented_disk.SegmentedDisk.reveal_survivors_before.Goals as goal

pub reveal_survivors_before-requires-clause-behind : goal.reveal_survivors_before-requires-clause-behind
reveal_survivors_before-requires-clause-behind g c = subst (λ (v : SegmentedView). AreHarmless v.segment.id c.args.left.now c.args.behind.now) (sym c.self.view_is) c.requires.behind

pub returns-clause-preserved : goal.returns-clause-preserved
returns-clause-preserved g c =
    subst (λ (v : SegmentedView). PreservesAll v (c.args.left.now ++ c.args.behind.now)) c.self.view_is (preserves_all _ _ c.self.invariant.keeps c.reveal_survivors_before.ensures.preserved)

pub returns-clause-cut : goal.returns-clause-cut
returns-clause-cut g c = subst (λ (v : SegmentedView). LeavesCut v.segment.id (c.args.left.now ++ c.args.behind.now)) c.self.view_is c.reveal_survivors_before.ensures.cut
