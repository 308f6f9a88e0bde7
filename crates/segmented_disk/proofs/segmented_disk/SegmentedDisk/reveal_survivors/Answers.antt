use Rattle.std.proofs.Common.{subst}
use Rattle.framed_disk.specs.Survivors.{IsUnforged, LeavesCut}
use Rattle.segmented_disk.specs.Survivors.{PreservesAll}
use Rattle.segmented_disk.specs.Views.{SegmentedView}
use Rattle.segmented_disk.proofs.Segments.{preserves_all}
use Rattle.segmented_disk.proofs.segmented_disk.SegmentedDisk.reveal_survivors.Goals as goal

pub returns-clause-preserved : goal.returns-clause-preserved
returns-clause-preserved g c = subst (λ (v : SegmentedView). PreservesAll v c.args.left.now) c.self.view_is (preserves_all _ _ c.self.invariant.keeps c.reveal_survivors.ensures.preserved)

pub returns-clause-cut : goal.returns-clause-cut
returns-clause-cut g c = subst (λ (v : SegmentedView). IsUnforged v.segment → LeavesCut v.segment.id c.args.left.now) c.self.view_is c.reveal_survivors.ensures.cut
