use Rattle.segmented_disk.proofs.Segments.{preserves_contents}
use Rattle.segmented_disk.proofs.segmented_disk.SegmentedDiskFileBacked.reveal_kept.Goals as goal

pub returns-clause-preserved : goal.returns-clause-preserved
returns-clause-preserved g c = preserves_contents c.args.self.now _ c.reveal_survivors.ensures.preserved
