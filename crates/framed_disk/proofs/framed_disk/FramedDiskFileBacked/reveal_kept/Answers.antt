use Rattle.framed_disk.proofs.Endings.{preserves_contents}
use Rattle.framed_disk.proofs.framed_disk.FramedDiskFileBacked.reveal_kept.Goals as goal

pub returns-clause-preserved : goal.returns-clause-preserved
returns-clause-preserved g c = preserves_contents c.args.self.now _ c.reveal_survivors.ensures.preserved
