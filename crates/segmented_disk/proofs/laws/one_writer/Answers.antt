use Rattle.segmented_disk.proofs.Owners.{one_writer}
use Rattle.segmented_disk.proofs.laws.one_writer.Goals as goal

pub returns : goal.returns
returns c = one_writer
