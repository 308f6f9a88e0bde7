use Rattle.std.proofs.Common.{◌∙◌, [], ap}
use Rattle.segmented_disk.specs.Cells.{last_of}
use Rattle.segmented_disk.proofs.Cells.{last_of-snoc}
use Rattle.segmented_disk.proofs.bytes_cell.BytesCell.set.Goals as goal

pub returns : goal.returns
returns g c = ap (λ l. last_of [] l.entries) c.append.ensures.log ∙ last_of-snoc [] c.self.inside.sets.entries c.self.inside.writer.number g.P.BytesName.bytes
