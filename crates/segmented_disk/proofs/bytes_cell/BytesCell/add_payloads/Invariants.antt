use Rattle.std.proofs.Common.{◌++◌}
use Rattle.framed_disk.specs.Views.{attempted}
use Rattle.segmented_disk.proofs.bytes_cell.BytesCell.add_payloads.Given as goal

abbrev pub ghosts-add_payloads_as : goal.ghosts-add_payloads_as
ghosts-add_payloads_as g a = record { bytes = a.cell.now ++ attempted a.segment.now }
