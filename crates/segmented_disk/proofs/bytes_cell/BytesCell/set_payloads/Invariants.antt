use Rattle.std.proofs.Common.{◌++◌}
use Rattle.framed_disk.specs.Views.{attempted}
use Rattle.segmented_disk.proofs.bytes_cell.BytesCell.set_payloads.Given as goal

abbrev pub ghosts-set_payloads_as : goal.ghosts-set_payloads_as
ghosts-set_payloads_as g a = record { bytes = a.front.now ++ attempted a.last.now }
