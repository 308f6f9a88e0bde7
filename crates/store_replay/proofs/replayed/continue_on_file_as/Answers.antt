use Rattle.std.proofs.Common.{◌∙◌, ap, length, sym}
use Rattle.framed_disk.proofs.Framing.{log_bytes-length}
use Rattle.log_frames.specs.declared.cursor.Cursor.{Cursor}
use Rattle.store_replay.proofs.replayed.continue_on_file_as.Goals as goal

pub new-requires : goal.new-requires
new-requires g c = ap length c.requires.bytes ∙ log_bytes-length c.args.id c.args.trail.now ∙ ap (λ (at : Cursor). at.place) (sym c.requires.of.1.at_end)
