use Rattle.std.proofs.Common.{◌∷◌, []}
use Rattle.log_frames.specs.Frames.{frame_of}
use Rattle.framed_disk.proofs.deed.add_frame.Given as goal

abbrev pub ghosts-add_frame_as : goal.ghosts-add_frame_as
ghosts-add_frame_as a = record { frames = frame_of a.synced a.payload.now ∷ [] }
