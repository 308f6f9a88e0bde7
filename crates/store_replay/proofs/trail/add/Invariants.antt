use Rattle.log_frames.specs.Frames.{frame_of}
use Rattle.store_replay.proofs.trail.add.Given as goal

abbrev pub ghosts-add_as : goal.ghosts-add_as
ghosts-add_as a = record { frame = frame_of a.synced a.payload.now }
