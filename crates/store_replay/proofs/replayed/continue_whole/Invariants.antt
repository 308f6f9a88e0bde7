use Rattle.log_frames.specs.Headers.{log_bytes}
use Rattle.store_replay.specs.Replays.{replayed_before}
use Rattle.store_replay.proofs.replayed.continue_whole.Given as goal

abbrev pub ghosts-continue_on_file_as-F-FramesName : goal.ghosts-continue_on_file_as-F-FramesName
ghosts-continue_on_file_as-F-FramesName g a = record { frames = a.trail.now }

abbrev pub ghosts-continue_on_file_as-B-BytesName : goal.ghosts-continue_on_file_as-B-BytesName
ghosts-continue_on_file_as-B-BytesName g a = record { bytes = log_bytes a.id a.trail.now }

abbrev pub ghosts-continue_on_file_as-C-BytesName : goal.ghosts-continue_on_file_as-C-BytesName
ghosts-continue_on_file_as-C-BytesName g a = record { bytes = replayed_before a.replay a.trail.now }
