-- The frames so far were taken in their order.
use Rattle.std.specs.Prelude.{◌≡◌, List, vec_len}
use Rattle.std.specs.Io.KnownBytes.{Consumes}
use Rattle.log_frames.specs.Endings.{Takes, largest_synced}
use Rattle.log_frames.specs.Frames.{AreFrames, Frame, end_of, frames_bytes}
use Rattle.log_frames.specs.Reads.{HasRoomFor}
use Rattle.log_frames.proofs.reading.take_frames.Given as goal

abbrev pub invariant-loop-turn : goal.invariant-loop-turn
invariant-loop-turn g l =
    (frames : List Frame)
    × AreFrames l.id l.fn.start frames
    × Takes g.S.FrameSink.takes l.fn.sink frames l.sink
    × Consumes (g.R.Read.remaining l.fn.input) (g.R.Read.remaining l.input) (frames_bytes l.id l.fn.start frames)
    × (l.cursor ≡ end_of l.id l.fn.start frames)
    × (l.synced ≡ largest_synced frames)
    × HasRoomFor 0 (g.R.Read.remaining l.fn.input) (vec_len l.fn.buffer) (vec_len l.buffer)
