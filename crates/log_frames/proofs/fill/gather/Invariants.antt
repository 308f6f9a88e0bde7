-- The bytes gathered so far are those that the input gave.
use Rattle.std.specs.Prelude.{◌≡◌, ◌-◌, ◌≤◌, drop, take, vec_len}
use Rattle.std.specs.Io.KnownBytes.{Consumes}
use Rattle.log_frames.specs.Reads.{HasRoomFor}
use Rattle.log_frames.proofs.fill.gather.Given as goal

abbrev pub invariant-loop-count : goal.invariant-loop-count
invariant-loop-count g l = record {
  low : l.start ≤ l.count;
  high : l.count ≤ l.len;
  held : l.count ≤ vec_len l.buffer;
  before : take l.start l.buffer.items ≡ take l.start l.initial.buffer.items;
  read : Consumes (g.R.Read.remaining l.initial.input) (g.R.Read.remaining l.input) (drop l.start (take l.count l.buffer.items));
  memory : HasRoomFor l.start (g.R.Read.remaining l.initial.input) (vec_len l.initial.buffer) (vec_len l.buffer);
}

abbrev pub decreases-loop-count : goal.decreases-loop-count
decreases-loop-count g l = l.len - l.count
