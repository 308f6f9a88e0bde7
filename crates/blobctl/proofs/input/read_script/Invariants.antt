use Rattle.std.proofs.Common.{◌≡◌, ◌≤◌, length}
use Rattle.std.specs.Io.KnownBytes.{Consumes}
use Rattle.watched_reader.specs.Watching.{HasNotFailed, inner_of}
use Rattle.blobctl.proofs.input.read_script.Given as goal

-- the bytes read so far are the first that the reader had, no read failed, and each turn read at least one byte
abbrev pub invariant-loop-turn : goal.invariant-loop-turn
invariant-loop-turn g l = record {
  taken : Consumes (g.R.Read.remaining (inner_of l.fn.reader)) (g.R.Read.remaining (inner_of l.reader)) l.script;
  size : l.len ≡ length l.script;
  fits : length l.script ≤ 268435456;
  unfailed : HasNotFailed l.fn.reader l.reader;
  more : l._turn ≤ length l.script;
}
