-- No later head begins in what was passed, whatever follows the window.
use Rattle.std.specs.Prelude.{◌≤◌, List, ℕ, take, vec_len}
use Rattle.log_frames.specs.Reads.{HasRoomFor}
use Rattle.log_frames.proofs.Scanning.{Window}
use Rattle.log_frames.proofs.scan.find_later_head.Given as goal

abbrev pub invariant-loop-turn : goal.invariant-loop-turn
invariant-loop-turn g l =
    (passed : List ℕ)
    × (gone : List ℕ)
    × (l.filled ≤ vec_len l.buffer)
    × Window l.id l.place l.at (take l.count l.fn.buffer.items) gone passed (take l.filled l.buffer.items) (g.R.Read.remaining l.fn.input) (g.R.Read.remaining l.input)
    × HasRoomFor l.count (g.R.Read.remaining l.fn.input) (vec_len l.fn.buffer) (vec_len l.buffer)
