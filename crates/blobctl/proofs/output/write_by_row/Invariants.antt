use Rattle.std.proofs.Common.{◌≡◌, drop, take}
use Rattle.std.specs.Io.KnownBytes.{Appends}
use Rattle.script_player.specs.Replies.{replies_text}
use Rattle.blobctl.proofs.output.write_by_row.Given as goal

-- the replies so far were written, and the others remain
abbrev pub invariant-loop-place : goal.invariant-loop-place
invariant-loop-place g l = record {
  written : Appends (g.W.Write.contents l.fn.writer) (g.W.Write.contents l.writer) (replies_text (take l.place l.fn.replies));
  left : l.replies ≡ drop l.place l.fn.replies;
}
