use Rattle.std.proofs.Common.{take}
use Rattle.std.specs.Io.KnownBytes.{Appends}
use Rattle.store_api.specs.Answers.{answers_of}
use Rattle.script_player.specs.Replies.{replies_text}
use Rattle.blobctl.proofs.output.write_replies.Given as goal

-- the replies so far were written
abbrev pub invariant-loop-place : goal.invariant-loop-place
invariant-loop-place g l = Appends (g.W.Write.contents l.fn.writer) (g.W.Write.contents l.writer) (replies_text (answers_of (take l.place l.replies)))
