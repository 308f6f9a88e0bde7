use Rattle.std.proofs.Common.{◌+◌, take}
use Rattle.std.proofs.KnownBytes.{Appends-trans}
use Rattle.store_api.specs.Answers.{answer_of, answers_of}
use Rattle.script_player.specs.Replies.{replies_text, reply_line}
use Rattle.blobctl.proofs.Replies.{replies_more}
use Rattle.blobctl.proofs.output.write_replies.Goals as goal

pub loop-place-preserved : goal.loop-place-preserved
loop-place-preserved g c =
    let i = c.loop-place.place in
    let replies = c.args.replies.now in
    let both = Appends-trans _ _ _ (replies_text (answers_of (take i replies))) (reply_line (i + 1, answer_of c.index-replies-place.result)) c.loop-place.invariant c.in_ok-write_reply.ensures in
    rw (replies_more replies i c.index-replies-place.result c.loop-place-test.true, ← c.index-replies-place.is) both
