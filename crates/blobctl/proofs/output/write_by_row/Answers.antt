use Rattle.std.proofs.Common.{◌≡◌, ◌+◌, ◌<◌, ◌∙◌, ap, arith, drop, length, sym, take}
use Rattle.std.proofs.KnownBytes.{Appends-trans}
use Rattle.std.proofs.lemmas.List.{length-drop}
use Rattle.store_api.specs.Answers.{answer_of}
use Rattle.script_player.specs.Replies.{replies_text, reply_line}
use Rattle.blobctl.proofs.Replies.{next_left}
use Rattle.blobctl.proofs.output.write_by_row.Goals as goal

pub unreachable-requires : goal.unreachable-requires
unreachable-requires g c =
    let answers = c.args.replies.now in
    let none : length (drop c.loop-place.place answers) ≡ 0 = ap length (sym c.loop-place.invariant.left ∙ c.in_default.ensures) in
    omega (arith, none, length-drop c.loop-place.place answers, c.requires, c.loop-place-test.true, c.len-place-end.ensures)

pub loop-place-preserved : goal.loop-place-preserved
loop-place-preserved g c =
    let i = c.loop-place.place in
    let answers = c.args.replies.now in
    let within : i < length answers = omega (arith, c.requires, c.loop-place-test.true, c.len-place-end.ensures) in
    let next = next_left answers i (answer_of c.in-Some.reply) c.next_reply.new.self within (sym c.loop-place.invariant.left ∙ c.in-Some.ensures) in
    let both = Appends-trans _ _ _ (replies_text (take i answers)) (reply_line (i + 1, answer_of c.in-Some.reply)) c.loop-place.invariant.written c.in_ok-write_reply.ensures in
    record {
      written = rw next.1 both;
      left = next.0;
    }
