use Rattle.std.proofs.Common.{◌∙◌, ap, sym, arith}
use Rattle.log_frames.specs.Sums.{sum_words}
use Rattle.log_frames.proofs.Sums.{words_append}
use Rattle.log_frames.proofs.write.frame_sum.Goals as goal

pub returns : goal.returns
returns c = c.sum_words-2.ensures ∙ ap (λ s. sum_words s c.args.payload.now) c.sum_words.ensures ∙ sym (words_append 4 c.args.before c.args.head.now c.args.payload.now (omega arith))
